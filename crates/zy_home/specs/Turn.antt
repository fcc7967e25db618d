-- A step at one place, in terms of the parts of a home. No public clause cites this module.
use Rattle.std.specs.Prelude.{◌≡◌, ◌≢◌, ℕ, ◌+◌, ◌≤◌, Bool, true, false, Option, Some, None, slice_get, slice_set}
use Rattle.zy_table.specs.Member.{is_in}
use Rattle.zy_shuffle.specs.Hand.{marked}
use Rattle.zy_shuffle.specs.Run.{Before}
use Rattle.zy_shuffle.specs.Pass.{Held, PublishMakes, after_publish}
use Rattle.zy_conn.specs.Work.{has_event}
use Rattle.zy_conn.specs.Block.{Blocked, label_in}
use Rattle.zy_home.specs.Link.{Link, conn_of}
use Rattle.zy_home.specs.Offer.{WaitsBehind}
use Rattle.zy_home.specs.Idle.{IsIdleWith, due_mark, mark_in}
use Rattle.zy_home.specs.Home.{Homed, IsHere}
use Rattle.zy_home.specs.Place.{MeetsInlet, KnowsAll}

-- ---- one place

-- the block of a place may be settled with its link
pub record IsDue (pass : Held Blocked) (place : ℕ) (link : Link) (block : Blocked) : Type 0 where
  pub hand : is_in place pass.hand ≡ true
  pub mark : mark_in block ≡ due_mark link
  pub label : label_in block ≡ pass.label

-- the block that was given was settled: it was published if it has an event, as one of a connection in this
-- state before, and otherwise is in its slot, idle
pub record IsSettled (before : Before) (place : ℕ) (given : Blocked) (link' : Link) (pass pass' : Held Blocked)
    (slot' : Option Blocked) : Type 0 where
  pub block : Blocked
  pub met : MeetsInlet given block
  pub mark : mark_in block ≡ due_mark link'
  pub label : label_in block ≡ pass.label
  pub event : has_event block.work ≡ true
      → (pass' ≡ after_publish place block pass pass'.trace) × (slot' ≡ None)
  pub makes : has_event block.work ≡ true → PublishMakes before mark_in place pass pass'
  pub idle : has_event block.work ≡ false
      → (pass' ≡ pass) × (slot' ≡ Some block) × IsIdleWith block.work link'
  pub knows : KnowsAll link' block
  pub behind : WaitsBehind link' block

-- an allocation failed, and the block is in its slot
pub record IsPutBack (pass pass' : Held Blocked) (slot' : Option Blocked) : Type 0 where
  pub block : Blocked
  pub label : label_in block ≡ pass.label
  pub pass_is : pass' ≡ pass
  pub slot_is : slot' ≡ Some block

-- ---- the home

-- the pass after a step at one place
pub record PassTurns (place : ℕ) (pass pass' : Held Blocked) : Type 0 where
  pub table : pass'.table ≡ pass.table
  pub label : pass'.label ≡ pass.label
  pub out : pass'.out ≡ pass.out
  pub once : pass'.count ≤ pass.count + 1
  pub hand : (q : ℕ) → q ≢ place → is_in q pass'.hand ≡ is_in q pass.hand
  pub kept : (q : ℕ) → q ≢ place → marked mark_in q pass'.kept ≡ marked mark_in q pass.kept

-- the home after a step at one place, and whether memory was refused
abbrev pub home_turned : Homed → ℕ → Option Blocked → Link → Held Blocked → Bool → Homed
home_turned h place slot link pass refused = record h {
  pass = pass;
  blocks = slice_set h.blocks place slot;
  links = slice_set h.links place link;
  refused = refused;
}

-- the step is one that a home may make
pub record Turns (h : Homed) (place : ℕ) (slot' : Option Blocked) (link link' : Link)
    (pass' : Held Blocked) : Type 0 where
  pub there : slice_get h.links place ≡ Some link
  pub conn : conn_of link' ≡ conn_of link
  pub pass : PassTurns place h.pass pass'
  pub here : (block : Blocked) → slot' ≡ Some block → IsHere pass' place block
