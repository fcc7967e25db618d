-- What the calls on a home do at one of its places, and which causes of the ring their answers pass on.
use Rattle.std.specs.Prelude.{◌≡◌, ℕ, ◌+◌, ◌≤◌, [], ◌++◌, true, false, Bool, Some, None, slice_get, slice_set}
use Rattle.std.specs.Prelude.{map, is_some}
use Rattle.zy_table.specs.Member.{is_in}
use Rattle.zy_rx.specs.declared.rx.Rx.{Rx}
use Rattle.zy_shuffle.specs.declared.claim.Claim.TheVariants as Claims
use Rattle.zy_shuffle.specs.Run.{Before, was_idle, was_held}
use Rattle.zy_shuffle.specs.Pass.{Held, Joined, Claimed, Collected, PublishMakes, after_publish}
use Rattle.zy_conn.specs.Work.{has_event}
use Rattle.zy_conn.specs.declared.hold_end.HoldEnd.{HoldEnd}
use Rattle.zy_conn.specs.Hold.{HeldTo, IsRecorded}
use Rattle.zy_conn.specs.Block.{Blocked, label_in}
use Rattle.zy_home.specs.Link.{Link, IsFor, conn_of}
use Rattle.zy_home.specs.Offer.{WaitsBehind, WaitsFull}
use Rattle.zy_home.specs.Idle.{due_mark, mark_in}
use Rattle.zy_home.specs.declared.own.Own.{Own}
use Rattle.zy_home.specs.declared.own.Own.TheVariants.{Took, Empty, Raced}
use Rattle.zy_home.specs.Home.{Homed}

-- ---- settling

-- the block of a place is with the caller, who may settle it: the place is in the home's hand, and
-- the block has the expected mark and the label
pub record IsOut (h : Homed) (place : ℕ) (block : Blocked) : Type 0 where
  pub link : Link
  pub there : slice_get h.links place ≡ Some link
  pub hand : is_in place h.pass.hand ≡ true
  pub mark : mark_in block ≡ due_mark link
  pub label : label_in block ≡ h.pass.label

-- a block after its batch was taken and it met its inlet: no text waits, other frames may be known, and nothing else
-- of it has changed
abbrev pub MeetsInlet : Blocked → Blocked → Type 0
MeetsInlet given block = block ≡ record given {
  work = record given.work {
    shown = given.work.finished;
    batch = [];
    known = block.work.known;
  };
}

-- the block has taken or knows each frame that was offered to it
abbrev pub KnowsAll : Link → Blocked → Type 0
KnowsAll l block = l.inlet.sent ≡ block.work.taken ++ block.work.known

-- the block that was given was settled at a place: its batch was taken, and it met its inlet. If it then has an event
-- it was published, as one of a connection in this state before; otherwise it stays in the home's hand. A frame waits
-- only if the ring is full
pub record Settles (before : Before) (place : ℕ) (given : Blocked) (h h' : Homed) : Type 0 where
  pub block : Blocked
  pub met : MeetsInlet given block
  pub event : has_event block.work ≡ true
      → (h'.pass ≡ after_publish place block h.pass h'.pass.trace) × (h'.blocks ≡ slice_set h.blocks place None)
  pub makes : has_event block.work ≡ true → PublishMakes before mark_in place h.pass h'.pass
  pub idle : has_event block.work ≡ false
      → (h'.pass ≡ h.pass) × (h'.blocks ≡ slice_set h.blocks place (Some block))
  pub knows : (link : Link) → slice_get h'.links place ≡ Some link → KnowsAll link block
  pub behind : (link : Link) → slice_get h'.links place ≡ Some link → WaitsBehind link block

-- a block was put back at its place, and nothing was published
pub record PutsBack (place : ℕ) (h h' : Homed) : Type 0 where
  pub block : Blocked
  pub pass : h'.pass ≡ h.pass
  pub blocks : h'.blocks ≡ slice_set h.blocks place (Some block)

-- the home with its pass as it is after a step
abbrev pub with_pass : Homed → Held Blocked → Homed
with_pass h pass = record h { pass = pass }

-- nothing has changed except for what the pass has seen
abbrev pub OnlyLooked : Homed → Homed → Type 0
OnlyLooked h h' = h' ≡ with_pass h (record h.pass { trace = h'.pass.trace })

-- a block came into the hand with its place, and stays there
pub record StaysIn (places : ℕ) (h h' : Homed) : Type 0 where
  pub place : ℕ
  pub block : Blocked
  pub pass : Held Blocked
  pub joined : Joined mark_in label_in places h.pass pass place block
  pub back : PutsBack place (with_pass h pass) h'

-- ---- holding

-- a core held a block, and its hold ended for this reason: it is recorded with the core if it finished commands,
-- at most 64; the block's mark and label are as before
pub record HeldBy (core : ℕ) (before after : Blocked) (end : HoldEnd) : Type 0 where
  pub ends : HeldTo before.work after.work end
  pub recorded : IsRecorded core before after
  pub more : before.work.finished ≤ after.work.finished
  pub limit : after.work.finished ≤ before.work.finished + 64
  pub mark : mark_in after ≡ mark_in before
  pub label : label_in after ≡ label_in before

-- ---- answers

-- a block was collected, and settled as one that was held; or the ring's collect took nothing, with its cause,
-- and nothing else changed
abbrev pub CollectsTo : ℕ → Homed → Homed → Bool → Type 0
CollectsTo places h h' true = (place : ℕ) × (block : Blocked) × (pass : Held Blocked)
    × Collected mark_in label_in places h.pass pass (Some (place, block))
    × Settles was_held place block (with_pass h pass) h'
CollectsTo places h h' false =
    Collected mark_in label_in places h.pass h'.pass None × (h' ≡ with_pass h h'.pass)

-- a block was claimed, held by the home's core to this end, and settled as it then was; or the home's claim took
-- nothing, with its cause, and nothing else changed
abbrev pub OwnsTo : ℕ → Homed → Homed → Own → Type 0
OwnsTo places h h' (Took held) = (place : ℕ) × (block after : Blocked) × (pass : Held Blocked)
    × Claimed mark_in label_in places h.pass pass (Claims.Took place block)
    × HeldBy h.core block after held
    × Settles was_held place after (with_pass h pass) h'
OwnsTo places h h' (Empty at) =
    Claimed mark_in label_in places h.pass h'.pass (Claims.Empty at) × (h' ≡ with_pass h h'.pass)
OwnsTo places h h' (Raced saw found) =
    Claimed mark_in label_in places h.pass h'.pass (Claims.Raced saw found) × (h' ≡ with_pass h h'.pass)

-- ---- receiving

-- the item is for the connection at this place, and no end came before it
pub record ComesTo (h : Homed) (place : ℕ) (item : Rx) : Type 0 where
  pub live : h.ended ≡ false
  pub link : Link
  pub there : slice_get h.links place ≡ Some link
  pub own : IsFor (conn_of link) item

-- an item came for the connection at a place. If its block is in the hand, it was idle and was settled. If it is
-- away, nothing was published, and a frame waits only if no slot of the ring is known to be free
pub record Forwards (h h' : Homed) (item : Rx) : Type 0 where
  pub here : (place : ℕ) (block : Blocked) → ComesTo h place item
      → slice_get h.blocks place ≡ Some (Some block) → Settles was_idle place block h h'
  pub away : (place : ℕ) → ComesTo h place item → slice_get h.blocks place ≡ Some None
      → (h'.pass ≡ h.pass) × (h'.blocks ≡ h.blocks)
      × ((link : Link) → slice_get h'.links place ≡ Some link → WaitsFull link)

-- the same connections are in the home's hand, and nothing was published
pub record SameHand (h h' : Homed) : Type 0 where
  pub pass : h'.pass ≡ h.pass
  pub blocks : map is_some h'.blocks ≡ map is_some h.blocks
