-- The views of one core's passes on the rings of the others, and the effect of a steal on them.
use Rattle.std.specs.Prelude.{◌≡◌, ◌≢◌, ℕ, ◌+◌, ◌<◌, List, [], ◌∷◌, length, map, slice_get, slice_set, Option, Some, None, true}
use Rattle.atomic_table.specs.Seated.{TableId}
use Rattle.zy_table.specs.declared.name.Name.{Name}
use Rattle.zy_table.specs.Member.{is_in, without}
use Rattle.zy_shuffle.specs.Hand.{marked}
use Rattle.zy_shuffle.specs.Pass.{Held, Ringed, Loaded, Tried, Unchanged}
use Rattle.zy_steal.specs.declared.looks.Look.{Look}
use Rattle.zy_steal.specs.declared.looks.Look.TheVariants.{Empty, Raced}
use Rattle.zy_steal.specs.declared.victims.Stolen.{Stolen}
use Rattle.zy_steal.specs.declared.victims.Stolen.TheVariants.{Took, Nothing}
use Rattle.zy_steal.specs.Look.{look_at, NotesAll}
use Rattle.zy_steal.specs.Order.{victim, other_core, number_of}

-- ---- passes

-- the passes of a core: one on each other core's ring, by rising number of core
pub record PassList (T : Type 0) : Type 0 where
  pub core : ℕ
  pub items : List (Held T)

-- the passes of this core
abbrev pub pass_list : {T : Type 0} → ℕ → List (Held T) → PassList T
pass_list core items = record { core = core; items = items }

-- a thief: its core, the number of cores, and the number of its steal calls so far
pub record Thief : Type 0 where
  pub core : ℕ
  pub cores : ℕ
  pub calls : ℕ

-- the thief with these numbers
abbrev pub thief : ℕ → ℕ → ℕ → Thief
thief core cores calls = record { core = core; cores = cores; calls = calls }

-- the passes are of these rings, one for each other core
pub record ArePasses {T : Type 0} (rings : List Ringed) (p : PassList T) : Type 0 where
  pub count : length p.items + 1 ≡ length rings
  pub core : p.core < length rings
  pub tables : (at : ℕ) (v : Held T) (r : Ringed) → slice_get p.items at ≡ Some v
      → slice_get rings (other_core p.core at) ≡ Some r → v.table ≡ r.id

-- another of the `cores` cores than this one
abbrev pub IsOther : ℕ → ℕ → ℕ → Type 0
IsOther core cores other = (other < cores) × (core ≢ other)

-- the parts of a pass that a claim which takes nothing leaves as they were: its table, its label
-- and its hand
pub record SeatOf : Type 0 where
  pub table : TableId
  pub label : Name
  pub hand : List ℕ

-- those of one pass
abbrev pub seat_of : {T : Type 0} → Held T → SeatOf
seat_of v = record { table = v.table; label = v.label; hand = v.hand }

-- those of all passes
abbrev pub seats_of : {T : Type 0} → List (Held T) → List SeatOf
seats_of vs = map seat_of vs

-- the passes have this label, and nothing in their hands
abbrev pub AreIdle : Name → List SeatOf → Type 0
AreIdle label [] = Unit {0}
AreIdle label (s ∷ ss) = (s.label ≡ label) × (s.hand ≡ []) × AreIdle label ss

-- ---- blocks in the hand of a pass

-- the block of a place is in the hand of this pass, as it was when it was claimed
pub record Holds {T M : Type 0} (mark : T → M) (label : T → Name) (v : Held T) (place : ℕ) (block : T) : Type 0 where
  pub hand : is_in place v.hand ≡ true
  pub labelled : label block ≡ v.label
  pub kept : marked mark place v.kept ≡ Some (mark block)

-- the block of a place is in the hand of the pass on the ring of this core
pub record HoldsOf {T M : Type 0} (mark : T → M) (label : T → Name) (p : PassList T) (core place : ℕ)
    (block : T) : Type 0 where
  pub pass : Held T
  pub there : slice_get p.items (number_of p.core core) ≡ Some pass
  pub holds : Holds mark label pass place block

-- the block of a place came into the hand of the pass on the ring of this core, and is the newest that it keeps
pub record TakesFrom {T M : Type 0} (mark : T → M) (label : T → Name) (p q : PassList T) (core place : ℕ)
    (block : T) : Type 0 where
  pub before : Held T
  pub after : Held T
  pub was : slice_get p.items (number_of p.core core) ≡ Some before
  pub is : slice_get q.items (number_of p.core core) ≡ Some after
  pub seat : seat_of after ≡ record { table = before.table; label = before.label; hand = place ∷ before.hand }
  pub seats : seats_of q.items ≡ slice_set (seats_of p.items) (number_of p.core core) (seat_of after)
  pub kept : after.kept ≡ (place, block) ∷ before.kept
  pub holds : Holds mark label after place block

-- the place left the hand of the pass on the ring of this core, with this block, which is the newest that it keeps
pub record GivesTo {T : Type 0} (p q : PassList T) (core place : ℕ) (block : T) : Type 0 where
  pub before : Held T
  pub after : Held T
  pub was : slice_get p.items (number_of p.core core) ≡ Some before
  pub is : slice_get q.items (number_of p.core core) ≡ Some after
  pub kept : after.kept ≡ (place, block) ∷ before.kept
  pub seats : seats_of q.items ≡ slice_set (seats_of p.items) (number_of p.core core)
      (record { table = before.table; label = before.label; hand = without place before.hand })

-- ---- looks

-- a claim by the pass took nothing, for a reason that its steps in this claim show
abbrev pub Found : {T : Type 0} → Held T → Held T → Look → Type 0
Found v w (Empty at) = Unchanged v w × Loaded v.trace.steps at at w.trace × (w.trace.under ≡ at)
Found v w (Raced saw found) = Unchanged v w × ((tail : ℕ) × Loaded v.trace.steps saw tail w.trace × (saw < tail))
    × Tried found w.trace × (found ≢ saw)

-- the pass with this number among the others looked, and this look was noted for its core
abbrev pub Looked : {T : Type 0} → ℕ → List (Held T) → List (Held T) → List (Option Look) → ℕ → Type 0
Looked {T} core vs ws looks at = (v w : Held T) → slice_get vs at ≡ Some v → slice_get ws at ≡ Some w
    → (look : Look) × (look_at looks (other_core core at) ≡ Some look) × Found v w look

-- a claim was made at each other core, and no other look is noted
pub record AllLooked {T : Type 0} (p q : PassList T) (looks : List (Option Look)) : Type 0 where
  pub seats : seats_of q.items ≡ seats_of p.items
  pub looked : (at : ℕ) → Looked p.core p.items q.items looks at
  pub others : (core : ℕ) → ((at : ℕ) → at < length p.items → other_core p.core at ≢ core) → look_at looks core ≡ None

-- a claim was made at each other core, and these looks were noted over the earlier ones
pub record AllLookedOver {T : Type 0} (p q : PassList T) (before after : List (Option Look)) : Type 0 where
  pub made : List (Option Look)
  pub looked : AllLooked p q made
  pub notes : NotesAll made before after

-- ---- the answer

-- if a block was taken, this holds of its core, its place and it
abbrev pub IfStolen : {T : Type 0} → Stolen T → (ℕ → ℕ → T → Type 0) → Type 0
IfStolen (Took core place block) P = P core place block
IfStolen (Nothing looks) P = Unit {0}

-- if nothing was taken, this holds of the looks
abbrev pub IfNothing : {T : Type 0} → Stolen T → (List (Option Look) → Type 0) → Type 0
IfNothing (Took core place block) P = Unit {0}
IfNothing (Nothing looks) P = P looks

-- the core is that of one turn of the order. Claims at the cores of earlier turns took nothing, and
-- at those of later turns no claim was made
pub record InTurn {T : Type 0} (h : Thief) (p q : PassList T) (core : ℕ) : Type 0 where
  pub turn : ℕ
  pub few : turn + 1 < h.cores
  pub is : core ≡ victim h.cores h.core h.calls turn
  pub earlier : (t : ℕ) (v w : Held T) → t < turn → slice_get p.items
      (number_of h.core (victim h.cores h.core h.calls t)) ≡ Some v
      → slice_get q.items (number_of h.core (victim h.cores h.core h.calls t)) ≡ Some w
      → (look : Look) × Found v w look
  pub later : (t : ℕ) → turn < t → t + 1 < h.cores
      → slice_get q.items (number_of h.core (victim h.cores h.core h.calls t))
      ≡ slice_get p.items (number_of h.core (victim h.cores h.core h.calls t))
