-- What contracts see of the two ends of a ring between two threads.
use Rattle.std.specs.Prelude.{ℕ, ◌+◌, ◌≤◌, List, ◌∷◌, length}
use mathlib.Core.List.{IsPrefix}
use Rattle.rtrb.specs.Shared.{Names}
use denote.RawPtr.{Ptr}
use Rattle.zy_rx.specs.declared.rx.Rx.{Rx}

-- which ring it is, and how many slots it has
pub record RingName : Type 0 where
  pub words : Ptr
  pub slots : Ptr
  pub names : Names
  pub capacity : ℕ

-- the ring with these parts
abbrev pub ring_named : Ptr → Ptr → Names → ℕ → RingName
ring_named words slots names capacity = record { words = words; slots = slots; names = names; capacity = capacity }

-- the end that items are offered to: the items offered and not handed back, and the slots that it knows to be free
pub record RingInlet (T : Type 0) : Type 0 where
  pub ring : RingName
  pub sent : List T
  pub free : ℕ

-- the end from which items are taken: the items taken, and those that it knows and has not taken
pub record RingOutlet (T : Type 0) : Type 0 where
  pub ring : RingName
  pub taken : List T
  pub known : List T

-- the ends of a receive ring
abbrev pub Offering : Type 0
Offering = RingInlet Rx

-- the end of a receive ring from which items are taken
abbrev pub Taking : Type 0
Taking = RingOutlet Rx

-- the end of this ring to which these items were offered, with this many slots known to be free
abbrev pub offering : {T : Type 0} → RingName → List T → ℕ → RingInlet T
offering ring sent free = record { ring = ring; sent = sent; free = free }

-- the end of this ring from which these items were taken, with these known
abbrev pub taking : {T : Type 0} → RingName → List T → List T → RingOutlet T
taking ring taken known = record { ring = ring; taken = taken; known = known }

-- each slot without an item that was sent and not taken is known to be free
abbrev pub HasAllFree : {T : Type 0} → RingInlet T → RingOutlet T → Type 0
HasAllFree inlet outlet = outlet.ring.capacity + length outlet.taken ≤ length inlet.sent + inlet.free

-- the item taken is the first of those that were known, and the others are still known
abbrev pub IsFirstKnown : {T : Type 0} → T → List T → List T → Type 0
IsFirstKnown item before after = IsPrefix before (item ∷ after)
