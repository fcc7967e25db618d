-- A turn of a core: its steps, and its answer.
use Rattle.std.specs.Prelude.{◌≡◌, ◌⊎◌, ℕ, zero, suc, ◌+◌, ◌<◌, ◌≤◌, List, [], length, Bool, true, false}
use Rattle.std.specs.Prelude.{Option, Some, None}
use Rattle.std.proofs.Common.{inl, inr}
use Rattle.zy_rx.specs.Ring.{Taking}
use Rattle.zy_conn.specs.declared.hold_end.HoldEnd.{HoldEnd}
use Rattle.zy_conn.specs.declared.hold_end.HoldEnd.TheVariants as Ends
use Rattle.zy_home.specs.declared.own.Own.{Own}
use Rattle.zy_home.specs.declared.own.Own.TheVariants as Owns
use Rattle.zy_home.specs.Home.{Homed, is_settled}
use Rattle.zy_home.specs.Place.{CollectsTo, OwnsTo}
use Rattle.zy_steal.specs.declared.looks.Look.{Look}
use Rattle.zy_steal.specs.declared.looks.Look.TheVariants.{Empty, Raced}
use Rattle.zy_steal.specs.Look.{NotesAll}
use Rattle.zy_steal.specs.Steal.{PassList, AllLooked}
use Rattle.zy_conn.specs.Block.{Blocked}
use Rattle.zy_core.specs.declared.turn.Turn.{Turn}
use Rattle.zy_core.specs.declared.turn.Turn.TheVariants.{Worked, Idle, Settled}
use Rattle.zy_core.specs.declared.turn.Came.{Came}
use Rattle.zy_core.specs.Steal.{Steals, StealsTo}
use Rattle.zy_core.specs.Core.{Cored}

-- ---- the steps

-- items were received: at least one, at most 64, and fewer than 64 only if no more items were known
-- after the last look
pub record Receives (before after : Taking) : Type 0 where
  pub some : length before.taken < length after.taken
  pub most : length after.taken ≤ length before.taken + 64
  pub all : length after.taken < length before.taken + 64 → after.known ≡ []

-- items were received; or none was known after a look, and the home is as it was
abbrev pub ReceivesTo : Homed → Taking → Homed → Taking → Bool → Type 0
ReceivesTo h o h' o' true = Receives o o'
ReceivesTo h o h' o' false = (h' ≡ h) × (o'.taken ≡ o.taken) × (o'.known ≡ [])

-- `count` blocks were collected, each from the home as the one before left it
abbrev pub CollectsCount : ℕ → ℕ → Homed → Homed → Type 0
CollectsCount places zero h h' = h' ≡ h
CollectsCount places (suc count) h h' =
    (between : Homed) × CollectsCount places count h between × CollectsTo places between h' true

-- why collecting ended after this number of blocks: the ring's collect took nothing; or it is the number
-- of places
abbrev pub CollectingEnds : ℕ → ℕ → Homed → Homed → Type 0
CollectingEnds places count h h' = CollectsTo places h h' false ⊎ ((count ≡ places) × (h' ≡ h))

-- blocks were collected, at least one, until collecting ended
pub record CollectsSome (places : ℕ) (h h' : Homed) : Type 0 where
  pub count : ℕ
  pub last : Homed
  pub some : 1 ≤ count
  pub collected : CollectsCount places count h last
  pub ends : CollectingEnds places count last h'

-- blocks were collected, until collecting ended; or the ring's collect took nothing
abbrev pub CollectsAll : ℕ → Homed → Homed → Bool → Type 0
CollectsAll places h h' true = CollectsSome places h h'
CollectsAll places h h' false = CollectsTo places h h' false

-- the answer of a home whose claim took nothing, for this cause
abbrev pub own_of : Look → Own
own_of (Empty at) = Owns.Empty at
own_of (Raced saw found) = Owns.Raced saw found

-- a block was claimed, held and settled; or the home's claim took nothing, for this cause
abbrev pub ClaimsTo : ℕ → Homed → Homed → Option Look → Type 0
ClaimsTo places h h' None = (held : HoldEnd) × OwnsTo places h h' (Owns.Took held)
ClaimsTo places h h' (Some look) = OwnsTo places h h' (own_of look)

-- the answer of a turn in which nothing was claimed or stolen
abbrev pub answer : Bool → Look → List (Option Look) → Bool → Turn
answer true own looks settled = Worked
answer false own looks true = Settled looks
answer false own looks false = Idle own looks

-- ---- the answer over a table of looks

-- what a turn came to in which nothing was claimed or stolen
abbrev pub came_without_hold : Bool → Look → Bool → Came
came_without_hold true own settled = Came.Worked
came_without_hold false own true = Came.Settled
came_without_hold false own false = Came.Idle own

-- what a turn came to whose block was held to this end
abbrev pub held_to : HoldEnd → Came
held_to Ends.Drained = Came.Worked
held_to Ends.Limit = Came.Worked
held_to Ends.Spent = Came.Worked
held_to (Ends.Busy shard loaded found) = Came.Busy

-- the answer of a turn that came to this, with these looks
abbrev pub came_to : Came → List (Option Look) → Turn
came_to Came.Worked looks = Worked
came_to Came.Busy looks = Worked
came_to (Came.Idle own) looks = Idle own looks
came_to Came.Settled looks = Settled looks

-- the turn worked
abbrev pub is_work : Came → Bool
is_work Came.Worked = true
is_work Came.Busy = true
is_work (Came.Idle own) = false
is_work Came.Settled = false

-- the turn worked, and its hold found a shard busy
abbrev pub is_busy : Came → Bool
is_busy Came.Worked = false
is_busy Came.Busy = true
is_busy (Came.Idle own) = false
is_busy Came.Settled = false

-- ---- the turn

-- how many places the core's ring has
abbrev pub places_of : Cored → ℕ
places_of c = c.home.pass.table.slots

-- a block was claimed from the core's own queue, and no other core was looked at; or none was claimed, for a cause,
-- and one was stolen, or a claim at every other core took nothing
abbrev pub ServesTo : ℕ → Homed → Homed → PassList Blocked → PassList Blocked → Type 0
ServesTo places h h' passes passes' = (ClaimsTo places h h' None × (passes' ≡ passes))
    ⊎ ((look : Look) × ClaimsTo places h h' (Some look)
    × ((looks : Option (List (Option Look))) × StealsTo passes passes' looks))

-- the steps that each turn has: items are received, blocks are collected, and one block is claimed or stolen
pub record HasSteps (before after : Cored) : Type 0 where
  pub is_received : Bool
  pub is_collected : Bool
  pub received : Homed
  pub collected : Homed
  pub receives : ReceivesTo before.home before.outlet received after.outlet is_received
  pub collects : CollectsAll (places_of before) received collected is_collected
  pub serves : ServesTo (places_of before) collected after.home before.passes after.passes

-- nothing was received, collected, claimed or stolen. A look showed that the outlet knew no item; then the ring's
-- collect took nothing; then the home's own claim, and one at every other core
pub record FindsNothing (before after : Cored) (own : Look) (looks : List (Option Look)) : Type 0 where
  pub taken : after.outlet.taken ≡ before.outlet.taken
  pub known : after.outlet.known ≡ []
  pub between : Homed
  pub collected : CollectsTo (places_of before) before.home between false
  pub owned : OwnsTo (places_of before) between after.home (own_of own)
  pub looked : AllLooked before.passes after.passes looks

-- an item was received
abbrev pub HasReceived : Cored → Cored → Type 0
HasReceived before after = length before.outlet.taken < length after.outlet.taken

-- a block was collected
abbrev pub HasCollected : Cored → Type 0
HasCollected before = (collected : Homed) × CollectsAll (places_of before) before.home collected true

-- a block was claimed from the core's own queue
abbrev pub HasClaimed : Cored → Cored → Type 0
HasClaimed before after = (between : Homed) × CollectsTo (places_of before) before.home between false
    × ClaimsTo (places_of before) between after.home None

-- a block was stolen
abbrev pub HasStolen : Cored → Cored → Type 0
HasStolen before after = Steals before.passes after.passes

-- what a turn came to
abbrev pub TurnTo : Cored → Cored → Turn → Type 0
TurnTo before after Worked =
    HasReceived before after ⊎ HasCollected before ⊎ HasClaimed before after ⊎ HasStolen before after
TurnTo before after (Idle own looks) = FindsNothing before after own looks × (is_settled after.home ≡ false)
TurnTo before after (Settled looks) =
    ((own : Look) × FindsNothing before after own looks) × (is_settled after.home ≡ true)

-- what a turn came to whose looks at the other cores were noted over the earlier ones
abbrev pub CameTo : Cored → Cored → List (Option Look) → List (Option Look) → Came → Type 0
CameTo before after looks looks' Came.Worked = TurnTo before after Worked
CameTo before after looks looks' Came.Busy = TurnTo before after Worked
CameTo before after looks looks' (Came.Idle own) =
    (made : List (Option Look)) × NotesAll made looks looks' × TurnTo before after (Idle own made)
CameTo before after looks looks' Came.Settled =
    (made : List (Option Look)) × NotesAll made looks looks' × TurnTo before after (Settled made)

-- ---- the hold of a turn

-- how the hold of the block that was stolen ended, if one was
abbrev pub stolen_end : (p q : PassList Blocked) (looks : Option (List (Option Look))) → StealsTo p q looks
    → Option HoldEnd
stolen_end p q None steals = Some steals.end
stolen_end p q (Some looks) all = None

-- how the hold of the block that was claimed or stolen ended, if one was
abbrev pub served_end : (places : ℕ) (h h' : Homed) (p q : PassList Blocked) → ServesTo places h h' p q
    → Option HoldEnd
served_end places h h' p q (inl claimed) = Some claimed.0.0
served_end places h h' p q (inr missed) = stolen_end p q missed.2.0 missed.2.1

-- how the hold in a turn with these steps ended, if there was one
abbrev pub hold_in : (before after : Cored) → HasSteps before after → Option HoldEnd
hold_in before after s = served_end (places_of before) s.collected after.home before.passes after.passes s.serves

-- the hold found a shard busy
abbrev pub ends_busy : Option HoldEnd → Bool
ends_busy None = false
ends_busy (Some end) = is_busy (held_to end)

-- the turn has all its steps, and came to `Busy` if and only if the hold of its block found a shard
-- busy
pub record ShowsBusy (before after : Cored) (came : Came) : Type 0 where
  pub steps : HasSteps before after
  pub busy : is_busy came ≡ ends_busy (hold_in before after steps)
