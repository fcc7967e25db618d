-- What a home does with the items that it receives in one call: it cuts all of them first, and then settles the blocks
-- that got an event.
use Rattle.std.specs.Prelude.{◌≡◌, ℕ, ◌<◌, ◌≤◌, List, [], ◌∷◌, ◌++◌, length, ◌||◌, Some, None, slice_get}
use Rattle.zy_rx.specs.declared.rx.Rx.{Rx}
use Rattle.zy_rx.specs.Ring.{Taking}
use Rattle.zy_conn.specs.Block.{Blocked}
use Rattle.zy_home.specs.Link.{Link}
use Rattle.zy_home.specs.Offer.{WaitsFull}
use Rattle.zy_home.specs.Own.{is_end}
use Rattle.zy_home.specs.Home.{Homed, HomeStands}
use Rattle.zy_shuffle.specs.Run.{was_idle}
use Rattle.zy_home.specs.Place.{ComesTo, SameHand, Settles}

-- ---- one after another

-- an item was cut. Nothing was published, and the blocks in the hand are as they were. A frame of a connection whose
-- block is away waits only if no slot of the ring is known to be free. An item that is for no place changes no
-- connection
pub record CutsOne (h : Homed) (item : Rx) (h' : Homed) : Type 0 where
  pub pass : h'.pass ≡ h.pass
  pub blocks : h'.blocks ≡ h.blocks
  pub ended : h'.ended ≡ (h.ended || is_end item)
  pub away : (place : ℕ) → ComesTo h place item → slice_get h.blocks place ≡ Some None
      → (link : Link) → slice_get h'.links place ≡ Some link → WaitsFull link
  pub dropped : ((place : ℕ) → ComesTo h place item → ⊥) → h'.links ≡ h.links

-- these items were cut, one after another
abbrev pub CutsEach : Homed → List Rx → Homed → Type 0
CutsEach h [] h' = h' ≡ h
CutsEach h (item ∷ items) h' = (next : Homed) × CutsOne h item next × CutsEach next items h'

-- the block of a place was in the hand, as one of a connection that was idle, and was settled
pub record SettlesHere (place : ℕ) (h h' : Homed) : Type 0 where
  pub given : Blocked
  pub there : slice_get h.blocks place ≡ Some (Some given)
  pub settles : Settles was_idle place given h h'

-- the blocks of these places were settled, one after another
abbrev pub SettlesEach : Homed → List ℕ → Homed → Type 0
SettlesEach h [] h' = h' ≡ h
SettlesEach h (place ∷ places) h' = (next : Homed) × SettlesHere place h next × SettlesEach next places h'

-- ---- the call

-- whatever the home may have received, it may now have received these items too
abbrev pub StandsAll : Homed → List Rx → Homed → Type 0
StandsAll h items h' = (earlier : List Rx) → HomeStands h earlier → HomeStands h' (earlier ++ items)

-- this number of items was taken from the outlet and received: they were cut in their order, and then blocks were
-- settled. Fewer than 64 were taken only if no more items were known after the last look
pub record ReceivesAll (h : Homed) (o : Taking) (h' : Homed) (o' : Taking) (count : ℕ) : Type 0 where
  pub items : List Rx
  pub size : length items ≡ count
  pub taken : o'.taken ≡ o.taken ++ items
  pub few : count ≤ 64
  pub all : count < 64 → o'.known ≡ []
  pub none : count ≡ 0 → h' ≡ h
  pub stands : StandsAll h items h'
  pub cut : Homed
  pub cuts : CutsEach h items cut
  pub places : List ℕ
  pub settles : SettlesEach cut places h'

-- an allocation failed at an item, or when a block was settled: some items were cut and some blocks settled, and
-- the other blocks are still in the hand
pub record RefusedAmid (h h' : Homed) : Type 0 where
  pub items : List Rx
  pub cut : Homed
  pub cuts : CutsEach h items cut
  pub places : List ℕ
  pub between : Homed
  pub settles : SettlesEach cut places between
  pub hand : SameHand between h'
