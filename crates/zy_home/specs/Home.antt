-- What contracts see of a home, what each home keeps, and which items it may have received.
use Rattle.std.specs.Prelude.{◌≡◌, ℕ, ◌+◌, ◌<◌, ◌≤◌, List, [], ◌∷◌, ◌++◌, length, map, Bool, true, false, ◌&&◌, not}
use Rattle.std.specs.Prelude.{Option, Some, None, slice_get, is_some}
use Rattle.zy_table.specs.Member.{is_in}
use Rattle.zy_rx.specs.declared.rx.Rx.{Rx}
use Rattle.zy_rx.specs.Session.{received_by}
use Rattle.zy_shuffle.specs.Hand.{marked}
use Rattle.zy_shuffle.specs.Pass.{Held}
use Rattle.zy_conn.specs.Block.{Blocked, label_in}
use Rattle.zy_home.specs.Link.{Link, LinkStands, conn_of}
use Rattle.zy_home.specs.Idle.{IsIdleWith, due_mark, mark_in}
use Rattle.zy_home.specs.Own.{own_conns}

-- ---- values

-- a home: its core, the number of cores, and the number of all connections; its pass; for each of
-- its connections, by rising number, the block if it is in the home's hand, and what the home keeps
-- besides the block; whether the end was received; and whether an allocation failed
pub record Homed : Type 0 where
  pub core : ℕ
  pub cores : ℕ
  pub count : ℕ
  pub pass : Held Blocked
  pub blocks : List (Option Blocked)
  pub links : List Link
  pub ended : Bool
  pub refused : Bool

-- the numbers of connections
abbrev pub conns_in : List Link → List ℕ
conns_in links = map conn_of links

-- each block is in the hand
abbrev pub all_here : List (Option Blocked) → Bool
all_here [] = true
all_here (x ∷ xs) = is_some x && all_here xs

-- the end was received, no allocation failed, and each block is in the home's hand, and so is idle
abbrev pub is_settled : Homed → Bool
is_settled h = h.ended && (not h.refused && all_here h.blocks)

-- a new home with this pass and these blocks
pub record IsMade (core cores count : ℕ) (pass : Held Blocked) (blocks : List Blocked) (h : Homed) : Type 0 where
  pub core_is : h.core ≡ core
  pub cores_is : h.cores ≡ cores
  pub count_is : h.count ≡ count
  pub pass_is : h.pass ≡ pass
  pub blocks_are : h.blocks ≡ map Some blocks
  pub conns : conns_in h.links ≡ own_conns core cores count
  pub ended : h.ended ≡ false
  pub refused : h.refused ≡ false

-- ---- the rule

-- a connection's block: in the hand it has the expected mark, and is idle unless its place is left to settle; away from
-- it the pass keeps this mark for its place
abbrev pub IsAt : List ℕ → Held Blocked → ℕ → Link → Option Blocked → Type 0
IsAt left pass place link (Some block) =
    (mark_in block ≡ due_mark link) × (is_in place left ≡ false → IsIdleWith block.work link)
IsAt left pass place link None =
    is_in place pass.hand ≡ false → marked mark_in place pass.kept ≡ Some (due_mark link)

-- a block in the hand: its place is in the hand of the pass, and it has the ring's label
abbrev pub IsHere : Held Blocked → ℕ → Blocked → Type 0
IsHere pass place block = (is_in place pass.hand ≡ true) × (label_in block ≡ pass.label)

-- the rule of a home that has these places left to settle
pub record IsSoundBut (left : List ℕ) (h : Homed) : Type 0 where
  pub core : h.core < h.cores
  pub cores : h.cores ≤ 64
  -- its connections are its core's, by rising number, each with a place in the ring
  pub conns : conns_in h.links ≡ own_conns h.core h.cores h.count
  pub long : length h.blocks ≡ length h.links
  pub places : h.pass.table.slots ≡ length h.links
  -- the rule of the blocks in the hand, even if an allocation failed
  pub here : (p : ℕ) (b : Blocked) → slice_get h.blocks p ≡ Some (Some b) → IsHere h.pass p b
  -- if none failed, each place is as it should be, and the places left are the home's
  pub each : h.refused ≡ false → (p : ℕ) (x : Option Blocked) (l : Link)
      → slice_get h.blocks p ≡ Some x → slice_get h.links p ≡ Some l → IsAt left h.pass p l x
  pub near : h.refused ≡ false → (p : ℕ) → is_in p left ≡ true → p < length h.blocks

-- the rule that each home keeps between two calls: no place is left to settle
abbrev pub IsSoundHome : Homed → Type 0
IsSoundHome h = IsSoundBut [] h

-- these items may be what the home received: each of its connections may have received the sessions that they have
-- for it
pub record HomeStands (h : Homed) (items : List Rx) : Type 0 where
  pub ended : (conn : ℕ) → (received_by conn items).ended ≡ h.ended
  pub links : (p : ℕ) (l : Link) → slice_get h.links p ≡ Some l
      → LinkStands l (received_by (conn_of l) items)

-- whatever the home may have received, it may still have received
abbrev pub StandsHome : Homed → Homed → Type 0
StandsHome h h' = (items : List Rx) → HomeStands h items → HomeStands h' items

-- whatever the home may have received, it may now have received this item too
abbrev pub StandsMore : Homed → Rx → Homed → Type 0
StandsMore h item h' = (items : List Rx) → HomeStands h items → HomeStands h' (items ++ item ∷ [])

-- what no call changes; and the home publishes at most this number of times
pub record SameFor (most : ℕ) (h h' : Homed) : Type 0 where
  pub core : h'.core ≡ h.core
  pub cores : h'.cores ≡ h.cores
  pub count : h'.count ≡ h.count
  pub table : h'.pass.table ≡ h.pass.table
  pub label : h'.pass.label ≡ h.pass.label
  pub out : h'.pass.out ≡ h.pass.out
  pub conns : conns_in h'.links ≡ conns_in h.links
  pub few : h'.pass.count ≤ h.pass.count + most

-- what no call changes; and the home publishes once at most
abbrev pub SameHome : Homed → Homed → Type 0
SameHome h h' = SameFor 1 h h'
