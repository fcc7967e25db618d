-- The parts of which a home is made.
use Rattle.std.specs.Prelude.{◌≡◌, ℕ, List, [], ◌∷◌, length, map}
use Rattle.std.specs.List.{AllByRecursion}
use Rattle.zy_rx.specs.Ring.{RingName}
use Rattle.zy_shuffle.specs.Pass.{HasAll}
use Rattle.zy_conn.specs.Ring.{EventInlet}
use Rattle.zy_conn.specs.Work.{idle}
use Rattle.zy_conn.specs.Block.{Blocked}
use Rattle.zy_table.specs.declared.name.Name.{Name}
use Rattle.zy_home.specs.Link.{Link, IsFresh}
use Rattle.zy_home.specs.declared.parts.HomeParts.{HomeParts}
use Rattle.zy_home.specs.Own.{own_conns}
use Rattle.zy_home.specs.End.{HasLabel}

-- ---- parts

-- the numbers of the connections of blocks
abbrev pub conns_of_blocks : List Blocked → List ℕ
conns_of_blocks blocks = map (λ (b : Blocked). b.work.conn) blocks

-- the event rings of blocks
abbrev pub rings_of_blocks : List Blocked → List RingName
rings_of_blocks blocks = map (λ (b : Blocked). b.work.ring) blocks

-- the event rings of inlets
abbrev pub rings_of_inlets : List EventInlet → List RingName
rings_of_inlets inlets = map (λ (i : EventInlet). i.ring) inlets

-- the block of a connection that has done nothing, of the store with this label
pub record IsNew (label : Name) (block : Blocked) : Type 0 where
  pub taken : block.work.taken ≡ []
  pub known : block.work.known ≡ []
  pub begun : block.work.begun ≡ idle
  pub finished : block.work.finished ≡ 0
  pub shown : block.work.shown ≡ 0
  pub batch : block.work.batch ≡ []
  pub labelled : HasLabel label block

-- no frame was ever offered to the event ring
abbrev pub IsUnused : EventInlet → Type 0
IsUnused inlet = inlet.sent ≡ []

-- the parts of the home of a core: new blocks of its connections below the count, in rising order, with the ring's
-- label; their unused inlets, in the same order; and a ring with a place for each, all in the hand of the pass
pub record AreParts (core cores count : ℕ) (parts : HomeParts) : Type 0 where
  pub conns : conns_of_blocks parts.blocks ≡ own_conns core cores count
  pub new : AllByRecursion (IsNew parts.pass.label) parts.blocks
  pub rings : rings_of_inlets parts.inlets ≡ rings_of_blocks parts.blocks
  pub unused : AllByRecursion IsUnused parts.inlets
  pub places : parts.pass.table.slots ≡ length parts.blocks
  pub hand : HasAll (length parts.blocks) parts.pass.hand

-- ---- making

-- the links of new connections, of these blocks with these inlets
abbrev pub AreFresh : List Blocked → List EventInlet → List Link → Type 0
AreFresh [] [] [] = Unit {0}
AreFresh (block ∷ blocks) (inlet ∷ inlets) (link ∷ links) =
    IsFresh block.work.conn inlet link × AreFresh blocks inlets links
AreFresh blocks inlets links = ⊥
