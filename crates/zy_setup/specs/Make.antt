-- How the parts of a run are made, connection by connection and core by core. No public clause cites this module.
use Rattle.std.specs.Prelude.{◌≡◌, ℕ, zero, suc, ◌+◌, ◌-◌, ◌==◌, nat_lt, if◌then◌else◌, List, [], ◌∷◌, ◌++◌, length}
use Rattle.std.specs.Prelude.{Some, slice_get, option_map}
use Rattle.std.specs.List.{AllByRecursion}
use Rattle.atomic_table.specs.Seated.{TableId}
use Rattle.zy_table.specs.declared.name.Name.{Name}
use Rattle.zy_shuffle.specs.Pass.{Held, Ringed}
use Rattle.zy_steal.specs.Order.{other_core}
use Rattle.zy_steal.specs.Steal.{PassList, pass_list, AreIdle, seats_of}
use Rattle.zy_conn.specs.Ring.{EventInlet}
use Rattle.zy_conn.specs.Block.{Blocked, label_of}
use Rattle.zy_home.specs.Own.{own_conns}
use Rattle.zy_home.specs.Parts.{IsNew, IsUnused, conns_of_blocks, rings_of_blocks, rings_of_inlets}
use Rattle.zy_home.specs.Home.{Homed}
use Rattle.zy_setup.specs.declared.own_connections.OwnConnections.{OwnConnections}
use Rattle.zy_setup.specs.declared.core_parts.CoreParts.{CoreParts}
use Rattle.zy_setup.specs.New.{IsNewHome}

-- ---- connections

-- a core has no connection yet
pub record IsEmpty (own : OwnConnections) : Type 0 where
  pub places_are : own.places ≡ 0
  pub blocks_are : own.blocks ≡ []
  pub inlets_are : own.inlets ≡ []

-- a block with its inlet, of a new connection of this store and this number of cores
pub record IsConnection (store : TableId) (cores conn : ℕ) (block : Blocked) (inlet : EventInlet) : Type 0 where
  pub conn_is : block.work.conn ≡ conn
  pub new : IsNew (label_of store cores) block
  pub ring_is : inlet.ring ≡ block.work.ring
  pub unused : IsUnused inlet

-- one more connection
pub record HasOneMore (block : Blocked) (inlet : EventInlet) (own own' : OwnConnections) : Type 0 where
  pub places_are : own'.places ≡ own.places + 1
  pub blocks_are : own'.blocks ≡ own.blocks ++ block ∷ []
  pub inlets_are : own'.inlets ≡ own.inlets ++ inlet ∷ []

-- the connections below `conn` that belong to core `core` of `cores`
pub record IsOwnOf (store : TableId) (core cores conn : ℕ) (own : OwnConnections) : Type 0 where
  pub places_are : own.places ≡ length own.blocks
  pub conns : conns_of_blocks own.blocks ≡ own_conns core cores conn
  pub new : AllByRecursion (IsNew (label_of store cores)) own.blocks
  pub rings : rings_of_inlets own.inlets ≡ rings_of_blocks own.blocks
  pub unused : AllByRecursion IsUnused own.inlets

-- the connections below `conn` of each core
pub record AreOwns (store : TableId) (cores conn : ℕ) (owns : List OwnConnections) : Type 0 where
  pub count : length owns ≡ cores
  pub each : (core : ℕ) (own : OwnConnections) → slice_get owns core ≡ Some own → IsOwnOf store core cores conn own

-- ---- passes

-- the passes of a core, with one more pass on the ring of another core
abbrev pub with_further_pass : ℕ → Held Blocked → ℕ → PassList Blocked → PassList Blocked
with_further_pass core pass other passes =
    if other == core then passes else pass_list passes.core (passes.items ++ pass ∷ [])

-- each other core got such a pass on the ring of this one
abbrev pub GivesPass : ℕ → Held Blocked → List (PassList Blocked) → List (PassList Blocked) → Type 0
GivesPass core pass before after =
    (other : ℕ) → slice_get after other ≡ option_map (with_further_pass core pass other) (slice_get before other)

-- `cores` cores, each without a pass
abbrev pub no_passes : ℕ → List (PassList Blocked)
no_passes zero = []
no_passes (suc cores) = no_passes cores ++ pass_list cores [] ∷ []

-- the number of the first `cores` cores other than this one
abbrev pub others_among : ℕ → ℕ → ℕ
others_among core cores = if nat_lt core cores then cores - 1 else cores

-- the passes of a core on the rings made so far
pub record HasPasses (label : Name) (rings : List Ringed) (core : ℕ) (passes : PassList Blocked) : Type 0 where
  pub core_is : passes.core ≡ core
  pub count : length passes.items ≡ others_among core (length rings)
  pub tables : (at : ℕ) (v : Held Blocked) (r : Ringed) → slice_get passes.items at ≡ Some v
      → slice_get rings (other_core core at) ≡ Some r → v.table ≡ r.id
  pub idle : AreIdle label (seats_of passes.items)

-- ---- cores

-- what was made for the first of `cores` cores
pub record AreMade (store : TableId) (cores count : ℕ) (made : CoreParts) : Type 0 where
  pub same : length made.rings ≡ length made.homes.items
  pub all : length made.passes.items ≡ cores
  pub homes : (core : ℕ) (h : Homed) → slice_get made.homes.items core ≡ Some h
      → IsNewHome made.rings (label_of store cores) cores core h
  pub counts : (core : ℕ) (h : Homed) → slice_get made.homes.items core ≡ Some h → h.count ≡ count
  pub passes : (core : ℕ) (p : PassList Blocked) → slice_get made.passes.items core ≡ Some p
      → HasPasses (label_of store cores) made.rings core p
