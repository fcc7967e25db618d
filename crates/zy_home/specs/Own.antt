-- The connections of a home.
use Rattle.std.specs.Prelude.{◌≡◌, ℕ, ◌<◌, ◌==◌, List, Bool, true, false, Option, None, Some, filter, slice_get}
use Rattle.std.specs.List.{range_with_len}
use Rattle.zy_rx.specs.declared.rx.Rx.{Rx}
use Rattle.zy_rx.specs.declared.rx.Rx.TheVariants.{Segment, Close, End}
use Rattle.zy_rx.specs.Flow.{home_of}

-- the connections below `count` whose home is this one of `cores` cores, in rising order
abbrev pub own_conns : ℕ → ℕ → ℕ → List ℕ
own_conns core cores count = filter (λ conn. home_of cores conn == core) (range_with_len 0 count)

-- a core's share of the connections: the core, the number of cores, and the number of all connections
pub record Share : Type 0 where
  pub core : ℕ
  pub cores : ℕ
  pub count : ℕ

-- the share with these parts
abbrev pub share : ℕ → ℕ → ℕ → Share
share core cores count = record { core = core; cores = cores; count = count }

-- a table has the place of each of these connections, and none of any other
pub record IsTable (conns : List ℕ) (table : List (Option ℕ)) : Type 0 where
  pub there : (place conn : ℕ) → slice_get conns place ≡ Some conn → slice_get table conn ≡ Some (Some place)
  pub back : (place conn : ℕ) → slice_get table conn ≡ Some (Some place) → slice_get conns place ≡ Some conn

-- a connection is one of those of a core
abbrev pub IsOwn : ℕ → ℕ → ℕ → ℕ → Type 0
IsOwn core cores count conn = (conn < count) × (home_of cores conn ≡ core)

-- the connection that an item is for; the end is for none
abbrev pub item_conn : Rx → Option ℕ
item_conn (Segment conn bytes) = Some conn
item_conn (Close conn) = Some conn
item_conn End = None

-- an item is the end
abbrev pub is_end : Rx → Bool
is_end (Segment conn bytes) = false
is_end (Close conn) = false
is_end End = true

-- an item belongs to a connection that is not one of those of a core
abbrev pub IsOfOthers : ℕ → ℕ → ℕ → Rx → Type 0
IsOfOthers core cores count (Segment conn bytes) = IsOwn core cores count conn → ⊥
IsOfOthers core cores count (Close conn) = IsOwn core cores count conn → ⊥
IsOfOthers core cores count End = ⊥

-- each number is above those before it
abbrev pub IsRising : List ℕ → Type 0
IsRising numbers = (p q a b : ℕ) → slice_get numbers p ≡ Some a → slice_get numbers q ≡ Some b → p < q → a < b
