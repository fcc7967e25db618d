-- The views of a store, of its root and of its passes.
use Rattle.std.specs.Prelude.{ℕ, List}
use Rattle.atomic_table.specs.Seated.{TableId}
use Rattle.mc_calls.specs.declared.entry.Entry.{Entry}
use Rattle.mc_store.specs.declared.store.view.Trace.{Trace}
use Rattle.mc_store.specs.Joined.{Joined}

-- a store: which table it is, and the number of its shards
pub record Stored : Type 0 where
  pub id : TableId
  pub shards : ℕ

-- the store that is this table, with `shards` shards
abbrev pub stored : TableId → ℕ → Stored
stored id shards = record { id = id; shards = shards }

-- a root: its table, the connections whose passes it gave, and the passes that were joined with it
pub record Rooted : Type 0 where
  pub table : TableId
  pub given : List ℕ
  pub joined : Joined

-- the root of this table that gave the passes of these connections, and with which these passes
-- were joined
abbrev pub rooted : TableId → List ℕ → Joined → Rooted
rooted table given joined = record { table = table; given = given; joined = joined }

-- a pass: its table, its connection, its calls so far, and what it found at its last steps
pub record Passed : Type 0 where
  pub table : TableId
  pub conn : ℕ
  pub calls : List Entry
  pub trace : Trace

-- the pass of this connection on this table, with these calls
abbrev pub passed : TableId → ℕ → List Entry → Trace → Passed
passed table conn calls trace = record { table = table; conn = conn; calls = calls; trace = trace }
