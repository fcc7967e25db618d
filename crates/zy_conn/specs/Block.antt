-- The view of a connection's block, and the label of blocks.
use Rattle.std.specs.Prelude.{ℕ, List, ◌∷◌}
use Rattle.atomic_table.specs.Seated.{TableId}
use Rattle.zy_table.specs.declared.name.Name.{Name}
use Rattle.zy_table.specs.Name.{name_of}
use Rattle.mc_calls.specs.declared.hold.Hold.{Hold}
use Rattle.zy_conn.specs.Work.{Worked}

-- the work of a connection, how many cores there are to hold it, and its holds so far
pub record Blocked : Type 0 where
  pub work : Worked
  pub cores : ℕ
  pub holds : List Hold

-- the block with this work, this number of cores and these holds
abbrev pub blocked : Worked → ℕ → List Hold → Blocked
blocked work cores holds = record { work = work; cores = cores; holds = holds }

-- ---- labels

-- the label of the blocks of a store and a number of cores: the name of the store, with this number before those of its
-- slots
abbrev pub label_of : TableId → ℕ → Name
label_of store cores = record (name_of store) { slot_names = cores ∷ store.slot_names }

-- the label of a block
abbrev pub label_in : Blocked → Name
label_in block = label_of block.work.table block.cores
