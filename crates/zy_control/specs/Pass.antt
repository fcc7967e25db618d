-- The views of the control words and of the passes on them.
use Rattle.std.specs.Prelude.{ℕ, Bool}
use Rattle.atomic_table.specs.Seated.{TableId}
use Rattle.zy_control.specs.declared.view.Trace.{Trace}
use Rattle.zy_control.specs.declared.view.Role.{Role}
use Rattle.zy_control.specs.declared.view.Role.TheVariants.{Watcher}
use Rattle.zy_control.specs.View.{untraced, done_step, stop_step, sleepers_step, counted, announcing}

-- the control words: which table they are, and the number of cores
pub record Controlled : Type 0 where
  pub id : TableId
  pub cores : ℕ

-- the control words in this table, of this number of cores
abbrev pub controlled : TableId → ℕ → Controlled
controlled id cores = record { id = id; cores = cores }

-- a root: its table, the number of seats that it gave, and the number of cores
pub record Rooted : Type 0 where
  pub table : TableId
  pub given : ℕ
  pub cores : ℕ

-- the root with these parts
abbrev pub rooted : TableId → ℕ → ℕ → Rooted
rooted table given cores = record { table = table; given = given; cores = cores }

-- a pass: its table, its role, the number of cores, and what it has seen
pub record Held : Type 0 where
  pub table : TableId
  pub role : Role
  pub cores : ℕ
  pub trace : Trace

-- the pass with these parts
abbrev pub held : TableId → Role → ℕ → Trace → Held
held table role cores trace = record { table = table; role = role; cores = cores; trace = trace }

-- ---- steps

-- the pass of a watcher, whose first load of stop found this
abbrev pub watching : Controlled → ℕ → Held
watching c found = held c.id Watcher c.cores (stop_step found untraced)

-- the pass of a core that has counted itself; after that step done had this value
abbrev pub counting : ℕ → Held → Held
counting value p = held p.table (counted p.role) p.cores (done_step value p.trace)

-- a pass that has seen done
abbrev pub seeing_done : ℕ → Held → Held
seeing_done value p = held p.table p.role p.cores (done_step value p.trace)

-- a pass that has seen or set stop
abbrev pub seeing_stop : ℕ → Held → Held
seeing_stop value p = held p.table p.role p.cores (stop_step value p.trace)

-- a pass that has seen sleepers
abbrev pub seeing_sleepers : ℕ → Held → Held
seeing_sleepers value p = held p.table p.role p.cores (sleepers_step value p.trace)

-- the pass of a core that has announced itself, or withdrawn; after that step sleepers had this value
abbrev pub resting : Bool → ℕ → Held → Held
resting is value p = held p.table (announcing is p.role) p.cores (sleepers_step value p.trace)
