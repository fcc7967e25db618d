-- What a seat learns from each kind of step on the control words. No public clause cites this module.
use Rattle.std.specs.Prelude.{◌≡◌, ℕ, ◌+◌, ◌≤◌, [], true, false, bit_or, bit_and}
use Rattle.atomic_table.specs.Table.{Me}
use Rattle.zy_control.specs.declared.view.Role.TheVariants.{Watcher}
use Rattle.zy_control.specs.declared.view.View.{View}
use Rattle.zy_control.specs.View.{view, untraced, done_step, stop_step, sleepers_step, counted, announcing, Covers}
use Rattle.zy_control.specs.View.{MustHaveCounted}

-- a seat's view, and the slots that it has taken: none
abbrev pub Seated : Type 0
Seated = Me ℕ View

-- the core has counted itself
abbrev pub counts : Seated → ℕ → Seated → Type 0
counts m r n = n ≡ (view (counted m.0.role) m.0.cores (done_step (r + 1) m.0.trace), m.1)

-- done was loaded: if it is the number of cores, this core has counted itself
abbrev pub sees_done : Seated → ℕ → Seated → Type 0
sees_done m r n = (n ≡ (view m.0.role m.0.cores (done_step r m.0.trace), m.1)) × (m.0.trace.done.value ≤ r)
    × (r ≡ m.0.cores → MustHaveCounted m.0.role)

-- stop was loaded: the bits found set are set
abbrev pub sees_stop : Seated → ℕ → Seated → Type 0
sees_stop m r n = (n ≡ (view m.0.role m.0.cores (stop_step r m.0.trace), m.1)) × Covers m.0.trace.stop.value r

-- bits of stop were set
abbrev pub stops : ℕ → Seated → ℕ → Seated → Type 0
stops mask m r n = (n ≡ (view m.0.role m.0.cores (stop_step (bit_or r mask) m.0.trace), m.1))
    × Covers m.0.trace.stop.value (bit_or r mask)

-- bits of sleepers were set, and the core has announced itself
abbrev pub announces : ℕ → Seated → ℕ → Seated → Type 0
announces mask m r n = n ≡ (view (announcing true m.0.role) m.0.cores (sleepers_step (bit_or r mask) m.0.trace), m.1)

-- bits of sleepers that are not in the mask were cleared, and the core has withdrawn
abbrev pub withdraws : ℕ → Seated → ℕ → Seated → Type 0
withdraws mask m r n = n ≡ (view (announcing false m.0.role) m.0.cores (sleepers_step (bit_and r mask) m.0.trace), m.1)

-- sleepers was loaded
abbrev pub sees_sleepers : Seated → ℕ → Seated → Type 0
sees_sleepers m r n = n ≡ (view m.0.role m.0.cores (sleepers_step r m.0.trace), m.1)

-- a watcher's seat was added, and its first load of stop found this
abbrev pub enters : Seated → ℕ → Seated → Type 0
enters first r n = n ≡ (view Watcher first.0.cores (stop_step r untraced), [])
