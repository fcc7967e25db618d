-- When the cores of a run rest.
use Rattle.std.specs.Prelude.{ℕ, nat_lt, ◌==◌, ◌&&◌, if◌then◌else◌}

-- the number of idle turns in a row after which the cores of a run rest, 0 if none rests; they rest only if each of
-- several threads drives one core
abbrev pub idle_turns_before_rest : ℕ → ℕ → ℕ → ℕ
idle_turns_before_rest threads cores rest = if nat_lt 1 threads && (threads == cores) then rest else 0
