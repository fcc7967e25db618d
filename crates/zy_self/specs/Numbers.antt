-- Numbers that are added up. No public clause cites this module.
use Rattle.std.specs.Prelude.{ℕ, List}
use Rattle.std.specs.List.{sum_by}
use Rattle.mc_calls.specs.declared.hold.Hold.{Hold}

-- the counts of all holds, added up
abbrev pub all_held : List Hold → ℕ
all_held holds = sum_by (λ (hold : Hold). hold.count) holds
