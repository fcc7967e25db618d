use Rattle.std.proofs.Common.{◌≡◌}
use Rattle.zy_core.specs.Cores.{identities}
use Rattle.zygos_tail.proofs.virtual_time.turns.take_turns.Given as goal

-- the cores are still the same
abbrev pub invariant-loop : goal.invariant-loop
invariant-loop g l = identities l.cores.items ≡ identities l.fn.cores.items
