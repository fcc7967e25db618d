use Rattle.std.proofs.Common.{ap}
use Rattle.std.specs.Ordering.{nat_cmp}
use Rattle.std.specs.Cmp.Lexicographic.{slice_cmp}
use Rattle.std.specs.FinMap.{get-empty}
use Rattle.mc_calls.specs.declared.call.Call.TheVariants.{Get, Flush}
use Rattle.mc_calls.specs.Shard.{tallied, state_after, outcome_of}
use Rattle.shard_laws.proofs.calls.a_flush_empties_and_keeps_the_counter.Goals as goal

pub returns-clause-miss : goal.returns-clause-miss
returns-clause-miss c = λ shards number state key. ap (λ found. (outcome_of (tallied (state_after shards number state Flush)) (Get key) found).reply) (get-empty (slice_cmp nat_cmp) key)
