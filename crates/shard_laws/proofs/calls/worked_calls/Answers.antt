use Rattle.std.proofs.Common.{[], map}
use Rattle.std.specs.Fmt.{digits}
use Rattle.mc_calls.specs.Counted.{no_calls}
use Rattle.shard_laws.specs.Worked.{exchanges, joins, counts, removals}
use Rattle.shard_laws.proofs.WorkedLemmas.{is_told}
use Rattle.shard_laws.proofs.calls.worked_calls.Goals as goal

pub returns-clause-exchanges : goal.returns-clause-exchanges
returns-clause-exchanges c = is_told 16 12 (map (λ row. row.0) exchanges) [] 0 no_calls

pub returns-clause-joins : goal.returns-clause-joins
returns-clause-joins c = is_told 16 12 (map (λ row. row.0) joins) [] 0 no_calls

pub returns-clause-counts : goal.returns-clause-counts
unfolding digits
returns-clause-counts c = is_told 16 12 (map (λ row. row.0) counts) [] 0 no_calls

pub returns-clause-removals : goal.returns-clause-removals
returns-clause-removals c = is_told 16 12 (map (λ row. row.0) removals) [] 0 no_calls
