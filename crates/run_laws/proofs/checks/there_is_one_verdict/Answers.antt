use Rattle.zy_check.proofs.OneVerdictLemmas.{one_verdict}
use Rattle.run_laws.proofs.SomeVerdictLemmas.{some_verdict}
use Rattle.run_laws.proofs.checks.there_is_one_verdict.Goals as goal

pub returns : goal.returns
returns c = record { some = some_verdict; same = one_verdict }
