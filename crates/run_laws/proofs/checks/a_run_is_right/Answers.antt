use Rattle.zy_check.specs.declared.verdict.Verdict.TheVariants.{Yes}
use Rattle.zy_check.proofs.OneVerdictLemmas.{one_verdict}
use Rattle.zy_check.proofs.RunVerdictLemmas.{run_is_right}
use Rattle.run_laws.proofs.checks.a_run_is_right.Goals as goal

pub returns : goal.returns
returns c = record { right = run_is_right; only = λ g v is has. one_verdict g v Yes has (run_is_right g is) }
