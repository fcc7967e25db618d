use Rattle.zy_check.specs.declared.verdict.Verdict.TheVariants.{Yes}
use Rattle.zy_check.specs.OfRun.{given_by_records}
use Rattle.zy_check.proofs.OneVerdictLemmas.{one_verdict}
use Rattle.zy_check.proofs.RunVerdictLemmas.{run_is_right}
use Rattle.zy_check.proofs.FileVerdictLemmas.{of_records}
use Rattle.zy_check.proofs.laws.served_runs_check.Goals as goal

pub returns : goal.returns
returns c = record {
  right = λ shards count records journal outputs are.
      run_is_right (given_by_records shards count records journal outputs) (of_records shards count records journal outputs are);
  only = λ shards count records journal outputs v are has.
      let g = given_by_records shards count records journal outputs in
      one_verdict g v Yes has (run_is_right g (of_records shards count records journal outputs are));
}
