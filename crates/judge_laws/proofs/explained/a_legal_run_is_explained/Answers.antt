use Rattle.judge_laws.proofs.LegalLemmas.{run_explained}
use Rattle.judge_laws.proofs.InputLemmas.{input_explained}
use Rattle.judge_laws.proofs.explained.a_legal_run_is_explained.Goals as goal

pub returns : goal.returns
returns c = record {
  run = run_explained;
  input = λ warm forget shards commands ended source some given. (given.0, given.1, input_explained shards given.0 commands ended some given.1.2 given.2 warm forget);
}
