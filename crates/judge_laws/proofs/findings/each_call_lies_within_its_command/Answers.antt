use Rattle.judge_laws.proofs.EndedLemmas.{all_ended}
use Rattle.judge_laws.proofs.LegalLemmas.{run_within_commands}
use Rattle.judge_laws.proofs.InputLemmas.{input_within}
use Rattle.judge_laws.proofs.findings.each_call_lies_within_its_command.Goals as goal

pub returns : goal.returns
returns c = record {
  ended = all_ended;
  run = run_within_commands;
  input = λ shards number source some given. (given.0, given.1, input_within shards given.0 number some given.1.2 given.2);
}
