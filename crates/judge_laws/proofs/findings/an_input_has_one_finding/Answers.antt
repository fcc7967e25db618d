use Rattle.judge_laws.proofs.TimingLemmas.{one_timing}
use Rattle.judge_laws.proofs.FindingLemmas.{input_finding}
use Rattle.judge_laws.proofs.findings.an_input_has_one_finding.Goals as goal

pub returns : goal.returns
returns c = record { timing = one_timing; same = input_finding }
