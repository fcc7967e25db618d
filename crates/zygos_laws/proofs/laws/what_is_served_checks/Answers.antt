use Rattle.zy_command_line.specs.Request.{request_of}
use Rattle.zy_command_line.proofs.Ranges.{runs_are_runnable}
use Rattle.zygos_laws.proofs.CertifiedLemmas.{served_checks, certified_of}
use Rattle.zygos_laws.proofs.laws.what_is_served_checks.Goals as goal

pub returns : goal.returns
returns c = record {
  checks = served_checks;
  told = λ words asked out call bytes journal is told holds.
      certified_of asked out call bytes journal (request_of words) (λ same. runs_are_runnable words asked out same) is told holds;
}
