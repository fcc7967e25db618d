use Rattle.zygos_laws.proofs.CertifiedLemmas.{checked_run}
use Rattle.zygos_laws.proofs.laws.an_input_that_checks_is_of_a_run.Goals as goal

pub returns : goal.returns
returns c = record { run = λ shards source some given. (given.0, given.1, checked_run shards given.0 some given.1.2 given.2) }
