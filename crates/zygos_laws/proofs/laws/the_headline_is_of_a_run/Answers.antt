use Rattle.zygos_laws.proofs.CertifiedLemmas.{headline_run, run_headline}
use Rattle.zygos_laws.proofs.laws.the_headline_is_of_a_run.Goals as goal

pub returns : goal.returns
returns c = record { run = λ request call journal. (headline_run request call journal, run_headline request call journal) }
