use Rattle.zygos_laws.proofs.CertifiedLemmas.{one_checked, some_checked}
use Rattle.zygos_laws.proofs.laws.an_input_has_one_verdict.Goals as goal

pub returns : goal.returns
returns c = record { some = some_checked; same = one_checked }
