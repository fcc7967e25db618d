use Rattle.zygos_laws.proofs.CertifiedLemmas.{short_journal, short_replies}
use Rattle.zygos_laws.proofs.laws.a_served_run_has_short_files.Goals as goal

pub returns : goal.returns
returns c = record { journal = short_journal; replies = short_replies }
