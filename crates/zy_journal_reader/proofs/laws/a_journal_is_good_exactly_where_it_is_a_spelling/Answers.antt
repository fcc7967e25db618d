use Rattle.zy_journal_reader.proofs.WholeLemmas.{good_spells}
use Rattle.zy_journal_reader.proofs.SpelledLemmas.{spells_good}
use Rattle.zy_journal_reader.proofs.laws.a_journal_is_good_exactly_where_it_is_a_spelling.Goals as goal

pub returns : goal.returns
returns c = record { exactly = λ text journal all. (good_spells text journal all, spells_good text journal) }
