use Rattle.zy_capture.proofs.WholeLemmas.{good_spells}
use Rattle.zy_capture.proofs.WholeLemmas.{spells_good}
use Rattle.zy_capture.proofs.laws.a_capture_is_good_exactly_where_it_is_a_spelling.Goals as goal

pub returns : goal.returns
returns c = record { exactly = λ text version count items all. (good_spells text version count items all, spells_good text version count items) }
