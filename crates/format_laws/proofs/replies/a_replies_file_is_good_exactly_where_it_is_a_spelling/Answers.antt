use Rattle.zy_capture.proofs.RepliesWholeLemmas.{good_spells}
use Rattle.format_laws.proofs.RepliesSpelledLemmas.{spells_good}
use Rattle.format_laws.proofs.replies.a_replies_file_is_good_exactly_where_it_is_a_spelling.Goals as goal

pub returns : goal.returns
returns c = record { exactly = λ text version items all. (good_spells text version items all, spells_good text version items) }
