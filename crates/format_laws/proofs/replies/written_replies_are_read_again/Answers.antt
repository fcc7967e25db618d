use Rattle.zy_capture.specs.Replies.{replies_bytes, items_of}
use Rattle.format_laws.proofs.RepliesSpelledLemmas.{spells_good}
use Rattle.format_laws.proofs.RepliesAgainLemmas.{written_spells}
use Rattle.format_laws.proofs.replies.written_replies_are_read_again.Goals as goal

pub returns : goal.returns
returns c = record { again = λ outputs are short. spells_good (replies_bytes outputs) outputs.version (items_of outputs) (written_spells outputs are short) }
