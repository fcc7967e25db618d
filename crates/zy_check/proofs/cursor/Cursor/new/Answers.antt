use Rattle.zy_check.proofs.CursorLemmas.{none_given}
use Rattle.zy_check.proofs.cursor.Cursor.new.Goals as goal

pub returns : goal.returns
returns c = record { none = λ stream. rw c.new-2.ensures.value (none_given c.new.result stream c.new.ensures.empty) }
