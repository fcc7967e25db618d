use Rattle.zy_capture.proofs.AddLemmas.{next_adds}
use Rattle.format_laws.proofs.replies.outputs_that_are_read_can_be_added.Goals as goal

pub returns : goal.returns
returns c = record {
  may = λ outputs item are ordered. (next_adds outputs item are ordered).may;
  last = λ outputs item are ordered. (next_adds outputs item are ordered).items;
}
