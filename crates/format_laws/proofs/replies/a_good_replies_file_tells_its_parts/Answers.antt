use Rattle.zy_capture.proofs.RepliesWholeLemmas.{good_spells}
use Rattle.zy_capture.proofs.RepliesSoFarLemmas.{good_tells}
use Rattle.format_laws.proofs.replies.a_good_replies_file_tells_its_parts.Goals as goal

pub returns : goal.returns
returns c = record {
  version = λ text version items all good. (good_tells text version items (good_spells text version items all good).valid.known good).version_is;
  outputs = λ text version items all good. (good_tells text version items (good_spells text version items all good).valid.known good).outputs_are;
}
