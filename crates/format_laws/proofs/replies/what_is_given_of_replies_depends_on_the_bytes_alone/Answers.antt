use Rattle.format_laws.proofs.PieceLemmas.{same_given, same_state}
use Rattle.zy_capture.specs.RepliesVerdict.{replies}
use Rattle.format_laws.proofs.replies.what_is_given_of_replies_depends_on_the_bytes_alone.Goals as goal

pub returns : goal.returns
returns c = record { given = same_given replies; state = same_state replies }
