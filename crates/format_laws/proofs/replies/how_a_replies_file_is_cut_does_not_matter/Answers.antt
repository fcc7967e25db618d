use Rattle.format_laws.proofs.PieceLemmas.{pieces_fed}
use Rattle.zy_capture.specs.RepliesVerdict.{replies}
use Rattle.format_laws.proofs.replies.how_a_replies_file_is_cut_does_not_matter.Goals as goal

pub returns : goal.returns
returns c = record { whole = pieces_fed replies }
