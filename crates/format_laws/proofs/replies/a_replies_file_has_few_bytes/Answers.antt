use Rattle.format_laws.proofs.CaptureLengthLemmas.{replies_few}
use Rattle.format_laws.proofs.replies.a_replies_file_has_few_bytes.Goals as goal

pub returns : goal.returns
returns c = record { whole = replies_few }
