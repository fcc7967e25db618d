use Rattle.std.proofs.Common.{refl}
use Rattle.zy_capture.specs.Replies.{replies_bytes}
use Rattle.format_laws.proofs.examples.worked_replies.Goals as goal

pub returns-clause-written : goal.returns-clause-written
unfolding replies_bytes
returns-clause-written c = refl

pub returns-clause-written_sessions : goal.returns-clause-written_sessions
unfolding replies_bytes
returns-clause-written_sessions c = refl
