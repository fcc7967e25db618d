use Rattle.std.proofs.Common.{sym}
use Rattle.zy_capture.proofs.StreamLemmas.{last_of-append}
use Rattle.zy_capture.proofs.sessions.Sessions.into_last.Goals as goal

pub returns : goal.returns
returns c = record { value = rw (← c.self.view_is) (sym (last_of-append c.self.inside.before.items c.self.inside.last)) }
