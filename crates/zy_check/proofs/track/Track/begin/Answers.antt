use Rattle.std.proofs.Common.{Option, None, ◌∙◌, subst, arith}
use Rattle.zy_check.specs.Begun.{Begun}
use Rattle.zy_check.specs.Track.{StandsAtSession}
use Rattle.zy_check.proofs.TrackLemmas.{session_ended}
use Rattle.zy_check.proofs.track.Track.begin.Goals as goal

pub returns-in-None-clause-kept : goal.returns-in-None-clause-kept
returns-in-None-clause-kept c made has =
    let g = c.args.files.now in
    let t = c.args.self.now in
    let next = c.end_session.new.self in
    let ends = c.end_session.ensures in
    let h : StandsAtSession g c.args.conn t.session t.cursor None t.commands t.compared t.answered.items made = subst (λ (o : Option Begun). StandsAtSession g c.args.conn t.session t.cursor o t.commands t.compared t.answered.items made) c.requires.none has in
    let size = c.sessions.ensures.value in
    let more = c.if-sessions-self.false in
    let gave = rw c.in-None.is at c.in_ok-frame.ensures.gave in
    let all = rw c.stream.ensures.value at gave in
    rw (ends.session, ends.same.0 ∙ c.requires.none, ends.same.1, ends.answered)
    (session_ended g c.args.conn t.session t.cursor t.commands t.compared t.answered.items made h (omega arith) all next.cursor next.compared ends.cursor ends.compared)
