use Rattle.std.proofs.Common.{◌<◌, length, arith}
use Rattle.zy_capture.proofs.NumberedLemmas.{numbered_failed, numbered_on}
use Rattle.zy_pcap.specs.Texts.{kept_text}
use Rattle.zy_pcap.proofs.writing.write_sessions.Goals as goal

pub returns-in_err-write_session : goal.returns-in_err-write_session
returns-in_err-write_session g c =
    let within : c.loop-session.session < length c.args.sessions.now = omega (arith, c.loop-session-test.true) in
    record {
      writes = numbered_failed (kept_text c.args.conn) c.args.sessions.now c.loop-session.session c.index-sessions-session.result c.from_residual.ensures.0 within c.loop-session.invariant.written c.in_err-write_session.ensures.writes;
    }

pub loop-session-preserved : goal.loop-session-preserved
loop-session-preserved g c =
    let within : c.loop-session.session < length c.args.sessions.now = omega (arith, c.loop-session-test.true) in
    record {
      written = numbered_on (kept_text c.args.conn) c.args.sessions.now c.loop-session.session c.index-sessions-session.result within c.loop-session.invariant.written c.in_ok-write_session.ensures.writes;
    }
