use Rattle.std.proofs.Common.{◌≡◌, ◌<◌, ℕ, List, [], length, refl, get_or, arith}
use Rattle.zy_base.proofs.WritingLemmas.{writes_as}
use Rattle.zy_capture.specs.Streams.{sessions_of}
use Rattle.zy_capture.specs.Replies.{output_text}
use Rattle.zy_capture.proofs.NumberedLemmas.{numbered_failed, numbered_on}
use Rattle.zy_capture.proofs.writing.write_connection.Goals as goal

pub returns-in_err-write_output : goal.returns-in_err-write_output
returns-in_err-write_output g c =
    let sessions : List (List ℕ) = sessions_of c.args.outputs.now.sessions c.args.conn in
    let same : output_text c.version.result c.args.conn c.loop-session.session c.output.result.now ≡ output_text c.args.outputs.now.version c.args.conn c.loop-session.session (get_or sessions c.loop-session.session []) = rw (c.version.ensures.value, c.output.ensures.value) refl in
    let within : c.loop-session.session < length sessions = omega (arith, c.loop-session-test.true, c.sessions-session-end.ensures.value) in
    record {
      writes = numbered_failed (output_text c.args.outputs.now.version c.args.conn) sessions c.loop-session.session [] c.from_residual.ensures.0 within c.loop-session.invariant.written
          (writes_as same c.in_err-write_output.ensures.writes);
    }

pub loop-session-preserved : goal.loop-session-preserved
loop-session-preserved g c =
    let sessions : List (List ℕ) = sessions_of c.args.outputs.now.sessions c.args.conn in
    let same : output_text c.version.result c.args.conn c.loop-session.session c.output.result.now ≡ output_text c.args.outputs.now.version c.args.conn c.loop-session.session (get_or sessions c.loop-session.session []) = rw (c.version.ensures.value, c.output.ensures.value) refl in
    let within : c.loop-session.session < length sessions = omega (arith, c.loop-session-test.true, c.sessions-session-end.ensures.value) in
    record {
      written = numbered_on (output_text c.args.outputs.now.version c.args.conn) sessions c.loop-session.session [] within c.loop-session.invariant.written
          (writes_as same c.in_ok-write_output.ensures.writes);
    }
