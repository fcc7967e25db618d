use Rattle.std.proofs.Common.{◌<◌, [], length, arith}
use Rattle.zy_capture.specs.Replies.{connection_text}
use Rattle.zy_capture.proofs.NumberedLemmas.{numbered_failed, numbered_on}
use Rattle.zy_capture.proofs.writing.write_connections.Goals as goal

pub returns-in_err-write_connection : goal.returns-in_err-write_connection
returns-in_err-write_connection g c =
    let within : c.loop-conn.conn < length c.args.outputs.now.sessions = omega (arith, c.loop-conn-test.true, c.count-conn-end.ensures.value) in
    record {
      writes = numbered_failed (connection_text c.args.outputs.now.version) c.args.outputs.now.sessions c.loop-conn.conn [] c.from_residual.ensures.0 within c.loop-conn.invariant.written c.in_err-write_connection.ensures.writes;
    }

pub loop-conn-preserved : goal.loop-conn-preserved
loop-conn-preserved g c =
    let within : c.loop-conn.conn < length c.args.outputs.now.sessions = omega (arith, c.loop-conn-test.true, c.count-conn-end.ensures.value) in
    record {
      written = numbered_on (connection_text c.args.outputs.now.version) c.args.outputs.now.sessions c.loop-conn.conn [] within c.loop-conn.invariant.written c.in_ok-write_connection.ensures.writes;
    }
