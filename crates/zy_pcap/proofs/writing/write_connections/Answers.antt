use Rattle.std.proofs.Common.{◌<◌, length, ap, arith}
use Rattle.zy_base.proofs.WritingLemmas.{writes_as}
use Rattle.zy_capture.proofs.NumberedLemmas.{numbered_failed, numbered_on}
use Rattle.zy_pcap.specs.Texts.{kept_connection}
use Rattle.zy_pcap.proofs.writing.write_connections.Goals as goal

pub returns-in_err-write_connection : goal.returns-in_err-write_connection
returns-in_err-write_connection g c =
    let within : c.loop-conn.conn < length c.args.flows.now = omega (arith, c.loop-conn-test.true) in
    record {
      writes = numbered_failed kept_connection c.args.flows.now c.loop-conn.conn c.index-flows-conn.result c.from_residual.ensures.0 within c.loop-conn.invariant.written
          (writes_as (ap (kept_connection c.loop-conn.conn) c.index-flows-conn.is) c.in_err-write_connection.ensures.writes);
    }

pub loop-conn-preserved : goal.loop-conn-preserved
loop-conn-preserved g c =
    let within : c.loop-conn.conn < length c.args.flows.now = omega (arith, c.loop-conn-test.true) in
    record {
      written = numbered_on kept_connection c.args.flows.now c.loop-conn.conn c.index-flows-conn.result within c.loop-conn.invariant.written
          (writes_as (ap (kept_connection c.loop-conn.conn) c.index-flows-conn.is) c.in_ok-write_connection.ensures.writes);
    }
