use Rattle.zy_base.proofs.WritingLemmas.{writes_as, writes_then, writes_cut}
use Rattle.zy_pcap.proofs.TextLemmas.{capture_written}
use Rattle.zy_pcap.proofs.writing.write_flows.Goals as goal

pub returns-in_err-write_start : goal.returns-in_err-write_start
returns-in_err-write_start g c = record {
  writes = writes_as (capture_written c.kept-all.result.now c.args.flows.now c.count.result c.kept-all.ensures.value c.count.ensures.value)
      (writes_cut _ c.from_residual.ensures.0 c.in_err-write_start.ensures.writes);
}

pub returns-in_err-write_connections : goal.returns-in_err-write_connections
returns-in_err-write_connections g c = record {
  writes = writes_as (capture_written c.kept-all.result.now c.args.flows.now c.count.result c.kept-all.ensures.value c.count.ensures.value)
      (writes_then c.in_ok-write_start.ensures.writes
      (writes_cut _ c.from_residual-in_err-write_connections.ensures.0 c.in_err-write_connections.ensures.writes));
}

pub returns : goal.returns
returns g c = record {
  writes = writes_as (capture_written c.kept-all.result.now c.args.flows.now c.count.result c.kept-all.ensures.value c.count.ensures.value)
      (writes_then c.in_ok-write_start.ensures.writes (writes_then c.in_ok-write_connections.ensures.writes c.write_whole.ensures.writes));
}
