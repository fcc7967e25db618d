use Rattle.zy_base.proofs.WritingLemmas.{writes_as, writes_then, writes_cut}
use Rattle.zy_pcap.proofs.TextLemmas.{segment_is}
use Rattle.zy_pcap.proofs.writing.write_segment.Goals as goal

pub returns-in_err-write_head : goal.returns-in_err-write_head
returns-in_err-write_head g c = record {
  writes = writes_as (segment_is c.args.conn c.args.bytes.now)
      (writes_cut _ c.from_residual.ensures.0 c.in_err-write_head.ensures.writes);
}

pub returns : goal.returns
returns g c = record {
  writes = writes_as (segment_is c.args.conn c.args.bytes.now)
      (writes_then c.in_ok-write_head.ensures.writes c.write_whole.ensures.writes);
}
