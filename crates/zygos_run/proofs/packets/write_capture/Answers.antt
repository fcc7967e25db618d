use Rattle.zy_base.proofs.WritingLemmas.{written_by, writes_finished}
use Rattle.zygos_run.proofs.packets.write_capture.Goals as goal

pub returns : goal.returns
returns g c = record {
  writes = writes_finished (written_by c.in_ok-write_flows.ensures.writes) c.finish.ensures.bytes c.finish.ensures.count c.finish.ensures.cause c.finish.ensures.finished c.finish.ensures.last;
}
