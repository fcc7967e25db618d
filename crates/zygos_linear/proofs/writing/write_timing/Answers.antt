use Rattle.std.proofs.Common.{sym, ap}
use Rattle.zy_base.proofs.WritingLemmas.{writes_as}
use Rattle.zygos_linear.specs.Lines.{timing_line}
use Rattle.zygos_linear.proofs.writing.write_timing.Goals as goal

pub returns-in-InTime : goal.returns-in-InTime
returns-in-InTime g c = record {
  writes = writes_as (sym (ap timing_line c.in-InTime.is)) c.write_two.ensures.writes;
}
