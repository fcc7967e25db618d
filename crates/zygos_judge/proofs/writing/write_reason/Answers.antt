use Rattle.std.proofs.Common.{sym, ap}
use Rattle.zy_base.proofs.WritingLemmas.{writes_as}
use Rattle.zygos_judge.specs.Lines.{reason_line}
use Rattle.zygos_judge.proofs.writing.write_reason.Goals as goal

pub returns-in-Shared : goal.returns-in-Shared
returns-in-Shared g c = record {
  writes = writes_as (sym (ap reason_line c.in-Shared.is)) c.write_call-in-Shared.ensures.writes;
}
