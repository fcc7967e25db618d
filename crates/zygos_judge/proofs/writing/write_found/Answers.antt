use Rattle.std.proofs.Common.{sym, ap}
use Rattle.zy_base.proofs.WritingLemmas.{writes_as}
use Rattle.zygos_judge.specs.Lines.{finding_line}
use Rattle.zygos_judge.proofs.writing.write_found.Goals as goal

pub returns-in-Explained : goal.returns-in-Explained
returns-in-Explained g c = record {
  writes = writes_as (sym (ap finding_line c.in-Explained.is)) c.write_two.ensures.writes;
}
