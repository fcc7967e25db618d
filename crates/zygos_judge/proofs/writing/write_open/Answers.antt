use Rattle.std.proofs.Common.{sym, ap}
use Rattle.zy_base.proofs.WritingLemmas.{writes_as}
use Rattle.zygos_judge.specs.Lines.{open_line}
use Rattle.zygos_judge.proofs.writing.write_open.Goals as goal

pub returns-in-Other : goal.returns-in-Other
returns-in-Other g c = record {
  writes = writes_as (sym (ap open_line c.in-Other.is)) c.write_command.ensures.writes;
}

pub returns-in-Search : goal.returns-in-Search
returns-in-Search g c = record {
  writes = writes_as (sym (ap open_line c.in-Search.is)) c.write_command-in-Search.ensures.writes;
}
