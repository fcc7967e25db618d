use Rattle.std.proofs.Common.{ap}
use Rattle.zy_base.proofs.WritingLemmas.{writes_as, writes_then, writes_cut}
use Rattle.zygos_judge.specs.Lines.{finding_line}
use Rattle.zygos_judge.proofs.TextLemmas.{text_rest, text_is, text_led}
use Rattle.zygos_judge.proofs.writing.write_text.Goals as goal

pub returns-in_err-write_found : goal.returns-in_err-write_found
returns-in_err-write_found g c = record {
  writes = writes_as (text_is c.args.judged.now c.args.to)
      (writes_cut (text_rest c.args.judged.now c.args.to) c.from_residual.ensures.0 (writes_as (ap finding_line c.finding.ensures.value) c.in_err-write_found.ensures.writes));
}

pub returns-in-Window : goal.returns-in-Window
returns-in-Window g c = record {
  writes = writes_as (text_led c.args.judged.now c.args.to c.in-Window.led c.in-Window.is c.if-to.true)
      (writes_then (writes_as (ap finding_line c.finding.ensures.value) c.in_ok-write_found.ensures.writes) c.write_items.ensures.writes);
}
