use Rattle.zy_report.proofs.TableLemmas.{on_ok, line_is}
use Rattle.zy_report.proofs.lines.append_line.Goals as goal

pub returns : goal.returns
returns c = record {
  ok = on_ok c.append.result
      (λ last. line_is c.args.text.now c.append_right.new.text c.append_count.new.text c.append_count-2.new.text c.append_count-3.new.text c.append_count-4.new.text c.append_count-5.new.text c.append.new.self c.args.name.now c.args.counts
      c.in_ok-append_right.ensures.ok c.in_ok-append_count.ensures.ok c.in_ok-append_count-2.ensures.ok c.in_ok-append_count-3.ensures.ok c.in_ok-append_count-4.ensures.ok c.in_ok-append_count-5.ensures.ok last) c.append.ensures.ok;
}
