use Rattle.zy_report.proofs.TableLemmas.{on_ok, right_is}
use Rattle.zy_report.proofs.lines.append_right.Goals as goal

pub returns : goal.returns
returns c = record {
  ok = on_ok c.append-2.result
      (λ last. right_is c.args.text.now c.append.new.self c.append-2.new.self c.args.bytes.now c.args.places c.saturating_sub-missing.result c.requires.few c.saturating_sub-missing.ensures c.in_ok-append.ensures.ok last) c.append-2.ensures.ok;
}
