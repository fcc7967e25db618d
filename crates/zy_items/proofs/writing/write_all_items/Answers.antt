use Rattle.std.proofs.Common.{ap}
use Rattle.zy_base.proofs.WritingLemmas.{pieces_failed, writes_as, written_as, written_on}
use Rattle.zy_items.specs.declared.standing.KeptItem.{KeptItem}
use Rattle.zy_items.specs.Items.{item_text}
use Rattle.zy_items.proofs.WriteLemmas.{items_on}
use Rattle.zy_items.proofs.writing.write_all_items.Goals as goal

pub loop-kept-preserved : goal.loop-kept-preserved
loop-kept-preserved g c = record {
  written = written_as (items_on c.args.items.now c.loop-kept.kept-index c.kept-item.result c.loop-kept-test.true c.kept-item.is) (written_on c.loop-kept.invariant.written c.in_ok-write_item.ensures.writes);
}

pub returns-in_err-write_item : goal.returns-in_err-write_item
returns-in_err-write_item g c = record {
  writes = pieces_failed item_text c.args.items.now c.loop-kept.kept-index c.kept-item.result c.from_residual.ensures.0 c.loop-kept-test.true c.loop-kept.invariant.written
      (writes_as (ap (λ (k : KeptItem). item_text k) c.kept-item.is) c.in_err-write_item.ensures.writes);
}
