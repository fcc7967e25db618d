use Rattle.zy_finish.proofs.PartLemmas.{next_added, last_added}
use Rattle.std.proofs.Common.{◌∙◌, sym}
use Rattle.zy_finish.proofs.sessions.add_parts.Goals as goal

pub loop-end-preserved : goal.loop-end-preserved
loop-end-preserved c = record {
  version = c.add_copy.ensures.version ∙ c.loop-end.invariant.version;
  added = next_added c.args.outputs.now.sessions c.args.ends.now c.args.output.now.texts c.loop-end.end-index c.loop-end.start c.args.conn c.loop-end.outputs c.add_copy.new.outputs c.between.result.now
      c.loop-end-test.true c.requires.next c.loop-end.invariant.added c.between.ensures.value c.in_ok-add_copy.ensures.ok;
}

pub returns : goal.returns
returns c = record {
  version = c.add_copy-2.ensures.version ∙ c.loop-end.invariant.version ∙ sym c.requires.version;
  ok = last_added c.args.outputs.now.sessions c.args.ends.now c.args.output.now.texts c.loop-end.end-index c.loop-end.start c.args.conn c.loop-end.outputs c.add_copy-2.new.outputs c.behind.result.now
      c.loop-end-test.false c.requires.next c.loop-end.invariant.added c.behind.ensures.value c.in_ok-add_copy-2.ensures.ok;
}
