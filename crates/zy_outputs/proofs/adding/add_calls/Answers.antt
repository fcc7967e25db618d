use Rattle.std.proofs.lemmas.Result.{on_ok_weaker}
use Rattle.zy_outputs.proofs.AddingLemmas.{parts_add_calls}
use Rattle.zy_outputs.proofs.adding.add_calls.Goals as goal

pub returns : goal.returns
returns c = record {
  added = on_ok_weaker c.add_parts-added.result
      (parts_add_calls c.args.rules c.args.name c.args.command.now c.args.text.now c.in_ok-parts.parts.items c.args.seen c.args.calls.now c.add_parts-added.new.calls c.in_ok-parts.ensures.suits)
      c.add_parts-added.ensures.added;
}
