use Rattle.std.proofs.Common.{set, ap}
use Rattle.mc_calls.specs.declared.item.Item.{Item}
use Rattle.mc_history.specs.Recorded.{keyed}
use Rattle.mc_shard.proofs.IndexLemmas.{replaced_index, replaced_contents}
use Rattle.mc_shard.proofs.replay.put.Goals as goal

pub returns-in-Some-clause-ok : goal.returns-in-Some-clause-ok
returns-in-Some-clause-ok c =
    replaced_contents c.args.stored.now.items _ c.args.contents.now c.count_put.new.self c.args.key.now c.in-Some.place c.index_mut.result.now c.args.item
    c.requires.index c.in-Some.ensures.value c.index_mut.ensures.value
    (ap (λ (i : Item). set c.args.stored.now.items c.in-Some.place (keyed c.index_mut.result.now.key i)) c.replace.ensures.after) c.count_put.ensures.value

pub returns-in-Some-clause-index : goal.returns-in-Some-clause-index
returns-in-Some-clause-index c =
    replaced_index c.args.stored.now.items _ c.args.contents.now c.count_put.new.self c.args.key.now c.in-Some.place c.index_mut.result.now c.args.item
    c.requires.index c.in-Some.ensures.value c.index_mut.ensures.value
    (ap (λ (i : Item). set c.args.stored.now.items c.in-Some.place (keyed c.index_mut.result.now.key i)) c.replace.ensures.after) c.count_put.ensures.value
