use Rattle.mc_shard.proofs.IndexLemmas.{index_out, contents_out, some_counted, index_cleared}
use Rattle.mc_shard.proofs.replay.carry_out.Goals as goal

pub remove-requires : goal.remove-requires
remove-requires c = record { lines = c.requires.index.lines; some = some_counted c.args.stored.now.items c.args.contents.now c.in-Some-key.key c.requires.index }

pub returns-in-Some-key-clause-ok : goal.returns-in-Some-key-clause-ok
returns-in-Some-key-clause-ok c =
    rw (c.in-Remove.is, c.in-Some-key.is) (contents_out c.args.stored.now.items c.args.contents.now c.remove.new.self c.in-Some-key.key c.requires.index c.remove.ensures.lines c.remove.ensures.places c.remove.ensures.count c.remove.ensures.counts)

pub returns-in-Some-key-clause-index : goal.returns-in-Some-key-clause-index
returns-in-Some-key-clause-index c =
    index_out c.args.stored.now.items c.args.contents.now c.remove.new.self c.in-Some-key.key c.requires.index c.remove.ensures.lines c.remove.ensures.places c.remove.ensures.count c.remove.ensures.counts

pub returns-in-Clear-clause-index : goal.returns-in-Clear-clause-index
returns-in-Clear-clause-index c = (index_cleared c.args.stored.now.items _ c.args.contents.now c.clear.new.self c.clear.ensures.value c.requires.index).0
