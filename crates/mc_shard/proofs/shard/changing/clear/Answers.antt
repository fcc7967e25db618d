use Rattle.mc_shard.proofs.IndexLemmas.{index_cleared}
use Rattle.mc_shard.proofs.shard.changing.clear.Goals as goal

pub returns-in-Ok-clause-ok : goal.returns-in-Ok-clause-ok
returns-in-Ok-clause-ok c = (index_cleared c.args.ledger.now.stored c.keep.new.ledger.stored c.args.contents.now c.clear.new.self c.clear.ensures.value c.requires.index).1

pub returns-in-Ok-clause-index : goal.returns-in-Ok-clause-index
returns-in-Ok-clause-index c = (index_cleared c.args.ledger.now.stored c.keep.new.ledger.stored c.args.contents.now c.clear.new.self c.clear.ensures.value c.requires.index).0
