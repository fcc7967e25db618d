use Rattle.mc_shard.proofs.IndexLemmas.{index_none}
use Rattle.mc_shard.proofs.replay.Replay.new.Goals as goal

pub invariant_of-result : goal.invariant_of-result
invariant_of-result c = rw (c.new.ensures.value, c.new-2.ensures.items) (c.requires.within, c.requires.few, index_none)
