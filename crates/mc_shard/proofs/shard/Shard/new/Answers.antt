use Rattle.mc_shard.proofs.StoreLemmas.{indexed_none}
use Rattle.mc_shard.proofs.shard.Shard.new.Goals as goal

pub invariant_of-result : goal.invariant_of-result
invariant_of-result c = rw (c.new.ensures.value, c.new-2.ensures.value) (indexed_none c.args.number c.args.shards c.requires.within c.requires.few)
