use Rattle.mc_shard.proofs.SoundLemmas.{state_by}
use Rattle.mc_shard.proofs.shard.Shard.make_other.Goals as goal

pub returns-clause-state : goal.returns-clause-state
returns-clause-state c = state_by c.args.self.now c.make_shared.new.self c.args.tag c.args.call c.shared.new.call c.make_shared.result c.make_shared.ensures.ok c.shared.ensures.call
