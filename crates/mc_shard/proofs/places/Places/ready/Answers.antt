use Rattle.std.proofs.Common.{◌∙◌}
use Rattle.mc_shard.proofs.places.Places.ready.Goals as goal

pub spot_of-requires : goal.spot_of-requires
spot_of-requires g c = record { lines = (c.grow.ensures.same (g.S.Stored.stored c.args.stored.now) c.requires.lines).0 }

pub returns-in-Ok-clause-same : goal.returns-in-Ok-clause-same
returns-in-Ok-clause-same g c = λ q. c.spot_of.ensures.same q ∙ (c.grow.ensures.same (g.S.Stored.stored c.args.stored.now) c.requires.lines).1 q

pub returns-in-Err-clause-lines : goal.returns-in-Err-clause-lines
returns-in-Err-clause-lines g c = (c.grow.ensures.same (g.S.Stored.stored c.args.stored.now) c.requires.lines).0

pub returns-in-Err-clause-same : goal.returns-in-Err-clause-same
returns-in-Err-clause-same g c = (c.grow.ensures.same (g.S.Stored.stored c.args.stored.now) c.requires.lines).1
