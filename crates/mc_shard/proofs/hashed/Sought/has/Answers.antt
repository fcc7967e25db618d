use Rattle.std.proofs.Common.{◌∙◌}
use Rattle.std.specs.Cmp.Lexicographic.{texts_ties}
use Rattle.mc_shard.proofs.MapLemmas.{alike}
use Rattle.mc_shard.proofs.hashed.Sought.has.Goals as goal

pub returns : goal.returns
returns c =
    rw (← c.self.view_is) (record {
      value = c.eq.ensures ∙ texts_ties c.self.inside.key.now c.args.other.now ∙ alike c.self.inside.key.now c.args.other.now;
    })
