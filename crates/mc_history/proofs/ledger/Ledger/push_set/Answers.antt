use Rattle.std.proofs.Common.{ap, ◌∙◌, arith}
use Rattle.mc_history.specs.Recorded.{Recorded, keyed, with_set}
use Rattle.mc_history.proofs.CompactLemmas.{set_view}
use Rattle.mc_history.proofs.ledger.Ledger.push_set.Goals as goal

pub invariant_of-self-2 : goal.invariant_of-self-2
invariant_of-self-2 c =
    (set_view c.self.inside.shard c.self.inside.stored.items _ c.self.inside.missed.items c.self.inside.others.items c.self.inside.compact.items _
    c.args.tag c.args.stamp c.in-Ok.place (keyed c.args.key c.args.item) c.self.invariant (cc) (cc) (omega arith)).0

pub returns-clause-ok : goal.returns-clause-ok
returns-clause-ok c =
    (set_view c.self.inside.shard c.self.inside.stored.items _ c.self.inside.missed.items c.self.inside.others.items c.self.inside.compact.items _
    c.args.tag c.args.stamp c.in-Ok.place (keyed c.args.key c.args.item) c.self.invariant (cc) (cc) (omega arith)).1
    ∙ ap (λ (old : Recorded). with_set old c.args.tag c.args.stamp c.args.key c.args.item) c.self.view_is
