use Rattle.std.proofs.Common.{ap, ◌∙◌, arith}
use Rattle.mc_history.specs.Recorded.{Recorded, with_miss}
use Rattle.mc_history.proofs.CompactLemmas.{miss_view}
use Rattle.mc_history.proofs.ledger.Ledger.push_miss.Goals as goal

pub returns-clause-ok : goal.returns-clause-ok
returns-clause-ok c =
    miss_view c.self.inside.shard c.self.inside.stored.items c.self.inside.missed.items c.push_reserved.new.self.items c.self.inside.others.items c.self.inside.compact.items
    c.push_reserved-2.new.self.items
    c.args.tag c.args.stamp c.in-Ok.place c.args.key c.self.invariant (cc) (cc) (omega arith)
    ∙ ap (λ (old : Recorded). with_miss old c.args.tag c.args.stamp c.args.key) c.self.view_is
