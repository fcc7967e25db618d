use Rattle.std.proofs.Common.{◌<◌, ◌-◌, length, take, ap, subst, sym, ◌∙◌, arith}
use Rattle.std.specs.List.{remove}
use Rattle.mc_shard.specs.Places.{Held}
use Rattle.mc_shard.proofs.LineLemmas.{take_within, closed_out}
use Rattle.mc_shard.proofs.line.Line.take_out.Goals as goal

pub returns-clause-slots : goal.returns-clause-slots
returns-clause-slots c =
    let slots = c.self.inside.slots in
    let count = c.self.inside.count in
    let below = take_within slots count c.args.at (subst (λ (h : Held). c.args.at < length h.slots) (sym c.self.view_is) c.requires.within) in
    ap (take (count - 1)) c.copy_within.ensures.after
    ∙ closed_out slots c.args.at count below (omega (arith, c.self.invariant.0, c.self.invariant.1))
    ∙ ap (λ (h : Held). remove h.slots c.args.at) c.self.view_is
