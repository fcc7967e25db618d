use Rattle.std.proofs.Common.{rules, refl, ◌∙◌}
use Rattle.zy_rounds.proofs.feeding.feed.Goals as goal

pub returns-then-is_ended-clause-leads : goal.returns-then-is_ended-clause-leads
returns-then-is_ended-clause-leads g c = g.met.F.Feeder.leads_same c.args.feeder.now

pub loop-init : goal.loop-init
loop-init g c =
    (search rules, search rules, c.requires.fresh c.if-is_ended.false, g.met.F.Feeder.leads_same c.args.feeder.now, refl)

pub loop-preserved : goal.loop-preserved
loop-preserved g c = (
  search rules,
  search rules,
  ((λ e. let is = c.step.ensures.ended.1 e in cc), (λ e. let is = c.step.ensures.broken.1 e in cc)),
  g.met.F.Feeder.leads_on _ _ _ c.loop.invariant.3 c.step.ensures.leads,
  c.step.ensures.rings ∙ c.loop.invariant.4,
)

pub returns-in-Full-clause-fresh : goal.returns-in-Full-clause-fresh
returns-in-Full-clause-fresh g c =
    λ is. ((λ e. let ends = c.step.ensures.ended.1 e in cc), (λ e. let breaks = c.step.ensures.broken.1 e in cc))

pub returns-in-Full-clause-leads : goal.returns-in-Full-clause-leads
returns-in-Full-clause-leads g c = g.met.F.Feeder.leads_on _ _ _ c.loop.invariant.3 c.step.ensures.leads

pub returns-in-Ended-clause-leads : goal.returns-in-Ended-clause-leads
returns-in-Ended-clause-leads g c = g.met.F.Feeder.leads_on _ _ _ c.loop.invariant.3 c.step.ensures.leads

pub returns-in-Broken-clause-leads : goal.returns-in-Broken-clause-leads
returns-in-Broken-clause-leads g c = g.met.F.Feeder.leads_on _ _ _ c.loop.invariant.3 c.step.ensures.leads
