use Rattle.std.proofs.Common.{refl, sym, ap, ◌∙◌, subst}
use Rattle.std.specs.Prelude.{slice_get}
use Rattle.zy_core.specs.Cores.{identities, EachFits}
use Rattle.zy_rounds.proofs.ordered.drive_ordered.Goals as goal

pub loop-init : goal.loop-init
loop-init g c =
    (tt, tt, ap identities c.into_items-items.ensures.value, g.met.F.Feeder.leads_same c.args.feeder.now, (λ e. absurd (cc)), (λ e. c.requires.fresh), refl)

pub loop-preserved : goal.loop-preserved
loop-preserved g c =
    let inv = c.loop.invariant in (
      tt,
      tt,
      c.round.ensures.same ∙ inv.2,
      g.met.F.Feeder.leads_on _ _ _ inv.3 (g.met.F.Feeder.leads_on _ _ _ c.feed.ensures.leads c.round.ensures.leads),
      (λ e. c.round.ensures.ended.0.1 (c.in-Some-feed.ensures.ended e)),
      (λ e.
          let fresh = c.in-Some-feed.ensures.fresh e in
          ((λ ends. fresh.0 (c.round.ensures.ended.0.0 ends)), (λ breaks. fresh.1 (c.round.ensures.ended.1.0 breaks)))),
      c.round.ensures.rings ∙ c.feed.ensures.rings ∙ inv.6,
    )

pub round-requires-clause-fits : goal.round-requires-clause-fits
round-requires-clause-fits g c = subst (EachFits c.args.shared.now) (sym c.loop.invariant.2) c.requires.cores.each

pub round-requires-clause-inlets : goal.round-requires-clause-inlets
round-requires-clause-inlets g c = λ i d at.
    ap (λ rings. slice_get rings d.core) (c.feed.ensures.rings ∙ c.loop.invariant.6) ∙ c.requires.inlets i d (ap (λ ids. slice_get ids i) (sym c.loop.invariant.2) ∙ at)

pub returns-in-None-feed-clause-leads : goal.returns-in-None-feed-clause-leads
returns-in-None-feed-clause-leads g c = g.met.F.Feeder.leads_on _ _ _ c.loop.invariant.3 c.feed.ensures.leads

pub returns-in-Err-clause-leads : goal.returns-in-Err-clause-leads
returns-in-Err-clause-leads g c =
    g.met.F.Feeder.leads_on _ _ _ c.loop.invariant.3 (g.met.F.Feeder.leads_on _ _ _ c.feed.ensures.leads c.round.ensures.leads)

pub returns-then-are_settled-clause-leads : goal.returns-then-are_settled-clause-leads
returns-then-are_settled-clause-leads g c =
    g.met.F.Feeder.leads_on _ _ _ c.loop.invariant.3 (g.met.F.Feeder.leads_on _ _ _ c.feed.ensures.leads c.round.ensures.leads)

pub returns-then-are_settled-clause-ended : goal.returns-then-are_settled-clause-ended
returns-then-are_settled-clause-ended g c = λ is. c.round.ensures.ended.0.1 (c.in-Some-feed.ensures.ended c.if-is_ended.true)
