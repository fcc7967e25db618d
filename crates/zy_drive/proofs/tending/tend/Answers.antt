use Rattle.std.proofs.Common.{refl, ap, ◌∙◌}
use Rattle.zy_control.specs.Pass.{Held}
use Rattle.zy_drive.proofs.tending.tend.Goals as goal

pub loop-init : goal.loop-init
loop-init g c =
    (tt, tt, refl, refl, refl, refl, g.met.F.Feeder.leads_same c.args.feeder.now, (λ e. absurd (cc)), (λ e. c.requires.fresh), refl)

pub loop-preserved : goal.loop-preserved
loop-preserved g c =
    let inv = c.loop.invariant in (
      tt,
      tt,
      c.go_on_if.ensures.same.0 ∙ inv.2,
      c.go_on_if.ensures.same.1 ∙ inv.3,
      c.go_on_if.ensures.watch ∙ c.ring_if.ensures.watch ∙ ap (λ (h : Held). h.table) c.feed_next.ensures.watch ∙ inv.4,
      c.go_on_if.ensures.bells ∙ c.ring_if.ensures.bells ∙ c.feed_next.ensures.bells ∙ inv.5,
      g.met.F.Feeder.leads_on _ _ _ inv.6 c.feed_next.ensures.leads,
      c.in-Made.ensures.ended,
      c.in-Made.ensures.fresh,
      c.feed_next.ensures.rings ∙ inv.9,
    )
