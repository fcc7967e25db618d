use Rattle.std.proofs.Common.{rules, sym, ap, ◌∙◌, arith, subst}
use Rattle.std.specs.Slots.{slots_items, slots_counts}
use Rattle.zy_shuffle.proofs.LeftLemmas.{closes_as, shuts_as}
use Rattle.zy_shuffle.specs.Pass.{Held, LeftSlots}
use Rattle.zy_shuffle.proofs.ring.Ring.close.Goals as goal

pub load-requires : goal.load-requires
load-requires g c = let i = c.self.invariant in (search rules, omega arith, shuts_as g.T.Marked.mark g.T.Marked.label _ _ _ _ c.home.inside.seat.me c.home.invariant (ap (λ v. v.out) c.home.view_is ∙ c.requires.joined))

pub returns-clause-value : goal.returns-clause-value
returns-clause-value g c =
    let e = c.close_with-closed.ensures in
    let long = sym (slots_counts c.close_with-closed.result.slots).0 ∙ e.counts.1 ∙ c.self.invariant.0 ∙ ap (λ v. v.places) c.self.view_is in (
      slots_items c.close_with-closed.result.slots,
      c.from_slots.ensures.value,
      subst (λ (v : Held g.row.T.Denot). LeftSlots g.T.Marked.mark g.T.Marked.label c.args.self.places v (slots_items c.close_with-closed.result.slots)) c.home.view_is
          (closes_as g.T.Marked.mark g.T.Marked.label c.args.self.places _ c.home.inside.seat.table_id _ _ c.home.inside.seat.me c.load.new.seat.me c.load.ensures.2 e.values.2 long),
    )
