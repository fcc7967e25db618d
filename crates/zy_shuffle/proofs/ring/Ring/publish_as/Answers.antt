use Rattle.std.proofs.Common.{◌+◌, ◌%◌, rules, sym, ap, ◌∙◌, arith, refl}
use Rattle.zy_shuffle.proofs.GiveLemmas.{stores_cell_as, stores_tail_as}
use Rattle.zy_shuffle.proofs.PassLemmas.{home_published}
use Rattle.zy_table.specs.Member.{is_in}
use Rattle.zy_shuffle.proofs.ring.Ring.publish_as.Goals as goal

pub nonzero_rem-at : goal.nonzero_rem-at
nonzero_rem-at g c =
    let i = c.self.invariant in
    let hand = ap (λ v. v.hand) c.home.view_is in
    let near = c.home.invariant.2 c.args.place (ap (λ l. is_in c.args.place l) hand ∙ c.requires.hand) in
    let table = ap (λ v. v.table.slots) c.home.view_is in
    let asked = ap (λ z. z.slots) c.requires.within in
    let own = ap (λ v. v.id.slots) c.self.view_is in
    omega arith

pub store-requires : goal.store-requires
store-requires g c =
    let i = c.self.invariant in
    let hand = ap (λ v. v.hand) c.home.view_is in
    let near = c.home.invariant.2 c.args.place (ap (λ l. is_in c.args.place l) hand ∙ c.requires.hand) in
    let table = ap (λ v. v.table.slots) c.home.view_is in
    let asked = ap (λ z. z.slots) c.requires.within in
    let own = ap (λ v. v.id.slots) c.self.view_is in (
      search rules,
      omega arith,
      stores_cell_as g.T.Marked.mark g.T.Marked.label _ _ _ _ _ c.home.inside.tail c.self.inside.places c.home.inside.seat.me c.home.invariant (ap (λ l. is_in c.args.place l) hand ∙ c.requires.hand) i.0 refl,
    )

pub store-requires-2 : goal.store-requires-2
store-requires-2 g c =
    let i = c.self.invariant in (
      search rules,
      omega arith,
      stores_tail_as g.T.Marked.mark g.T.Marked.label g.B.Publishing.before c.home.inside.seat.table_id.slots _ _ c.args.place (32 + c.home.inside.tail % c.self.inside.places) c.home.inside.tail c.args.block c.home.inside.seat.me c.store.new.seat.me c.exchange-old.new.seat.me c.home.invariant c.store.ensures.2 c.exchange-old.ensures.3 (c.requires.label ∙ ap (λ v. v.label) (sym c.home.view_is)),
    )

pub invariant_of-home : goal.invariant_of-home
invariant_of-home g c =
    home_published g.B.Publishing.before g.T.Marked.mark _ _ c.self.inside.table.shared.table_id.slots (32 + c.home.inside.tail % c.self.inside.places) c.args.place c.home.inside.tail c.args.block c.home.inside.seat.me c.store.new.seat.me c.exchange-old.new.seat.me c.store-2.new.seat.me (ap (λ z. z.slots) (c.store-2.ensures.0 ∙ c.exchange-old.ensures.0 ∙ c.store.ensures.0)) c.home.invariant c.store.ensures.2 c.exchange-old.ensures.3 c.store-2.ensures.2
