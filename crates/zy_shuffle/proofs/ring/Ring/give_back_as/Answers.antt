use Rattle.std.proofs.Common.{rules, sym, ap, ◌∙◌, arith, refl}
use Rattle.zy_shuffle.proofs.GiveLemmas.{gives_back_as}
use Rattle.zy_shuffle.proofs.PassLemmas.{core_gave}
use Rattle.zy_shuffle.specs.Hand.{marked}
use Rattle.zy_table.specs.Member.{is_in}
use Rattle.zy_shuffle.proofs.ring.Ring.give_back_as.Goals as goal

pub fetch_or-requires : goal.fetch_or-requires
fetch_or-requires g c =
    let i = c.self.invariant in
    let hand = ap (λ v. v.hand) c.pass.view_is in
    let near = c.pass.invariant.seat.2 c.args.place (ap (λ l. is_in c.args.place l) hand ∙ c.requires.hand) in
    let table = ap (λ v. v.table.slots) c.pass.view_is in
    let asked = ap (λ z. z.slots) c.requires.within in
    let own = ap (λ v. v.id.slots) c.self.view_is in (
      search rules,
      omega arith,
      gives_back_as g.T.Marked.mark g.T.Marked.label _ _ _ c.args.place _ c.self.inside.places _ c.args.block c.pass.inside.seat.me c.bring.new.seat.me c.exchange-old.new.seat.me c.pass.invariant.seat c.bring.ensures.value c.exchange-old.ensures.3
          (c.requires.label ∙ ap (λ v. v.label) (sym c.pass.view_is)) (ap (λ v. marked g.T.Marked.mark c.args.place v.kept) c.pass.view_is ∙ c.requires.mark) i.0 refl refl,
    )

pub invariant_of-pass : goal.invariant_of-pass
invariant_of-pass g c =
    core_gave _ _ c.args.place c.pass.inside.front c.args.block c.pass.inside.seat.me c.bring.new.seat.me c.exchange-old.new.seat.me c.fetch_or.new.seat.me (ap (λ z. z.slots) (c.fetch_or.ensures.0 ∙ c.exchange-old.ensures.0 ∙ c.bring.ensures.same.0)) c.pass.invariant c.bring.ensures.value c.exchange-old.ensures.3 c.fetch_or.ensures.2
