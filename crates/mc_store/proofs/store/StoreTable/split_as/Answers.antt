use Rattle.std.proofs.Common.{rules, sym, ap, ◌∙◌, ◌≡◌, ℕ, subst, false}
use Rattle.zy_table.specs.Member.{is_in}
use Rattle.mc_store.proofs.PassLemmas.{splits_as}
use Rattle.mc_store.proofs.store.StoreTable.split_as.Goals as goal

pub split_seat-given-requires : goal.split_seat-given-requires
split_seat-given-requires g c = (
  search rules,
  search rules,
  splits_as _ _ c.args.root.now.given _ _ c.root.invariant (ap (λ b. b.views) (sym c.replace.ensures.value) ∙ c.into_seat-seat.ensures.2) (ap (λ v. v.given) c.root.view_is)
      (subst (λ (n : ℕ). is_in n c.args.root.now.given ≡ false) c.requires.picked c.requires.fresh) (rw (← c.requires.picked) c.requires.within),
)
