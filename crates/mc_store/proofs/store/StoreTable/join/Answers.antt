use Rattle.std.proofs.Common.{rules, sym, ap, ◌∙◌}
use Rattle.mc_store.proofs.PassLemmas.{joins_as}
use Rattle.mc_store.proofs.store.StoreTable.join.Goals as goal

pub join_seat-requires : goal.join_seat-requires
join_seat-requires c = (
  search rules,
  search rules,
  search rules,
  search rules,
  joins_as _ _ _ _ _ _ _ c.root.invariant (ap (λ b. b.views) (sym c.replace.ensures.value) ∙ c.into_seat-seat.ensures.2) c.pass.invariant.is c.into_seat.ensures.2,
)
