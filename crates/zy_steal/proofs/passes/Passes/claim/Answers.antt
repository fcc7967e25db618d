use Rattle.std.proofs.Common.{◌<◌, length, slice_get, refl, sym, ap, ◌∙◌, subst, arith}
use Rattle.zy_table.proofs.SliceLemmas.{get_at}
use Rattle.zy_steal.specs.Steal.{PassList, ArePasses}
use Rattle.zy_steal.proofs.SeatLemmas.{table_is}
use Rattle.zy_steal.proofs.passes.Passes.claim.Goals as goal

pub other_core-requires : goal.other_core-requires
other_core-requires g c = record { few = let n = c.requires.within.count in let f = c.requires.few in let a = c.requires.at in omega arith }

pub claim-requires : goal.claim-requires
claim-requires g c = record {
  within = table_is c.args.rings.now c.self.inside.core c.self.inside.items.items c.args.at c.index_mut.result.now c.ring-ring.result.now
      (subst (ArePasses c.args.rings.now) (sym c.self.view_is) c.requires.within) (subst (λ (p : PassList g.row.T.Denot). c.args.at < length p.items) (sym c.self.view_is) c.requires.at)
      c.index_mut.ensures.value (ap (slice_get c.args.rings.now) (sym c.other_core.ensures.value) ∙ c.ring-ring.ensures.value);
}

pub returns-clause-value : goal.returns-clause-value
returns-clause-value g c = rw (← c.self.view_is) (record {
  before = c.index_mut.result.now;
  after = c.claim.new.pass;
  places = c.ring-ring.result.now.places;
  was = get_at _ c.args.at c.index_mut.result.now c.index_mut.result.now (subst (λ (p : PassList g.row.T.Denot). c.args.at < length p.items) (sym c.self.view_is) c.requires.at) c.index_mut.ensures.value;
  is = refl;
  claimed = c.claim.ensures.value;
})
