use Rattle.std.proofs.Common.{[], ◌∙◌, arith}
use Rattle.std.proofs.lemmas.Result.{MatchResult-from_err}
use Rattle.zy_home.specs.Links.{homed}
use Rattle.zy_home.proofs.HomeLemmas.{none_cut, none_left, refused_on}
use Rattle.zy_home.proofs.TurnLemmas.{sound_refused}
use Rattle.zy_home.proofs.home.Home.receive_all.Goals as goal

pub settle_all-requires-clause-left : goal.settle_all-requires-clause-left
settle_all-requires-clause-left c = c.in_ok-count.ensures.sound c.self.inside.pass c.self.invariant

pub settle_all-requires-clause-most : goal.settle_all-requires-clause-most
settle_all-requires-clause-most c = let room = c.in_ok-count.ensures.room in let few = c.in_ok-count.ensures.few.0 in omega arith

-- memory was refused
pub invariant_of-self : goal.invariant_of-self
invariant_of-self c = sound_refused _ [] _ _ c.in_err-count.ensures.refused (c.in_err-count.ensures.sound c.self.inside.pass c.self.invariant)

pub returns-in_err-settle_all-clause-err : goal.returns-in_err-settle_all-clause-err
returns-in_err-settle_all-clause-err c = rw (← c.self.view_is) (MatchResult-from_err c.from_residual-in_err-settle_all.result _ _ c.from_residual-in_err-settle_all.ensures.0 (λ _. let s = c.in_ok-count.ensures.value c.self.inside.pass in refused_on _ _ _ s.items s.cuts c.in_err-settle_all.ensures.err))

-- all was received
pub returns-clause-value : goal.returns-clause-value
returns-clause-value c = rw (← c.self.view_is) (
    let s = c.in_ok-count.ensures.value c.self.inside.pass in
    let t = c.in_ok-settle_all.ensures.ok in
    let few = c.in_ok-count.ensures.few in
    record {
      items = s.items;
      size = s.size;
      taken = s.taken_is;
      few = few.0;
      all = few.1;
      none = λ e.
          let room = c.in_ok-count.ensures.room in
          let size = s.size in
          let still = c.in_ok-settle_all.ensures.still (none_left c.cut_all.new.self.touched.items (omega arith)) in
          (λ i. homed (still.2 i) (still.3 i) (still.1 i)) ∙ none_cut _ _ s.items (omega arith) s.cuts;
      stands = λ earlier k. t.stands _ (s.stands earlier k);
      cut = homed c.self.inside.pass c.self.inside.blocks.items c.cut_all.new.self;
      cuts = s.cuts;
      places = t.places;
      settles = t.settles;
    })
