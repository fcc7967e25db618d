use Rattle.std.proofs.Common.{[], ◌≡◌, length, ap, ◌∙◌, refl, sym, subst, arith}
use Rattle.std.proofs.lemmas.Result.{MatchResult-from_err}
use Rattle.zy_home.specs.declared.links.Links.{Links}
use Rattle.zy_home.specs.Home.{IsSoundBut}
use Rattle.zy_home.specs.Links.{homed}
use Rattle.zy_home.specs.Receiving.{CutsAll}
use Rattle.zy_home.proofs.CutLemmas.{cuts_next, cuts_none, same_own}
use Rattle.zy_home.proofs.links.Links.cut_all.Goals as goal

pub loop-count-init : goal.loop-count-init
loop-count-init c = record {
  whole = λ pass. cuts_none (homed pass c.args.slots.now.items c.args.self.now) c.args.outlet.now.taken;
  left = λ pass k. subst (λ left. IsSoundBut left (homed pass c.args.slots.now.items c.args.self.now)) (sym c.clear.ensures.items) k;
  room = (let none = ap length c.clear.ensures.items in omega arith);
  same = record { share = refl; conns = refl };
  own = c.requires.own;
  still = λ e. (refl, c.clear.ensures.items);
  live = c.requires.live;
  ring = refl;
}

pub loop-count-preserved : goal.loop-count-preserved
loop-count-preserved c =
    let i = c.loop-count.invariant in
    let s = c.in_ok-cut_in.ensures.same in record {
      whole = λ pass. cuts_next _ _ _ _ _ _ _ _ (i.whole pass) (c.in_ok-cut_in.ensures.value pass) c.in-Some.ensures.taken;
      left = λ pass k. c.in_ok-cut_in.ensures.sound pass (i.left pass k);
      room = (let one = c.in_ok-cut_in.ensures.room in let room = i.room in omega arith);
      same = record { share = s.share ∙ i.same.share; conns = s.conns ∙ i.same.conns };
      own = same_own c.loop-count.self c.cut_in.new.self i.own s;
      still = λ e. let one = (c.in_ok-cut_in.ensures.still (ap (λ (l : Links). l.ended) (i.still e).0 ∙ e)).1 in subst (λ (l : Links). (l ≡ record c.args.self.now { touched = l.touched }) × (l.touched.items ≡ [])) (sym one) (i.still e);
      live = c.in_ok-cut_in.ensures.refused;
      ring = c.in-Some.ensures.kept ∙ i.ring;
    }

-- memory was refused
pub returns-in_err-cut_in-clause-err : goal.returns-in_err-cut_in-clause-err
returns-in_err-cut_in-clause-err c = MatchResult-from_err c.from_residual.result _ _ c.from_residual.ensures.0 (λ _ pass.
    let s = c.loop-count.invariant.whole pass in
    let cut = homed pass c.args.slots.now.items c.loop-count.self in
    record { items = s.items; cut = cut; cuts = s.cuts; places = []; between = cut; settles = refl; hand = record { pass = refl; blocks = refl } })

pub returns-in_err-cut_in-clause-still : goal.returns-in_err-cut_in-clause-still
returns-in_err-cut_in-clause-still c e = absurd (let still = (c.in_err-cut_in.ensures.still (ap (λ (l : Links). l.ended) (c.loop-count.invariant.still e).0 ∙ e)).0 in let is = c.in_err-cut_in.is in cc)

-- there were 64
pub returns-clause-value : goal.returns-clause-value
returns-clause-value c pass = let all : c.loop-count.count ≡ 64 = (let more = c.loop-count-test.false in let most = c.loop-count.auto.count-end in omega arith) in
    subst (CutsAll (homed pass c.args.slots.now.items c.args.self.now) c.args.outlet.now.taken (homed pass c.args.slots.now.items c.loop-count.self) c.loop-count.outlet.taken) all (c.loop-count.invariant.whole pass)
