use Rattle.std.proofs.Common.{rules, ◌≡◌, ◌+◌, ◌*◌, ◌<◌, ◌≤◌, ℕ, length, slice_index_or, arith, subst}
use Rattle.std.specs.Prelude.{None}
use Rattle.zy_journal.specs.Walk.{IsBest, head_of}
use Rattle.zy_journal.proofs.WalkLemmas.{best_least, best_none, rest_over}
use Rattle.zy_journal.proofs.rests.Rests.least.Goals as goal

pub loop-group-preserved : goal.loop-group-preserved
loop-group-preserved c =
    let group = c.loop-group.group in
    let test : 16 * group < length c.self.inside.histories.now = c.loop-group-test.true in
    let few : length c.self.inside.histories.now ≤ 256 = c.loop-group.invariant.few in
    let own = subst (λ r. IsBest r (16 * group) (16 * group + 16) (slice_index_or c.self.inside.bests group None)) c.self.view_is (c.self.invariant.3 group (omega (arith, test, few))) in
    let step : 16 * group + 16 ≡ 16 * (group + 1) = omega arith in
    record {
      best = subst (λ n. IsBest c.args.self.now 0 n c.first_of-best.result) step
          (c.first_of-best.ensures.value c.args.self.now 0 (16 * group) (16 * group + 16) (omega arith) (omega arith) c.loop-group.invariant.best own);
      within = omega (arith, test, few);
      few = few;
    }

pub returns-in-Some-clause-some : goal.returns-in-Some-clause-some
returns-in-Some-clause-some c =
    let end : length c.self.inside.histories.now ≤ 16 * c.loop-group.group = search rules in
    let over : (i : ℕ) → 16 * c.loop-group.group ≤ i → head_of c.args.self.now i ≡ None = λ i past. rw (← c.self.view_is) (rest_over c.self.inside.histories.now c.self.inside.at i (omega (arith, past, end))) in
    best_least c.args.self.now (16 * c.loop-group.group) c.in-Some.head over (subst (IsBest c.args.self.now 0 (16 * c.loop-group.group)) c.in-Some.is c.loop-group.invariant.best)

pub returns-in-None-clause-none : goal.returns-in-None-clause-none
returns-in-None-clause-none c =
    let end : length c.self.inside.histories.now ≤ 16 * c.loop-group.group = search rules in
    let over : (i : ℕ) → 16 * c.loop-group.group ≤ i → head_of c.args.self.now i ≡ None = λ i past. rw (← c.self.view_is) (rest_over c.self.inside.histories.now c.self.inside.at i (omega (arith, past, end))) in
    best_none c.args.self.now (16 * c.loop-group.group) over (subst (IsBest c.args.self.now 0 (16 * c.loop-group.group)) c.in-None.is c.loop-group.invariant.best)
