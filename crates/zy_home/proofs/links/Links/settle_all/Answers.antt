use Rattle.std.proofs.Common.{[], drop, ◌+◌, get_or, refl, sym, ap, ◌∙◌, subst, arith}
use Rattle.std.proofs.lemmas.List.{drop_all}
use Rattle.std.proofs.lemmas.Result.{MatchResult-from_err}
use Rattle.zy_home.specs.Home.{IsSoundBut}
use Rattle.zy_home.specs.Links.{homed}
use Rattle.zy_home.proofs.SettleLemmas.{left_first, same_for_on, settles_next}
use Rattle.zy_home.proofs.TurnLemmas.{sound_refused}
use Rattle.zy_home.proofs.links.Links.settle_all.Goals as goal

pub settle_place-requires-clause-left : goal.settle_place-requires-clause-left
settle_place-requires-clause-left c =
    let more = c.loop-i-test.true in
    let long = c.len-i-end.ensures in
    let place = c.index-place.result.now in
    let at = c.index-place.ensures ∙ ap (λ ts. get_or ts.items c.loop-i.i place) c.loop-i.invariant.kept.0 in
    (drop (c.loop-i.i + 1) c.args.self.now.touched.items, left_first c.args.self.now.touched.items c.loop-i.i place (omega arith) at _ c.loop-i.invariant.left)

pub loop-i-preserved : goal.loop-i-preserved
loop-i-preserved c =
    let i = c.loop-i.invariant in
    let more = c.loop-i-test.true in
    let long = c.len-i-end.ensures in
    let place = c.index-place.result.now in
    let at = c.index-place.ensures ∙ ap (λ ts. get_or ts.items c.loop-i.i place) i.kept.0 in
    let step = c.in_ok-settle_place.ensures in record {
      on = settles_next _ _ _ place i.on step.ok;
      left = step.sound _ (left_first c.args.self.now.touched.items c.loop-i.i place (omega arith) at _ i.left);
      same = same_for_on c.loop-i.i 1 (c.loop-i.i + 1) _ _ _ i.same step.same (omega arith);
      kept = (step.kept.0 ∙ i.kept.0, step.refused ∙ sym c.requires.live);
      still = λ e. absurd (omega arith);
    }

-- all were settled
pub returns-clause-sound : goal.returns-clause-sound
returns-clause-sound c =
    let done = c.loop-i-test.false in
    let long = c.len-i-end.ensures in
    subst (λ left. IsSoundBut left (homed c.loop-i.pass c.loop-i.slots.items c.loop-i.self)) (drop_all c.loop-i.i c.args.self.now.touched.items (omega arith)) c.loop-i.invariant.left

-- memory was refused
pub returns-in_err-settle_place-clause-err : goal.returns-in_err-settle_place-clause-err
returns-in_err-settle_place-clause-err c =
    let s = c.loop-i.invariant.on in
    MatchResult-from_err c.from_residual.result _ _ c.from_residual.ensures.0 (λ _. record { items = []; cut = homed c.args.pass.now c.args.slots.now.items c.args.self.now; cuts = refl; places = s.places; between = homed c.loop-i.pass c.loop-i.slots.items c.loop-i.self; settles = s.settles; hand = c.in_err-settle_place.ensures.err })

pub returns-in_err-settle_place-clause-sound : goal.returns-in_err-settle_place-clause-sound
returns-in_err-settle_place-clause-sound c =
    let more = c.loop-i-test.true in
    let long = c.len-i-end.ensures in
    let place = c.index-place.result.now in
    let at = c.index-place.ensures ∙ ap (λ ts. get_or ts.items c.loop-i.i place) c.loop-i.invariant.kept.0 in
    let step = c.in_err-settle_place.ensures in
    sound_refused _ [] _ _ step.refused (step.sound _ (left_first c.args.self.now.touched.items c.loop-i.i place (omega arith) at _ c.loop-i.invariant.left))
