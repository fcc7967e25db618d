use Rattle.std.proofs.Common.{◌∙◌, ◌+◌, ◌-◌, drop, ap, false, arith}
use Rattle.std.proofs.lemmas.List.{drop_all}
use Rattle.std.proofs.lemmas.Option.{slice_get-get_or}
use Rattle.zy_verdict.specs.Numbers.{ended_among}
use Rattle.zy_confirm.proofs.TimingLemmas.{ended_one, no_flags}
use Rattle.zy_confirm.proofs.timing.ended_by.Goals as goal

pub loop-index-preserved : goal.loop-index-preserved
loop-index-preserved c =
    let inv = c.loop-index.invariant in
    let value = inv.count in
    let few = inv.few in
    let flag = c.number_if-left.ensures.value in
    let some = c.if-left-eq0.false in
    let one = ended_one c.args.answered.now c.loop-index.index _ c.loop-index.left (slice_get-get_or c.args.answered.now c.loop-index.index false c.loop-index-test.true) (omega (arith, some)) in
    let now = ap (λ n. ended_among (c.loop-index.left - n) (drop (c.loop-index.index + 1) c.args.answered.now)) flag in
    record { count = omega (arith, value, one, now); few = omega (arith, few) }

pub returns : goal.returns
returns c =
    let value = c.loop-index.invariant.count in
    let none = ap (ended_among c.loop-index.left) (drop_all c.loop-index.index c.args.answered.now (omega (arith, c.loop-index-test.false))) ∙ no_flags c.loop-index.left in
    record { value = omega (arith, value, none) }
