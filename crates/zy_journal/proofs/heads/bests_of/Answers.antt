use Rattle.std.proofs.Common.{◌≡◌, ◌<◌, ◌≤◌, length, ◌∙◌, arith}
use Rattle.std.proofs.lemmas.List.{length-set}
use Rattle.zy_journal.proofs.WalkLemmas.{one_group}
use Rattle.zy_journal.proofs.heads.bests_of.Goals as goal

pub loop-group-preserved : goal.loop-group-preserved
loop-group-preserved c =
    let size : length c.loop-group.bests ≡ 16 = c.loop-group.invariant.size in
    let less = c.loop-group-test.true in
    let room : c.loop-group.group < length c.loop-group.bests = omega (arith, size, less) in
    record {
      bests = λ rests quads. one_group 16 rests c.loop-group.bests c.loop-group.group c.best_of.result room (c.loop-group.invariant.bests rests quads) (c.best_of.ensures.value rests quads);
      size = length-set c.loop-group.bests c.loop-group.group c.best_of.result ∙ size;
      within = omega (arith, less);
    }

pub returns : goal.returns
returns c =
    let end : 16 ≤ c.loop-group.group = c.loop-group-test.false in
    record { value = λ rests quads group less. c.loop-group.invariant.bests rests quads group (omega (arith, less, end)) }
