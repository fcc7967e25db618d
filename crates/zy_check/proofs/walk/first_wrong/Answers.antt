use Rattle.std.proofs.Common.{◌≡◌, sym, ◌∙◌, subst}
use Rattle.std.specs.Prelude.{length}
use Rattle.zy_check.specs.Given.{AreRightBelow}
use Rattle.zy_check.specs.Walk.{AreTracked, FoundAt}
use Rattle.zy_check.proofs.WalkLemmas.{left_first, none_left}
use Rattle.zy_check.proofs.walk.first_wrong.Goals as goal

pub returns-in_default : goal.returns-in_default
returns-in_default c =
    let g = c.args.files.now in
    let inv = c.loop-at.invariant in
    let end : c.loop-at.at ≡ length g.entries = none_left g.entries c.loop-at.at (sym inv.left ∙ c.in_default.ensures.none) inv.within in
    record { found = subst (λ at. AreRightBelow g at × AreTracked g at c.loop-at.tracks) end (inv.here.right, inv.here.tracked) }

pub wrong_at-requires-clause-is : goal.wrong_at-requires-clause-is
wrong_at-requires-clause-is c =
    (left_first c.args.files.now.entries c.loop-at.at c.in-Some.entry c.next.new.self (sym c.loop-at.invariant.left ∙ c.in-Some.ensures.some)).0

pub loop-at-preserved : goal.loop-at-preserved
loop-at-preserved c =
    let g = c.args.files.now in
    let first = left_first g.entries c.loop-at.at c.in-Some.entry c.next.new.self (sym c.loop-at.invariant.left ∙ c.in-Some.ensures.some) in
    record {
      here = subst (FoundAt g c.loop-at.at c.wrong_at.new.tracks c.wrong_at.new.states.items) c.in_default-2.is c.in_ok-cause.ensures.found;
      left = first.1;
      within = first.2;
    }
