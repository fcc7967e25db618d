use Rattle.std.proofs.Common.{inl, inr, subst}
use Rattle.zy_check.specs.Held.{FoundStray}
use Rattle.zy_check.proofs.HoldLemmas.{stray_same, stray_kept, stray_first, stray_lower}
use Rattle.zy_check.proofs.holds.lower_stray.Goals as goal
use Rattle.zy_check.proofs.holds.lower_stray.Goals.{then-hold-count-via-then-hold-count, then-hold-count-via-else-hold-count+then-hold-eq0}

pub returns-then-hold-count : goal.returns-then-hold-count
returns-then-hold-count c =
    elim c.then-hold-count.branch [
      | then-hold-count-via-then-hold-count w ↦ record { found = λ before are. stray_same c.args.count before c.args.hold c.args.found (inl w.if-hold-count.true) are }
      | then-hold-count-via-else-hold-count+then-hold-eq0 w ↦ record { found = λ before are. stray_same c.args.count before c.args.hold c.args.found (inr w.if-hold-eq0.true) are }
    ]

pub returns-in-Some : goal.returns-in-Some
returns-in-Some c = record { found = λ before are. stray_kept c.args.count before c.args.hold c.in-Some.stray c.if-stray-hold.true (subst (FoundStray c.args.count before) c.in-Some.is are) }

pub returns-in_default : goal.returns-in_default
returns-in_default c = record { found = λ before are. stray_lower c.args.count before c.args.hold c.in-Some.stray c.if-hold-count.false c.if-hold-eq0.false c.if-stray-hold.false (subst (FoundStray c.args.count before) c.in-Some.is are) }

pub returns-in_default-2 : goal.returns-in_default-2
returns-in_default-2 c = record { found = λ before are. stray_first c.args.count before c.args.hold c.if-hold-count.false c.if-hold-eq0.false (subst (FoundStray c.args.count before) c.in_default.is are) }
