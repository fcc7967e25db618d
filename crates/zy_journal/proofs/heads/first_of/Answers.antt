use Rattle.std.proofs.Common.{subst}
use Rattle.zy_journal.specs.Walk.{IsBest}
use Rattle.zy_journal.proofs.WalkLemmas.{first_stays, first_lower}
use Rattle.zy_journal.proofs.heads.first_of.Goals as goal

pub returns-in-Some-before : goal.returns-in-Some-before
returns-in-Some-before c = record {
  value = λ rests low middle high start within before behind.
      first_stays rests low middle high start within c.in-Some-before.head c.in-Some.next c.if-head-next.true
      (subst (IsBest rests low middle) c.in-Some-before.is before) (subst (IsBest rests middle high) c.in-Some.is behind);
}

pub returns-in_default-before : goal.returns-in_default-before
returns-in_default-before c = record {
  value = λ rests low middle high start within before behind.
      first_lower rests low middle high start within c.in-Some-before.head c.in-Some.next c.if-head-next.false
      (subst (IsBest rests low middle) c.in-Some-before.is before) (subst (IsBest rests middle high) c.in-Some.is behind);
}
