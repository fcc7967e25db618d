use Rattle.zy_refute.specs.Unmet.{AreNeverMet}
use Rattle.zy_refute.proofs.meeting.is_refuted.Given as goal

-- what is known is never met
abbrev pub invariant-loop : goal.invariant-loop
invariant-loop l = AreNeverMet l.store l.calls l.known
