use Rattle.std.proofs.Common.{IfSome}
use Rattle.zy_refute.specs.Unmet.{IsBreakerIn}
use Rattle.zy_refute.proofs.sources.last_breaker.Given as goal

-- the last one so far is a breaker
abbrev pub invariant-loop-at : goal.invariant-loop-at
invariant-loop-at l = IfSome l.last (λ b. IsBreakerIn l.calls l.fact l.reader b.now)
