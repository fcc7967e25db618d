use Rattle.std.specs.Prelude.{IfSome}
use Rattle.zygos_judge.specs.Calls.{IsCulprit}
use Rattle.zygos_judge.proofs.refuting.refute.Given as goal

-- what was refuted so far is a culprit
abbrev pub invariant-loop-at : goal.invariant-loop-at
invariant-loop-at l = record {
  culprit : IfSome l.first (λ refuted. IsCulprit l.lasting.keys l.rules l.sessions l.calls refuted.name);
}
