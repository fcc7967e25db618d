use Rattle.std.proofs.Common.{◌≡◌}
use Rattle.zy_conn.specs.Step.{IsGoing, StepsOn, calls_left}
use Rattle.zy_conn.proofs.work.Work.make_calls.Given as goal

abbrev pub invariant-loop-end : goal.invariant-loop-end
invariant-loop-end l = record {
  goes : StepsOn l.fn.self l.self;
  finished : l.self.finished ≡ l.fn.self.finished;
  going : IsGoing l.self.begun;
}

abbrev pub decreases-loop-end : goal.decreases-loop-end
decreases-loop-end l = calls_left l.self.begun
