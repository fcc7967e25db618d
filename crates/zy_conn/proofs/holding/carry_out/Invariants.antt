use Rattle.std.proofs.Common.{◌-◌, ◌≡◌, ◌+◌, ◌<◌, ◌≤◌}
use Rattle.zy_conn.specs.Work.{idle}
use Rattle.zy_conn.specs.Step.{StepsOn}
use Rattle.zy_conn.proofs.holding.carry_out.Given as goal

abbrev pub invariant-loop-count : goal.invariant-loop-count
invariant-loop-count g l = record {
  goes : StepsOn l.fn.work l.work;
  limit : l.count ≤ 64;
  finished : l.work.finished ≡ l.fn.work.finished + l.count;
  begun : 0 < l.count → l.work.begun ≡ idle;
}

abbrev pub decreases-loop-count : goal.decreases-loop-count
decreases-loop-count g l = 64 - l.count
