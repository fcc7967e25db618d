use Rattle.std.proofs.Common.{◌≡◌, ◌≤◌, ℕ, List, take}
use Rattle.zy_capture.specs.declared.record.Record.{Record}
use Rattle.zy_times.specs.Times.{trues}
use Rattle.zy_times.specs.Line.{SessionHolds}
use Rattle.zy_times.specs.Fitting.{AreGood}
use Rattle.zy_times.proofs.fitting.first_unfit.Given as goal

abbrev pub invariant-loop-index : goal.invariant-loop-index
invariant-loop-index l = record {
  count : l.ended ≡ trues (take l.index l.answered);
  few : l.ended ≤ l.index;
  good : (records : List Record) (conn number : ℕ) → SessionHolds records conn number l.session → AreGood records conn number l.session.marks.items l.answered l.ended;
}
