use Rattle.std.proofs.Common.{◌≡◌, ℕ}
use Rattle.zy_times.specs.Recording.{Recording, first_in}
use Rattle.zy_times.specs.Recorded.{flags_in}
use Rattle.zy_times.specs.Line.{LineHolds}
use Rattle.zy_times.specs.Fitting.{FoundUnfitBelow}
use Rattle.zy_times.specs.Spans.{AreSpansBelow}
use Rattle.zy_times.proofs.walk.walk_sessions.Given as goal

abbrev pub invariant-loop-at : goal.invariant-loop-at
invariant-loop-at l = (r : Recording) (conn : ℕ) → LineHolds r.records conn l.line → l.answered ≡ flags_in r conn → record {
  first : l.first ≡ first_in r conn l.at;
  spans : AreSpansBelow r conn (first_in r conn l.at) l.spans.items;
  unfit : FoundUnfitBelow r conn l.at l.unfit;
}
