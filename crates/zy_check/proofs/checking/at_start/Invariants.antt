use Rattle.std.proofs.Common.{◌≡◌, ◌≤◌, ℕ, [], length, vec_capacity, Some}
use Rattle.std.specs.List.{slice_get}
use Rattle.zy_check.specs.declared.track.Track.{Track}
use Rattle.zy_check.specs.Given.{Given}
use Rattle.zy_check.specs.Track.{HasMadeCalls}
use Rattle.zy_check.proofs.checking.at_start.Given as goal

abbrev pub invariant-loop : goal.invariant-loop
invariant-loop l = record {
  size : length l.tracks.items ≡ l.counter;
  room : l.count ≤ vec_capacity l.tracks;
  each : (g : Given) (conn : ℕ) (t : Track) → slice_get l.tracks.items conn ≡ Some t → HasMadeCalls g conn t [];
}
