use Rattle.std.proofs.Common.{◌≡◌, ◌≤◌, ℕ, length, vec_capacity, Some}
use Rattle.std.specs.List.{slice_get}
use Rattle.zy_explain.specs.declared.track.Track.{Track}
use Rattle.zy_explain.specs.Following.{IsFreshTrack}
use Rattle.zy_explain.proofs.row.Row.new.Given as goal

abbrev pub invariant-loop : goal.invariant-loop
invariant-loop l = record {
  size : length l.tracks.items ≡ l.counter;
  room : l.count ≤ vec_capacity l.tracks;
  fresh : (session : ℕ) (t : Track) → slice_get l.tracks.items session ≡ Some t → IsFreshTrack t;
}
