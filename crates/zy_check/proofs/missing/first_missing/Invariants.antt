use Rattle.std.proofs.Common.{◌≡◌, ℕ, ◌<◌, length, Some}
use Rattle.std.specs.List.{slice_get}
use Rattle.zy_check.specs.declared.track.Track.{Track}
use Rattle.zy_check.specs.Track.{IsAtEnd}
use Rattle.zy_check.specs.Walk.{AreTracked}
use Rattle.zy_check.proofs.missing.first_missing.Given as goal

abbrev pub invariant-loop-conn : goal.invariant-loop-conn
invariant-loop-conn l = record {
  tracked : AreTracked l.files (length l.files.entries) l.tracks;
  ends : (c : ℕ) (t : Track) → c < l.conn → slice_get l.tracks c ≡ Some t → IsAtEnd l.files c t;
}
