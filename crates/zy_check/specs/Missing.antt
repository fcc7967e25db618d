-- Looking for the first connection with a call that has no entry. No public clause cites this module.
use Rattle.std.specs.Prelude.{◌≡◌, ℕ, List, length, Option, None, Some}
use Rattle.std.specs.List.{slice_get}
use Rattle.mc_calls.specs.Order.{of_connection}
use Rattle.mc_parse.specs.Calls.{dues_of}
use Rattle.zy_check.specs.declared.track.Track.{Track}
use Rattle.zy_check.specs.declared.verdict.Cause.{Cause}
use Rattle.zy_check.specs.declared.verdict.Verdict.TheVariants.{No}
use Rattle.zy_check.specs.Given.{Given}
use Rattle.zy_check.specs.Cause.{IsComplete, HasVerdict}
use Rattle.zy_check.specs.Track.{HasMadeCalls, IsAtEnd}

-- each connection is at its end, after the calls of its entries
pub record AreEnded (g : Given) (tracks : List Track) : Type 0 where
  pub count : length tracks ≡ length g.streams
  pub each : (conn : ℕ) (t : Track) → slice_get tracks conn ≡ Some t
      → HasMadeCalls g conn t (dues_of (of_connection conn g.entries)) × IsAtEnd g conn t

-- each expected call has an entry, and each connection is at its end, or this is the first cause
abbrev pub FoundMissing : Given → List Track → Option Cause → Type 0
FoundMissing g tracks None = IsComplete g × AreEnded g tracks
FoundMissing g tracks (Some cause) = HasVerdict g (No cause)
