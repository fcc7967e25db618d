-- The numbers of an explained recording.
use Rattle.std.specs.Prelude.{◌≡◌, ℕ, zero, suc, ◌+◌, Bool, true, false, List, [], ◌∷◌, length}
use Rattle.zy_capture.specs.Streams.{closes}
use Rattle.zy_times.specs.InTime.{total_below}
use Rattle.zy_times.specs.Times.{marks_in}
use Rattle.zy_verdict.specs.Recorded.{Recorded, session_commands}
use Rattle.zy_verdict.specs.Explained.{OutputCuts, answered_by_cut, IsExplainedBy}
use Rattle.zy_verdict.specs.Entries.{MadeCall}

-- how many commands this number of marks ends, if these of them are answered
abbrev pub ended_among : ℕ → List Bool → ℕ
ended_among zero flags = 0
ended_among (suc marks) [] = 0
ended_among (suc marks) (true ∷ flags) = suc (ended_among marks flags)
ended_among (suc marks) (false ∷ flags) = suc (ended_among (suc marks) flags)

-- what the sessions of all connections give, added up
abbrev pub total_of : Recorded → (ℕ → ℕ → ℕ) → ℕ
total_of r of = total_below (λ conn. total_below (of conn) (closes conn r.records + 1)) r.count

-- how many commands all sessions have
abbrev pub number_of_commands : Recorded → ℕ
number_of_commands r = total_of r (λ conn session. length (session_commands r conn session))

-- how many commands some mark ends
abbrev pub number_ended : Recorded → OutputCuts → ℕ
number_ended r cuts =
    total_of r (λ conn session. ended_among (marks_in r.records conn session) (answered_by_cut cuts conn session))

-- some entries explain the recording, and these are the numbers of commands and of those that some mark ends
pub record IsExplainedWith (r : Recorded) (commands ended : ℕ) : Type 0 where
  pub cuts : OutputCuts
  pub entries : List MadeCall
  pub explained : IsExplainedBy r cuts entries
  pub commands_are : commands ≡ number_of_commands r
  pub ended_are : ended ≡ number_ended r cuts
