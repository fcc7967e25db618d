-- How judging ends before anything is written. No public clause cites this module.
use Rattle.std.specs.Prelude.{◌≡◌, Bool, false, List, ℕ, Result, Ok, Err}
use Rattle.zy_explain.specs.declared.window.Window.{Window as Led}
use Rattle.zy_input.specs.declared.stop.Refusal.{Refusal}
use Rattle.zy_items.specs.Standing.{Standing, IsStanding, standing_of}
use Rattle.zy_read.specs.declared.stop.Stop.{Stop}
use Rattle.zy_read.specs.Seen.{Side, OfGiven}
use Rattle.zy_shell.specs.Stops.{StopsAs}
use Rattle.zy_verdict.specs.Between.{IsExplainedBetweenWith}
use Rattle.zy_verdict.specs.Recorded.{Recorded}
use Rattle.zygos_judge.specs.declared.finding.Finding.{Finding}
use Rattle.zygos_judge.specs.declared.finding.Finding.TheVariants.{Explained}
use Rattle.zygos_judge.specs.declared.judged.Judged.{Judged}
use Rattle.zygos_judge.specs.declared.judged.Judged.TheVariants.{Window, Plain}
use Rattle.zygos_judge.specs.declared.words.Task.{Task}
use Rattle.zygos_judge.specs.Ends.{input_with}
use Rattle.zygos_judge.specs.Finding.{HasFinding, OfRequested, text_with}
use Rattle.zygos_judge.specs.Lines.{finding_line}
use Rattle.zygos_judge.specs.Words.{is_window}

-- the finding that is told
abbrev pub finding_in : Judged → Finding
finding_in (Window led) = Explained led.numbers.commands led.numbers.ended
finding_in (Plain finding) = finding

-- what is written of it, with what the server has at last if that is asked for
abbrev pub judged_text : Bool → Judged → List ℕ
judged_text to (Window led) = text_with to (finding_line (finding_in (Window led))) (standing_of led.to)
judged_text to (Plain finding) = finding_line finding

-- a recording that is no window, or whose finding is no yes
abbrev pub MayBePlain : Bool → Finding → Type 0
MayBePlain window (Explained commands ended) = window ≡ false
MayBePlain window finding = Unit {0}

-- the recording was judged so, from what its server had at first
abbrev pub IsJudged : Bool → Judged → Recorded → Standing → Type 0
IsJudged window (Window led) r from = IsStanding (standing_of led.to)
    × IsExplainedBetweenWith r from (standing_of led.to) led.numbers.commands led.numbers.ended
IsJudged window (Plain finding) r from = MayBePlain window finding × HasFinding r finding

-- the input was judged so, or reading stopped
abbrev pub FindsIn : Task → Side → Result Judged (Stop Refusal) → Type 0
FindsIn task source (Ok judged) =
    OfGiven source (λ bytes. OfRequested task.from task.rules bytes (IsJudged (is_window task) judged))
FindsIn task source (Err stop) = StopsAs (input_with task.from) source stop
