-- How the top call ends: what each answer says of the arguments and of what the call saw.
use Rattle.std.specs.Prelude.{◌≡◌, ◌⊎◌, Bool, true, false, List, ◌++◌, ℕ, Option, None, Some, Result, Ok, Err, IsSomeAnd}
use Rattle.zy_items.specs.Standing.{Standing}
use Rattle.zy_read.specs.Seen.{Seen, Side, WasWritten, TakesPart, OfGiven}
use Rattle.zy_shell.specs.declared.failure.Failure.{Failure}
use Rattle.zy_shell.specs.declared.failure.Failure.TheVariants.{OutOfMemory}
use Rattle.zy_shell.specs.Asked.{Asked}
use Rattle.zy_shell.specs.Asked.Asked.{Invalid, Reading}
use Rattle.zy_shell.specs.Failure.{HasFailed}
use Rattle.zy_shell.specs.Input.{Input}
use Rattle.zy_shell.specs.Input.Input.{JudgeInput, WindowInput}
use Rattle.zy_verdict.specs.Recorded.{Recorded}
use Rattle.zygos_judge.specs.declared.finding.Finding.{Finding}
use Rattle.zygos_judge.specs.declared.finding.Finding.TheVariants.{Explained}
use Rattle.zygos_judge.specs.declared.words.Task.{Task}
use Rattle.zygos_judge.specs.Finding.{HasFinding, IsLed, OfRequested}
use Rattle.zygos_judge.specs.Lines.{finding_line}
use Rattle.zygos_judge.specs.Words.{is_window}

-- ---- what is read

-- the kind of input, with an items file or without
abbrev pub input_with : Bool → Input
input_with true = WindowInput
input_with false = JudgeInput

-- a recording is to be read, if the arguments are valid
abbrev pub recording_with : Option Task → Asked
recording_with None = Invalid
recording_with (Some task) = Reading (input_with task.from)

-- the arguments are valid; `Holds` holds of the recording in the input, whose bytes `Of` selects, and `Writes` holds
abbrev pub Finds : Option Task → ((List ℕ → Type 0) → Type 0) → (Recorded → Type 0) → Type 0 → Type 0
Finds asked Of Holds Writes =
    IsSomeAnd asked (λ task. Of (λ bytes. OfRequested task.from task.rules bytes (λ r from. Holds r) × Writes))

-- ---- what is written

-- the line was written, and no more unless that was asked for
abbrev pub WritesLine : Bool → Side → List ℕ → Type 0
WritesLine true sink line = (more : List ℕ) × WasWritten sink (line ++ more)
WritesLine false sink line = WasWritten sink line

-- the line was written first: what the server has at last stands after it if the arguments ask for that
abbrev pub WritesFirst : Option Task → Side → List ℕ → Type 0
WritesFirst asked sink line = IsSomeAnd asked (λ task. WritesLine task.to sink line)

-- ---- what is found

-- of a window that is explained, and of every other finding: what it says of the recording and of what its server had at
-- first, and `Writes` holds of what is written
abbrev pub HasFound : Finding → Bool → Bool → (List ℕ → Type 0) → Recorded → Standing → Type 0
HasFound (Explained commands ended) true to Writes r from =
    IsLed to Writes (finding_line (Explained commands ended)) r from commands ended
HasFound finding window to Writes r from = HasFinding r finding × Writes (finding_line finding)

-- the finding is that on the recording in the input, and `Writes` holds of what is written
abbrev pub JudgesAs : Option Task → ((List ℕ → Type 0) → Type 0) → (List ℕ → Type 0) → Finding → Type 0
JudgesAs asked Of Writes finding = IsSomeAnd asked (λ task.
    Of (λ bytes. OfRequested task.from task.rules bytes (HasFound finding (is_window task) task.to Writes)))

-- the arguments speak of a window, and its recording is explained from what the server had at first to what it has at
-- last, which was written after the line if that was asked for
abbrev pub LeadsOn : Option Task → ((List ℕ → Type 0) → Type 0) → (List ℕ → Type 0) → ℕ → ℕ → Type 0
LeadsOn asked Of Writes commands ended = IsSomeAnd asked (λ task. is_window task ≡ true
    → Of (λ bytes. OfRequested task.from task.rules bytes (λ r from.
    IsLed task.to Writes (finding_line (Explained commands ended)) r from commands ended)))

-- a prefix of what belongs to the finding was written
abbrev pub JudgesPart : Option Task → Seen → Type 0
JudgesPart asked call = (finding : Finding) × JudgesAs asked (OfGiven call.source) (TakesPart call.sink) finding

-- ---- answers

-- each answer has its cause
abbrev pub HasCause : Option Task → Seen → Result Finding Failure → Type 0
HasCause asked call (Ok finding) = JudgesAs asked (OfGiven call.source) (WasWritten call.sink) finding
HasCause asked call (Err failure) = HasFailed (recording_with asked) call (JudgesPart asked call) failure

-- the answer is a finding, unless memory ran out
abbrev pub IsJudgedOr : Result Finding Failure → Type 0
IsJudgedOr answer = ((finding : Finding) × (answer ≡ Ok finding)) ⊎ (answer ≡ Err OutOfMemory)
