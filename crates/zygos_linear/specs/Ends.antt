-- How the top call ends: what each answer says of the arguments and of what the call saw.
use Rattle.std.specs.Prelude.{◌≡◌, ◌⊎◌, ℕ, List, Option, None, Some, Result, Ok, Err, IsSomeAnd}
use Rattle.zy_check.specs.Given.{Given}
use Rattle.zy_read.specs.Seen.{Seen, WasWritten, TakesPart, OfGiven}
use Rattle.zy_times.specs.Recording.{Recording}
use Rattle.zy_shell.specs.declared.failure.Failure.{Failure}
use Rattle.zy_shell.specs.declared.failure.Failure.TheVariants.{OutOfMemory}
use Rattle.zy_shell.specs.Asked.{Asked}
use Rattle.zy_shell.specs.Asked.Asked.{Invalid, Reading}
use Rattle.zy_shell.specs.Failure.{HasFailed}
use Rattle.zy_shell.specs.Input.Input.{CheckInput}
use Rattle.zygos_linear.specs.declared.finding.Finding.{Finding}
use Rattle.zygos_linear.specs.Finding.{HasFinding, OfRecording}
use Rattle.zygos_linear.specs.Lines.{finding_line}

-- a check with this number of shards is requested, if the arguments are valid
abbrev pub check_with : Option ℕ → Asked
check_with None = Invalid
check_with (Some shards) = Reading CheckInput

-- the arguments request a number of shards; `Holds` holds of the recording in the input, whose bytes `Of` selects, and
-- `Writes` holds
abbrev pub Finds : Option ℕ → ((List ℕ → Type 0) → Type 0) → (Given → Recording → ℕ → Type 0) → Type 0 → Type 0
Finds shards Of Holds Writes = IsSomeAnd shards (λ number. Of (λ bytes. OfRecording number bytes Holds × Writes))

-- the finding is that on the recording in the input, and `Writes` holds of its line
abbrev pub JudgesAs : Option ℕ → ((List ℕ → Type 0) → Type 0) → (List ℕ → Type 0) → Finding → Type 0
JudgesAs shards Of Writes finding =
    Finds shards Of (λ g r count. HasFinding g r count finding) (Writes (finding_line finding))

-- a prefix of the line of the finding was written
abbrev pub JudgesPart : Option ℕ → Seen → Type 0
JudgesPart shards call = (finding : Finding) × JudgesAs shards (OfGiven call.source) (TakesPart call.sink) finding

-- each answer has its cause
abbrev pub HasCause : Option ℕ → Seen → Result Finding Failure → Type 0
HasCause shards call (Ok finding) = JudgesAs shards (OfGiven call.source) (WasWritten call.sink) finding
HasCause shards call (Err failure) = HasFailed (check_with shards) call (JudgesPart shards call) failure

-- the answer is a finding, unless memory ran out
abbrev pub IsJudgedOr : Result Finding Failure → Type 0
IsJudgedOr answer = ((finding : Finding) × (answer ≡ Ok finding)) ⊎ (answer ≡ Err OutOfMemory)
