-- Failures: their exit statuses, what each says of a call, and what it leaves.
use Rattle.std.specs.Prelude.{◌≡◌, ◌⊎◌, ℕ, Result, Ok, Err, ⊤}
use Rattle.zy_read.specs.Seen.{Seen, HasRisen}
use Rattle.zy_shell.specs.declared.failure.Failure.{Failure}
use Rattle.zy_shell.specs.declared.failure.Failure.TheVariants.{Usage, Refused, ReadFault, WriteFault, OutOfMemory}
use Rattle.zy_shell.specs.Asked.{Asked, IsFaultOf, ReadsInput}
use Rattle.zy_shell.specs.Asked.Asked.{Invalid}

-- the exit status
abbrev pub failure_status : Failure → ℕ
failure_status Usage = 2
failure_status (Refused refusal) = 3
failure_status ReadFault = 4
failure_status WriteFault = 5
failure_status OutOfMemory = 6

-- each failure has its cause, if this was asked and seen; `HasPart` is that a prefix of the expected text was written
abbrev pub HasFailed : Asked → Seen → Type 0 → Failure → Type 0
HasFailed asked call HasPart Usage = asked ≡ Invalid
HasFailed asked call HasPart (Refused refusal) = IsFaultOf asked call.source.before refusal
HasFailed asked call HasPart ReadFault = ReadsInput asked × HasRisen call.source
HasFailed asked call HasPart WriteFault = HasPart × HasRisen call.sink
HasFailed asked call HasPart OutOfMemory = ⊤

-- the answers after which the sink is as it was
abbrev pub LeavesSink : {A : Type 0} → Result A Failure → Type 0
LeavesSink (Ok answer) = ⊥
LeavesSink (Err WriteFault) = ⊥
LeavesSink (Err failure) = ⊤

-- the answer is this failure, unless memory ran out
abbrev pub IsThisOr : {A : Type 0} → Failure → Result A Failure → Type 0
IsThisOr failure answer = (answer ≡ Err failure) ⊎ (answer ≡ Err OutOfMemory)
