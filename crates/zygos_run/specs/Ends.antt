-- How the top call ends: what each answer says of the request and of what the call saw.
use Rattle.std.specs.Prelude.{ℕ, List, [], Option, None, Some, Result, Ok, Err, IsSomeAnd}
use Rattle.zy_command_line.specs.declared.request.Request.{Request}
use Rattle.zy_read.specs.Seen.{Seen, WasWritten, TakesPart, OfGiven}
use Rattle.zy_shell.specs.declared.failure.Failure.{Failure}
use Rattle.zy_shell.specs.Failure.{HasFailed}
use Rattle.zy_shell.specs.Input.{Input}
use Rattle.zygos_run.specs.declared.answer.Answer.{Answer}
use Rattle.zygos_run.specs.Task.{Task, task_of, input_asked}

-- ---- what was executed

-- the words are valid, and this holds of the task of their command
abbrev pub OfTask : Option Request → (Task → Type 0) → Type 0
OfTask request Holds = IsSomeAnd request (λ asked. Holds (task_of asked))

-- this holds of the bytes of the input, which `Of` selects; without an input, of no bytes
abbrev pub OfInput : Option Input → ((List ℕ → Type 0) → Type 0) → (List ℕ → Type 0) → Type 0
OfInput None Of Holds = Holds []
OfInput (Some input) Of Holds = Of Holds

-- the answer is the one when the command is done; what the answer has was found in its input, and this holds of the
-- text that it writes
abbrev pub CarriesOut : Option Request → Answer → ((List ℕ → Type 0) → Type 0) → (List ℕ → Type 0) → Type 0
CarriesOut request answer Of Writes =
    OfTask request (λ task. IsSomeAnd (task.found_in answer) (λ found.
    OfInput task.reads Of (λ bytes. task.Does bytes found Writes)))

-- ---- the answers, one by one

-- the command that has this answer was requested and executed on the bytes that the source gave, if it reads any,
-- and all of its text was written
abbrev pub DoneHolds : Option Request → Seen → Answer → Type 0
DoneHolds request call answer = CarriesOut request answer (OfGiven call.source) (WasWritten call.sink)

-- the request was executed on bytes that the source gave, if it reads any, and a prefix of the expected text was
-- written
abbrev pub HasPart : Option Request → Seen → Type 0
HasPart request call =
    OfTask request (λ task. (found : task.Found)
    × OfInput task.reads (OfGiven call.source) (λ bytes. task.Does bytes found (TakesPart call.sink)))

-- ---- all answers

-- each answer has its cause
abbrev pub Ends : Option Request → Seen → Result Answer Failure → Type 0
Ends request call (Ok answer) = DoneHolds request call answer
Ends request call (Err failure) = HasFailed (input_asked request) call (HasPart request call) failure
