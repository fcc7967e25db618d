-- What other clauses of the top call say: of the bytes that a source reports, and of answers that must come.
use Rattle.std.specs.Prelude.{◌≡◌, ◌⊎◌, Option, Result, Err, IsSome, IsOkAnd}
use Rattle.zy_command_line.specs.declared.request.Request.{Request}
use Rattle.zy_read.specs.Seen.{Seen, OfTold, WasWritten}
use Rattle.zy_shell.specs.declared.failure.Failure.{Failure}
use Rattle.zy_shell.specs.declared.failure.Failure.TheVariants.{OutOfMemory}
use Rattle.zygos_run.specs.declared.answer.Answer.{Answer}
use Rattle.zygos_run.specs.Ends.{OfTask, CarriesOut}

-- ---- bytes that are reported

-- the command that has this answer was requested and executed on all bytes that the source reported, if it reads any,
-- and all of its text was written: of `run`, by the first row of `task_of`, `IsWritten` of these bytes
abbrev pub HeadlineHolds : Option Request → Seen → Answer → Type 0
HeadlineHolds request call answer = CarriesOut request answer (OfTold call.source) (WasWritten call.sink)

-- ---- answers that must come

-- the answer is that of the command that was executed
abbrev pub IsDone : Option Request → Answer → Type 0
IsDone request answer = OfTask request (λ task. IsSome (task.found_in answer))

-- the answer is that of the command that was executed, unless memory ran out
abbrev pub IsDoneOr : Option Request → Result Answer Failure → Type 0
IsDoneOr request answer = IsOkAnd answer (IsDone request) ⊎ (answer ≡ Err OutOfMemory)
