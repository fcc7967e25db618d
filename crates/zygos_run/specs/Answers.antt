-- The exit status of each answer.
use Rattle.std.specs.Prelude.{ℕ, Result, Ok, Err}
use Rattle.zy_check.specs.declared.verdict.Verdict.TheVariants.{Yes, No}
use Rattle.zy_shell.specs.declared.failure.Failure.{Failure}
use Rattle.zy_shell.specs.Failure.{failure_status}
use Rattle.zygos_run.specs.declared.answer.Answer.{Answer}
use Rattle.zygos_run.specs.declared.answer.Answer.TheVariants.{Served, Checked, Made, Tested}

-- the exit status
abbrev pub status_of : Result Answer Failure → ℕ
status_of (Ok (Served journal)) = 0
status_of (Ok (Checked Yes)) = 0
status_of (Ok (Checked (No cause))) = 1
status_of (Ok Made) = 0
status_of (Ok (Tested journal summary)) = 0
status_of (Err failure) = failure_status failure
