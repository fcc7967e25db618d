-- The exit statuses.
use Rattle.std.specs.Prelude.{ℕ, Result, Ok, Err}
use Rattle.zy_times.specs.declared.timing.Timing.TheVariants.{InTime}
use Rattle.zy_shell.specs.declared.failure.Failure.{Failure}
use Rattle.zy_shell.specs.Failure.{failure_status}
use Rattle.zygos_linear.specs.declared.finding.Finding.{Finding}
use Rattle.zygos_linear.specs.declared.finding.Finding.TheVariants.{Run}

-- the exit status: 0 or 1 after a finding, otherwise that of the failure
abbrev pub status_for : Result Finding Failure → ℕ
status_for (Ok (Run (InTime commands ended))) = 0
status_for (Ok finding) = 1
status_for (Err failure) = failure_status failure
