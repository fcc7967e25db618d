-- The exit statuses.
use Rattle.std.specs.Prelude.{ℕ, Result, Ok, Err}
use Rattle.zy_shell.specs.declared.failure.Failure.{Failure}
use Rattle.zy_shell.specs.Failure.{failure_status}
use Rattle.zygos_judge.specs.declared.finding.Finding.{Finding}
use Rattle.zygos_judge.specs.declared.finding.Finding.TheVariants.{Explained, Refuted, Unknown}

-- the exit status: 0, 1 or 7 after a finding, otherwise that of the failure
abbrev pub status_for : Result Finding Failure → ℕ
status_for (Ok (Explained commands ended)) = 0
status_for (Ok (Refuted reason)) = 1
status_for (Ok (Unknown why)) = 7
status_for (Err failure) = failure_status failure
