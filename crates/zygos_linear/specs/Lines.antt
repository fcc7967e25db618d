-- The lines: of a finding on standard output, and of an answer on standard error.
use Rattle.std.specs.Prelude.{ℕ, List, codes, Result}
use Rattle.zy_check.specs.declared.verdict.Verdict.TheVariants.{No}
use Rattle.zy_times.specs.declared.timing.Timing.{Timing}
use Rattle.zy_times.specs.declared.timing.Timing.TheVariants.{InTime, EarlyEnd, OutOfTime}
use Rattle.zy_shell.specs.declared.failure.Failure.{Failure}
use Rattle.zy_shell.specs.Line.{line_with, line_with_two}
use Rattle.zy_shell.specs.FailureLine.{said_line}
use Rattle.zy_shell.specs.VerdictLine.{verdict_line}
use Rattle.zygos_linear.specs.declared.finding.Finding.{Finding}
use Rattle.zygos_linear.specs.declared.finding.Finding.TheVariants.{NoRun, Run}

-- ---- standard output

-- the line of how a journal fits the times
abbrev pub timing_line : Timing → List ℕ
timing_line (InTime commands ended) = line_with_two (codes "yes commands ") commands (codes " ended ") ended
timing_line (EarlyEnd at) = line_with (codes "no early-end record ") at
timing_line (OutOfTime entry after) = line_with_two (codes "no out-of-time entry ") entry (codes " after ") after

-- the line of a finding; if `check` says no, that of `check`
abbrev pub finding_line : Finding → List ℕ
finding_line (NoRun cause) = verdict_line (No cause)
finding_line (Run timing) = timing_line timing

-- ---- standard error

-- the line of an answer, if it is a failure
abbrev pub line_for : Result Finding Failure → List ℕ
line_for answer = said_line (codes "linear") (codes "[--shards N]") answer
