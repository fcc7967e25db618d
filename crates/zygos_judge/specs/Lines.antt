-- The lines: of a finding on standard output, and of an answer on standard error.
use Rattle.std.specs.Prelude.{ℕ, List, [], codes, Result}
use Rattle.zy_shell.specs.declared.failure.Failure.{Failure}
use Rattle.zy_shell.specs.Line.{line_with, line_with_two, line_with_three}
use Rattle.zy_shell.specs.FailureLine.{said_line}
use Rattle.zygos_judge.specs.declared.finding.Finding.{Finding}
use Rattle.zygos_judge.specs.declared.finding.Finding.TheVariants.{Explained, Refuted, Unknown}
use Rattle.zygos_judge.specs.declared.finding.Reason.{Reason}
use Rattle.zygos_judge.specs.declared.finding.Reason.TheVariants.{Kind, Surplus, EarlyEnd, Unmet, Shared}
use Rattle.zygos_judge.specs.declared.finding.Open.{Open}
use Rattle.zygos_judge.specs.declared.finding.Open.TheVariants.{Other, Search}

-- ---- standard output

-- a line that names a command
abbrev pub command_line : List ℕ → ℕ → ℕ → List ℕ
command_line text conn command = line_with_two text conn (codes " command ") command

-- a line that names a call
abbrev pub call_line : List ℕ → ℕ → ℕ → ℕ → List ℕ
call_line text conn command part = line_with_three text conn (codes " command ") command (codes " part ") part []

-- the line of a reason
abbrev pub reason_line : Reason → List ℕ
reason_line (Kind conn command) = command_line (codes "no kind connection ") conn command
reason_line (Surplus conn session) = line_with_two (codes "no surplus connection ") conn (codes " session ") session
reason_line (EarlyEnd at) = line_with (codes "no early-end record ") at
reason_line (Unmet conn command part) = call_line (codes "no unmet connection ") conn command part
reason_line (Shared conn command part) = call_line (codes "no shared connection ") conn command part

-- the line of what is not known
abbrev pub open_line : Open → List ℕ
open_line (Other conn command) = command_line (codes "unknown other connection ") conn command
open_line (Search conn command) = command_line (codes "unknown search connection ") conn command

-- the line of a finding
abbrev pub finding_line : Finding → List ℕ
finding_line (Explained commands ended) = line_with_two (codes "yes commands ") commands (codes " ended ") ended
finding_line (Refuted reason) = reason_line reason
finding_line (Unknown why) = open_line why

-- ---- standard error

-- the line of an answer, if it is a failure
abbrev pub line_for : Result Finding Failure → List ℕ
line_for answer = said_line (codes "judge") (codes "[--warm] [--may-forget] [--from] [--to] [--shards N]") answer
