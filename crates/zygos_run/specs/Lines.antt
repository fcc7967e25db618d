-- The lines of the program: that of an answer on standard error, and that of a test run.
use Rattle.std.specs.Prelude.{ℕ, List, codes, Result}
use Rattle.zy_run.specs.declared.summary.Summary.{Summary}
use Rattle.zy_shell.specs.declared.failure.Failure.{Failure}
use Rattle.zy_shell.specs.FailureLine.{said_line}
use Rattle.zy_shell.specs.Line.{line_with_three}
use Rattle.zygos_run.specs.declared.answer.Answer.{Answer}

-- the line on standard error, if the answer is a failure
abbrev pub answer_line : Result Answer Failure → List ℕ
answer_line answer = said_line (codes "zygos") (codes "run|check|gen|self|pcap|report [options]") answer

-- the line of a test run's numbers
abbrev pub summary_line : Summary → List ℕ
summary_line summary =
    line_with_three (codes "commands ") summary.commands (codes " calls ") summary.calls
    (codes " reply-bytes ") summary.reply_bytes
    (codes " check yes")
