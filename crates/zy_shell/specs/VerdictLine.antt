-- The line of a verdict.
use Rattle.std.specs.Prelude.{ℕ, zero, suc, List, [], codes}
use Rattle.zy_check.specs.declared.verdict.Cause.{Cause}
use Rattle.zy_check.specs.declared.verdict.Cause.TheVariants.{NotNext, WrongReply, Missing, WrongOutput, WrongHolds}
use Rattle.zy_check.specs.declared.verdict.Verdict.{Verdict}
use Rattle.zy_check.specs.declared.verdict.Verdict.TheVariants.{Yes, No}
use Rattle.zy_shell.specs.Line.{line_with, line_with_two, line_with_three}

-- how the line of a cause begins
abbrev pub cause_text : Cause → List ℕ
cause_text (NotNext entry) = codes "no not-next entry "
cause_text (WrongReply entry) = codes "no wrong-reply entry "
cause_text (Missing conn index) = codes "no missing connection "
cause_text (WrongOutput conn session at) = codes "no wrong-output connection "
cause_text (WrongHolds conn) = codes "no wrong-holds connection "

-- the line of a wrong output; the first session of a connection is not named
abbrev pub output_line : List ℕ → ℕ → ℕ → ℕ → List ℕ
output_line text conn zero at = line_with_two text conn (codes " at ") at
output_line text conn (suc session) at =
    line_with_three text conn (codes " session ") (suc session) (codes " at ") at []

-- the line of a cause
abbrev pub cause_line : Cause → List ℕ
cause_line (NotNext entry) = line_with (cause_text (NotNext entry)) entry
cause_line (WrongReply entry) = line_with (cause_text (WrongReply entry)) entry
cause_line (Missing conn index) = line_with_two (cause_text (Missing conn index)) conn (codes " command ") index
cause_line (WrongOutput conn session at) = output_line (cause_text (WrongOutput conn session at)) conn session at
cause_line (WrongHolds conn) = line_with (cause_text (WrongHolds conn)) conn

-- the line of a verdict
abbrev pub verdict_line : Verdict → List ℕ
verdict_line Yes = codes "yes\n"
verdict_line (No cause) = cause_line cause
