-- The line on standard error that reports a failure of a program.
use Rattle.std.specs.Prelude.{ℕ, List, [], ◌++◌, codes, Result, Ok, Err}
use Rattle.zy_shell.specs.declared.failure.Failure.{Failure}
use Rattle.zy_shell.specs.declared.failure.Failure.TheVariants.{Usage, Refused, ReadFault, WriteFault, OutOfMemory}
use Rattle.zy_shell.specs.FaultLine.{refusal_line}

-- how the lines of a program begin: with its name
abbrev pub beginning : List ℕ → List ℕ
beginning program = program ++ codes ": "

-- how the program is called: its name, and what may follow that
abbrev pub usage_line : List ℕ → List ℕ → List ℕ
usage_line program usage = codes "usage: " ++ (program ++ (codes " " ++ (usage ++ codes "\n")))

-- what went wrong
abbrev pub reason_line : List ℕ → List ℕ → Failure → List ℕ
reason_line program usage Usage = usage_line program usage
reason_line program usage (Refused refusal) = refusal_line refusal
reason_line program usage ReadFault = codes "reading failed\n"
reason_line program usage WriteFault = codes "writing failed\n"
reason_line program usage OutOfMemory = codes "out of memory\n"

-- the line of a failure
abbrev pub failure_line : List ℕ → List ℕ → Failure → List ℕ
failure_line program usage failure = beginning program ++ reason_line program usage failure

-- the line of an answer, if it is a failure
abbrev pub said_line : {A : Type 0} → List ℕ → List ℕ → Result A Failure → List ℕ
said_line program usage (Ok answer) = []
said_line program usage (Err failure) = failure_line program usage failure
