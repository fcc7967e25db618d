-- What is left of an output after the answers of its commands. No public clause cites this module.
use Rattle.std.specs.Prelude.{◌≡◌, ◌⊎◌, ℕ, ◌≤◌, Bool, true, false, List, length, drop, Some}
use Rattle.std.specs.List.{slice_get}
use Rattle.mc_answers.specs.Kinds.{IsErrorLine}
use Rattle.mc_parse.specs.declared.command.Command.{Command}
use Rattle.mc_parse.specs.Deed.{says_of, is_unsaid}

-- a command asks for no answer
abbrev pub AsksForNone : Command → Type 0
AsksForNone command = is_unsaid (says_of command) ≡ true

-- the command with this index asks for no answer, if it is not answered by these flags
abbrev pub IsDoneAt : List Command → List Bool → ℕ → Type 0
IsDoneAt commands answered i = (command : Command) → slice_get commands i ≡ Some command
    → slice_get answered i ≡ Some false → AsksForNone command

-- each command does so
abbrev pub AreAnsweredOrQuiet : List Command → List Bool → Type 0
AreAnsweredOrQuiet commands answered = (i : ℕ) → IsDoneAt commands answered i

-- one error line is left, and each command is done and answered, or asks for no answer
pub record IsLeftOver (commands : List Command) (output : List ℕ) (answered : List Bool) (at : ℕ) : Type 0 where
  pub line : IsErrorLine (drop at output)
  pub all : length answered ≡ length commands
  pub quiet : AreAnsweredOrQuiet commands answered

-- the output is cut to its end, or what is left answers no command
abbrev pub IsWholeAt : List Command → List ℕ → List Bool → ℕ → Type 0
IsWholeAt commands output answered at = (length output ≤ at) ⊎ IsLeftOver commands output answered at
