-- The text of the next command in what is left of an output.
use Rattle.std.specs.Prelude.{◌≡◌, ◌⊎◌, ℕ, ◌≤◌, List, [], length, take}
use Rattle.mc_allows.specs.declared.said.Said.{Said}
use Rattle.mc_answers.specs.Answer.{IsAnswer}
use Rattle.mc_answers.specs.Output.{BeginsAnswer}
use Rattle.mc_parse.specs.declared.command.Command.{Command}

-- the text of the next command has this length: it is the command's answer, or nothing is left, or all that is left
-- is a beginning of the answer
abbrev pub IsNextText : Command → List Said → List ℕ → ℕ → Type 0
IsNextText command said rest n = (n ≤ length rest)
    × (IsAnswer command said (take n rest)
    ⊎ ((rest ≡ []) × (n ≡ 0))
    ⊎ ((n ≡ length rest) × BeginsAnswer command said rest))
