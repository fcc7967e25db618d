-- Lines that ask for the same calls (docs/PROFILE.md, "Meta commands").
use Rattle.std.specs.Prelude.{◌≡◌, ℕ, true, List, [], ◌∷◌, ◌++◌}
use Rattle.std.specs.List.{list_all}
use Rattle.mc_parse.specs.declared.command.Command.{Command}
use Rattle.mc_parse.specs.Words.{is_word, space}
use Rattle.mc_parse.specs.Need.{need}
use Rattle.mc_parse.specs.Meaning.{line_command, block_command, large_command}
use Rattle.mc_parse.specs.Calls.{due}

-- words with one space between each two
abbrev pub spaced : List (List ℕ) → List ℕ
spaced [] = []
spaced (word ∷ []) = word
spaced (word ∷ next ∷ words) = word ++ space ∷ spaced (next ∷ words)

-- each of the texts is a word
abbrev pub AreWords : List (List ℕ) → Type 0
AreWords texts = list_all is_word texts ≡ true

-- the same calls are expected of two commands, whatever the shards and the connection
abbrev pub CallTheSame : Command → Command → Type 0
CallTheSame command other =
    (shards connection : ℕ) → due shards connection (command ∷ []) ≡ due shards connection (other ∷ [])

-- the same calls are expected of two lines
pub record AskTheSame (line other : List ℕ) : Type 0 where
  -- the same must come with them
  pub wants : need line ≡ need other
  -- the lines without a block
  pub alone : CallTheSame (line_command line) (line_command other)
  -- the lines with the same block
  pub with_a_block : (block : List ℕ) → CallTheSame (block_command line block) (block_command other block)
  -- the lines with a block that is too large
  pub too_large : CallTheSame (large_command line) (large_command other)
