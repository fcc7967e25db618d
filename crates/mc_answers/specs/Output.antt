-- How the output of a session is cut into the answers of its commands.
use Rattle.std.specs.Prelude.{◌≡◌, ◌≢◌, ◌⊎◌, ℕ, ◌+◌, List, [], ◌++◌, length, drop, slice_get, Some}
use Rattle.std.specs.List.{concat, slice_index_or}
use Rattle.mc_parse.specs.declared.command.Command.{Command}
use Rattle.mc_allows.specs.declared.said.Said.{Said}
use Rattle.mc_answers.specs.Answer.{IsAnswer, IsSomeAnswer}
use Rattle.mc_answers.specs.Kinds.{IsErrorLine}

-- for each command of a session the bytes of its answer that stand in the output, and the bytes after all of them
pub record Cut : Type 0 where
  pub texts : List (List ℕ)
  pub left : List ℕ

-- the bytes of the answer to the command with this index
abbrev pub text_at : Cut → ℕ → List ℕ
text_at cut i = slice_index_or cut.texts i []

-- no command after this one has a byte
abbrev pub IsLastText : Cut → ℕ → Type 0
IsLastText cut i = concat (drop (i + 1) cut.texts) ≡ []

-- the bytes are a proper beginning of an answer
pub record BeginsAnswer (command : Command) (saids : List Said) (bytes : List ℕ) : Type 0 where
  pub missing : List ℕ
  pub some : missing ≢ []
  pub whole : IsAnswer command saids (bytes ++ missing)

-- the last answer is missing, or it is cut short and the output ends with it
abbrev pub IsUnfinished : Cut → ℕ → Command → List Said → Type 0
IsUnfinished cut i command saids =
    (text_at cut i ≡ []) ⊎ ((cut.left ≡ []) × BeginsAnswer command saids (text_at cut i))

-- the command's bytes are its answer, if this was said to its calls; or the last answer is unfinished
abbrev pub FitsText : Cut → ℕ → Command → List Said → Type 0
FitsText cut i command saids =
    IsAnswer command saids (text_at cut i) ⊎ (IsLastText cut i × IsUnfinished cut i command saids)

-- the command's bytes fit, whatever was said to its calls
pub record FitsSome (cut : Cut) (i : ℕ) (command : Command) : Type 0 where
  pub saids : List Said
  pub text : FitsText cut i command saids

-- what is left is an error line, which answers none of the commands that have no byte
pub record IsOverLine (commands : List Command) (cut : Cut) : Type 0 where
  pub line : IsErrorLine cut.left
  pub nobody : (i : ℕ) (command : Command) → slice_get commands i ≡ Some command → IsLastText cut i → text_at cut i ≡ []
      → IsSomeAnswer command cut.left → ⊥

-- the output of a session with these commands is cut so
pub record IsCut (commands : List Command) (output : List ℕ) (cut : Cut) : Type 0 where
  pub size : length cut.texts ≡ length commands
  pub whole : output ≡ concat cut.texts ++ cut.left
  pub each : (i : ℕ) (command : Command) → slice_get commands i ≡ Some command → FitsSome cut i command
  pub over : (cut.left ≡ []) ⊎ IsOverLine commands cut
