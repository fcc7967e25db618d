-- What is known of the answers of a session's commands. No public clause cites this module.
use Rattle.std.specs.Prelude.{◌≡◌, ◌⊎◌, ℕ, ◌+◌, ◌<◌, nat_lt, not, Bool, List, [], Option, None, Some}
use Rattle.std.specs.List.{slice_get}
use Rattle.mc_kind.specs.declared.text.Text.{Text}
use Rattle.mc_kind.specs.Cutting.{StandsIn, text_in}

-- each text stands in the output
abbrev pub AreWithin : List ℕ → List Text → Type 0
AreWithin output texts = (i : ℕ) (text : Text) → slice_get texts i ≡ Some text → StandsIn output text

-- the bytes of a text, if it is known
abbrev pub bytes_if : List ℕ → Option Text → List ℕ
bytes_if output None = []
bytes_if output (Some text) = text_in output text

-- the known bytes of the answer to the command with this index
abbrev pub known_bytes : List ℕ → List Text → ℕ → List ℕ
known_bytes output texts index = bytes_if output (slice_get texts index)

-- a text has bytes, or may have some if it is not known
abbrev pub has_bytes_if : Bool → Option Text → Bool
has_bytes_if all None = not all
has_bytes_if all (Some text) = nat_lt text.from text.to

-- the command with this index may be answered
abbrev pub may_have_bytes : List Text → Bool → ℕ → Bool
may_have_bytes texts all index = has_bytes_if all (slice_get texts index)

-- the last of these commands is known to be answered
pub record IsLastAnswered (texts : List Text) (count : ℕ) : Type 0 where
  pub index : ℕ
  pub text : Text
  pub is : slice_get texts index ≡ Some text
  pub some : text.from < text.to
  pub last : count ≡ index + 1

-- no command is known to be answered, or the last of these is
abbrev pub IsSureBelow : List Text → ℕ → Type 0
IsSureBelow texts count = (count ≡ 0) ⊎ IsLastAnswered texts count
