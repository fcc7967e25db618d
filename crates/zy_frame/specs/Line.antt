-- Lines of a stream (docs/PROFILE.md, "Lines and words").
use Rattle.std.specs.Prelude.{◌≡◌, ℕ, ◌≤◌, length, ◌==◌, if◌then◌else◌, List, [], ◌∷◌, Option, None, Some}
use Rattle.mc_parse.specs.Words.{line_limit}

-- the byte that ends a line
abbrev pub line_feed : ℕ
line_feed = 10

-- the byte that is dropped if it comes right before the end of a line
abbrev pub carriage_return : ℕ
carriage_return = 13

-- a line that a line feed ended, and the bytes after that line feed
pub record Ended : Type 0 where
  pub line : List ℕ
  pub after : List ℕ

-- one more byte is put in front of the line
abbrev pub begun_by : ℕ → Option Ended → Option Ended
begun_by byte None = None
begun_by byte (Some ended) = Some (record { line = byte ∷ ended.line; after = ended.after })

-- the bytes before the first line feed, and those after it; nothing if no line feed has come
abbrev pub first_line : List ℕ → Option Ended
first_line [] = None
first_line (byte ∷ bytes) = if byte == line_feed
    then Some (record { line = []; after = bytes })
    else begun_by byte (first_line bytes)

-- the line without one carriage return at its end
abbrev pub chomped : List ℕ → List ℕ
chomped [] = []
chomped (byte ∷ []) = if byte == carriage_return then [] else byte ∷ []
chomped (byte ∷ next ∷ bytes) = byte ∷ chomped (next ∷ bytes)

-- the line has no line feed, and is not too long
pub record IsShort (line : List ℕ) : Type 0 where
  pub no_feed : first_line line ≡ None
  pub short : length line ≤ line_limit
