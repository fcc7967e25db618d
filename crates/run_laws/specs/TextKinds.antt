-- The kinds of frame texts, and quit lines (docs/PROFILE.md, "Lines and words" and "Commands").
use Rattle.std.specs.Prelude.{◌≡◌, ℕ, ◌+◌, ◌<◌, List, [], ◌∷◌, ◌++◌, length, None}
use Rattle.mc_parse.specs.declared.need.Need.TheVariants as Needs
use Rattle.mc_parse.specs.Need.{need}
use Rattle.mc_parse.specs.Words.{line_limit}
use Rattle.zy_frame.specs.Line.{IsShort, first_line, chomped, line_feed}

-- ---- quit lines

-- a line that ends the connection
pub record IsQuitLine (line : List ℕ) : Type 0 where
  pub short : IsShort line
  pub quits : need (chomped line) ≡ Needs.Quit

-- ---- the kinds of frame texts

-- a line that is too long
pub record IsLongText (text : List ℕ) : Type 0 where
  pub line : List ℕ
  pub split : text ≡ line ++ line_feed ∷ []
  pub no_feed : first_line line ≡ None
  pub long : line_limit < length line

-- a line that takes no block
pub record IsLineText (text : List ℕ) : Type 0 where
  pub line : List ℕ
  pub split : text ≡ line ++ line_feed ∷ []
  pub short : IsShort line
  pub alone : need (chomped line) ≡ Needs.Nothing

-- a storage line with its block: the value and two bytes
pub record IsBlockText (text : List ℕ) : Type 0 where
  pub line : List ℕ
  pub block : List ℕ
  pub size : ℕ
  pub split : text ≡ line ++ line_feed ∷ block
  pub short : IsShort line
  pub sized : need (chomped line) ≡ Needs.Block size
  pub whole : length block ≡ size + 2

-- ---- streams that begin with one

-- a quit line and its line feed come first
pub record BeginsWithQuit (text : List ℕ) : Type 0 where
  pub line : List ℕ
  pub after : List ℕ
  pub split : text ≡ line ++ line_feed ∷ after
  pub quits : IsQuitLine line
