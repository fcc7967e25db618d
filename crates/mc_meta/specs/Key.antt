-- The key of a line, which is a word of the line.
use Rattle.std.specs.Prelude.{◌≡◌, ◌<◌, ◌≤◌, ℕ, ◌+◌, ◌-◌, List, length, take, drop, slice_get, Option, None, Some}
use Rattle.mc_meta.specs.declared.meta_line.Span.{Span}
use Rattle.mc_meta.specs.declared.meta_line.MetaLine.{MetaLine}
use Rattle.mc_meta.specs.declared.meta_line.MetaLine.TheVariants.{Get, Set, Delete}
use Rattle.mc_meta.specs.Words.{words}
use Rattle.mc_meta.specs.Meta.{key_limit}

-- the place of a line's key
abbrev pub key_of : MetaLine → Option Span
key_of (Get key flags) = Some key
key_of (Set key bytes flags unique mode marks) = Some key
key_of (Delete key flags) = Some key
key_of line = None

-- the bytes of a line at a place
abbrev pub bytes_in : List ℕ → Span → List ℕ
bytes_in line span = take (span.to - span.from) (drop span.from line)

-- a place is that of the line's second word, which has 1 to 250 bytes
pub record IsKeyIn (line : List ℕ) (key : Span) : Type 0 where
  pub some : key.from < key.to
  pub within : key.to ≤ length line
  pub short : key.to ≤ key.from + key_limit
  pub word : slice_get (words line) 1 ≡ Some (bytes_in line key)
