-- The words of a line, which are separated by spaces, and their places in it.
use Rattle.std.specs.Prelude.{◌≡◌, ◌<◌, ◌≤◌, ℕ, ◌+◌, Bool, true, false, ◌==◌, if◌then◌else◌}
use Rattle.std.specs.Prelude.{List, [], ◌∷◌, length, filter, take, drop}

-- the most bytes that a line may have
abbrev pub line_limit : ℕ
line_limit = 65536

-- the byte between words
abbrev pub space : ℕ
space = 32

-- ---- words

-- a byte put before the first of some pieces
abbrev pub put_before : ℕ → List (List ℕ) → List (List ℕ)
put_before byte [] = (byte ∷ []) ∷ []
put_before byte (piece ∷ pieces) = (byte ∷ piece) ∷ pieces

-- the pieces of a text: each space ends a piece
abbrev pub pieces_of : List ℕ → List (List ℕ)
pieces_of [] = [] ∷ []
pieces_of (byte ∷ bytes) =
    if byte == space then [] ∷ pieces_of bytes else put_before byte (pieces_of bytes)

-- a piece has a byte
abbrev pub has_byte : List ℕ → Bool
has_byte [] = false
has_byte (byte ∷ bytes) = true

-- the words of a line, its maximal runs of bytes other than a space: the pieces that have a byte
unfoldable pub words : List ℕ → List (List ℕ)
words line = filter has_byte (pieces_of line)

-- ---- places

-- a piece of a line, and the place of its first byte
pub record Placed : Type 0 where
  pub from : ℕ
  pub text : List ℕ

-- pieces with their places, from some place on, with a space between two of them
abbrev pub placed : ℕ → List (List ℕ) → List Placed
placed at [] = []
placed at (piece ∷ pieces) =
    record { from = at; text = piece } ∷ placed (at + length piece + 1) pieces

-- a placed piece is a word
abbrev pub is_placed_word : Placed → Bool
is_placed_word piece = has_byte piece.text

-- the words of a text that begins at a place of the line, with their places
unfoldable pub words_at : ℕ → List ℕ → List Placed
words_at at text = filter is_placed_word (placed at (pieces_of text))

-- the text of a placed word
abbrev pub text_of : Placed → List ℕ
text_of word = word.text

-- a line has these bytes at their place
abbrev pub IsInLine : List ℕ → Placed → Type 0
IsInLine line piece = take (length piece.text) (drop piece.from line) ≡ piece.text

-- a line has this word at its place, which is within the line
pub record IsWordIn (line : List ℕ) (word : Placed) : Type 0 where
  pub some : 0 < length word.text
  pub within : word.from + length word.text ≤ length line
  pub text : IsInLine line word
