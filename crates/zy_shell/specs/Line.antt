-- A line in pieces, and lines with numbers in them.
use Rattle.std.specs.Prelude.{ℕ, List, ◌++◌, codes, decimal}
use Rattle.zy_shell.specs.declared.lines.Piece.{Piece}
use Rattle.zy_shell.specs.declared.lines.Piece.TheVariants.{Text, Number}

-- the bytes of a piece
abbrev pub piece_text : Piece → List ℕ
piece_text (Text text) = text.now
piece_text (Number number) = decimal number

-- a line with a number at its end
abbrev pub line_with : List ℕ → ℕ → List ℕ
line_with text number = text ++ decimal number ++ codes "\n"

-- a line with two numbers
abbrev pub line_with_two : List ℕ → ℕ → List ℕ → ℕ → List ℕ
line_with_two text number middle other = text ++ decimal number ++ middle ++ decimal other ++ codes "\n"

-- a line with three numbers
abbrev pub line_with_three : List ℕ → ℕ → List ℕ → ℕ → List ℕ → ℕ → List ℕ → List ℕ
line_with_three text first middle second last third ending =
    text ++ (decimal first ++ (middle ++ (decimal second ++ (last ++ (decimal third ++ (ending ++ codes "\n"))))))
