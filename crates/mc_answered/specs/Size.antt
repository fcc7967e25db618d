-- How the first line of a shown value is read.
use Rattle.std.specs.Prelude.{ℕ, List, Option, None, Some, codes}
use Rattle.std.specs.Option.{option_and_then}
use Rattle.mc_answered.specs.Reading.{after_front, Halves, halves_at, decimal_of, number_before}

-- the number before a space, if there is one, and else before the end of the line
abbrev pub size_before : Option Halves → List ℕ → Option ℕ
size_before (Some halved) text = decimal_of halved.front
size_before None text = option_and_then number_before (halves_at 13 text)

-- the number before the marks, or before the end of the line
abbrev pub size_in : List ℕ → Option ℕ
size_in text = size_before (halves_at 32 text) text

-- how many bytes the value has that the line announces
abbrev pub size_of : List ℕ → Option ℕ
size_of line = option_and_then size_in (after_front (codes "VA ") line)
