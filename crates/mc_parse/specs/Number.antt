-- Numbers and exptimes on a line (docs/PROFILE.md, "Numbers").
use Rattle.std.specs.Prelude.{ℕ, Bool, false, ◌==◌, List, Option, None, Some}
use Rattle.zy_base.specs.Number.{number_of}
pub use Rattle.mc_meta.specs.Number.{small_number_of, minus, without_sign, is_short_numeral, is_exptime}

-- the number found is 0
abbrev pub is_nothing : Option ℕ → Bool
is_nothing None = false
is_nothing (Some number) = number == 0

-- a word is the number 0
abbrev pub is_zero : List ℕ → Bool
is_zero word = is_nothing (number_of word)
