-- Numbers and exptimes on a line.
use Rattle.std.specs.Prelude.{ℕ, ◌^◌, Bool, ◌&&◌, ◌==◌, nat_le, nat_lt, if◌then◌else◌}
use Rattle.std.specs.Prelude.{List, [], ◌∷◌, length, Option, None, Some}
use Rattle.std.specs.Str.{all_ascii_digits}
use Rattle.std.specs.Str.Parse.{digits_value}

-- 1 to 20 digits, and nothing else
abbrev pub is_numeral : List ℕ → Bool
is_numeral text = nat_le 1 (length text) && nat_le (length text) 20 && all_ascii_digits text

-- the number of 1 to 20 digits, if it is below a bound; leading zeros are allowed
abbrev pub number_below : ℕ → List ℕ → Option ℕ
number_below bound text =
    if is_numeral text && nat_lt (digits_value 10 text) bound then Some (digits_value 10 text) else None

-- the number of a word, if it is below 2^64
abbrev pub number_of : List ℕ → Option ℕ
number_of word = number_below (2 ^ 64) word

-- the number of a word, if it is below 2^32
abbrev pub small_number_of : List ℕ → Option ℕ
small_number_of word = number_below (2 ^ 32) word

-- the byte of a minus sign
abbrev pub minus : ℕ
minus = 45

-- a word without the minus sign that it may begin with
abbrev pub without_sign : List ℕ → List ℕ
without_sign [] = []
without_sign (byte ∷ bytes) = if byte == minus then bytes else byte ∷ bytes

-- 1 to 19 digits
abbrev pub is_short_numeral : List ℕ → Bool
is_short_numeral word = nat_le 1 (length word) && nat_le (length word) 19 && all_ascii_digits word

-- an exptime: 1 to 19 digits, which a minus sign may precede
abbrev pub is_exptime : List ℕ → Bool
is_exptime word = is_short_numeral (without_sign word)
