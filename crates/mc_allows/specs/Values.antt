-- The numbers that a memcached may find in a value. It reads digits with spaces after them, and odd texts such as `+5`,
-- ` 5`, `5 apples` or more than 20 digits in ways of its own.
use Rattle.std.specs.Prelude.{◌≡◌, ◌⊎◌, ℕ, ◌-◌, ◌^◌, ◌==◌, nat_lt, nat_le, nat_eq, if◌then◌else◌, Bool, false}
use Rattle.std.specs.Prelude.{◌&&◌, ◌||◌, not, List, [], ◌∷◌, ◌++◌, length, replicate, decimal, Option, None, Some}
use Rattle.zy_base.specs.Number.{number_of}

-- ---- bytes

-- a byte is a digit, or white space of C: a space, or one of the bytes 9 to 13
abbrev pub is_digit_or_white : ℕ → Bool
is_digit_or_white byte = (nat_le 48 byte && nat_le byte 57) || byte == 32 || (nat_le 9 byte && nat_le byte 13)

-- some byte is a digit or white space
abbrev pub has_digit_or_white : List ℕ → Bool
has_digit_or_white [] = false
has_digit_or_white (byte ∷ bytes) = is_digit_or_white byte || has_digit_or_white bytes

-- a byte and those after it, without a space that is the last
abbrev pub byte_before : ℕ → List ℕ → List ℕ
byte_before byte [] = if byte == 32 then [] else byte ∷ []
byte_before byte (next ∷ rest) = byte ∷ next ∷ rest

-- the bytes without the spaces at their end
abbrev pub unpadded : List ℕ → List ℕ
unpadded [] = []
unpadded (byte ∷ bytes) = byte_before byte (unpadded bytes)

-- ---- numbers

-- the number of 1 to 20 digits below 2^64, which spaces may follow
abbrev pub padded_number : List ℕ → Option ℕ
padded_number value = number_of (unpadded value)

-- a value that has this number, or none, is read as this other number; without a number, an odd text is read as any
abbrev pub is_read_as : Option ℕ → Bool → ℕ → Bool
is_read_as (Some own) odd number = nat_eq own number
is_read_as None odd number = odd && nat_lt number (2 ^ 64)

-- a server may read a value as this number
abbrev pub may_read : List ℕ → ℕ → Bool
may_read value number = is_read_as (padded_number value) (has_digit_or_white value) number

-- a number is surely read, or there is none to read
abbrev pub is_sure_number : Option ℕ → Bool
is_sure_number None = false
is_sure_number (Some number) = nat_lt number (2 ^ 63)

-- a server may find no number in a value; digits without spaces, below 2^63, are surely a number
abbrev pub may_read_none : List ℕ → Bool
may_read_none value = not (is_sure_number (number_of value))

-- a value is a number's digits, or these and as many spaces as make up a length
abbrev pub IsNumberText : ℕ → ℕ → List ℕ → Type 0
IsNumberText number width value =
    (value ≡ decimal number) ⊎ (value ≡ decimal number ++ replicate (width - length (decimal number)) 32)
