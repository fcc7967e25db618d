-- Numbers below 2^32 are those below 2^64 that are below this bound too.
use Rattle.std.proofs.Common.{◌≡◌, ℕ, ◌^◌, ◌<◌, Bool, true, false, ◌&&◌, if◌then◌else◌, List, arith}
use Rattle.std.specs.Prelude.{nat_lt, None, Some}
use Rattle.std.specs.Str.Parse.{digits_value}
use Rattle.std.proofs.lemmas.Bool.{lt-ltb}
use Rattle.zy_base.specs.Number.{is_numeral, number_of}
use Rattle.mc_parse.specs.Number.{small_number_of}

-- a number that is found, and is small
pub small-found : (word : List ℕ) (number : ℕ) → number_of word ≡ Some number → number < 2 ^ 32 → small_number_of word ≡ Some number
small-found word number is small = go (is_numeral word) is
  where
    fits : (b : Bool) → (if b then Some (digits_value 10 word) else None) ≡ Some number → (if nat_lt (digits_value 10 word) (2 ^ 32) then Some (digits_value 10 word) else None) ≡ Some number
    fits false none = absurd (cc)
    fits true found = let same : digits_value 10 word ≡ number = cc in rw (lt-ltb (digits_value 10 word) (2 ^ 32) (omega (arith, same))) found

    go : (b : Bool) → (if b && nat_lt (digits_value 10 word) (2 ^ 64) then Some (digits_value 10 word) else None) ≡ Some number
        → (if b && nat_lt (digits_value 10 word) (2 ^ 32) then Some (digits_value 10 word) else None) ≡ Some number
    go false none = absurd (cc)
    go true found = fits (nat_lt (digits_value 10 word) (2 ^ 64)) found
