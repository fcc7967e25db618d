-- What reading a number digit by digit shows of the whole text.
use Rattle.std.proofs.Common.{◌≡◌, ℕ, ◌+◌, ◌-◌, ◌*◌, ◌^◌, ◌<◌, ◌≤◌, true, List, [], ◌∷◌, length, drop, get_or, sym, ap, ◌∙◌, arith}
use Rattle.std.specs.Prelude.{None, Some}
use Rattle.std.specs.Char.{digit_value}
use Rattle.std.specs.Str.{all_ascii_digits}
use Rattle.std.specs.Str.Parse.{digits_value, digits_value_after}
use Rattle.std.proofs.lemmas.Bool.Decides.{nat_tests}
use Rattle.std.proofs.lemmas.List.{drop_more, drop_all}
use Rattle.mc_meta.specs.Number.{number_of}

-- more digits make no smaller number
pub digits_value_after-grows : (number : ℕ) (text : List ℕ) → number ≤ digits_value_after 10 number text
digits_value_after-grows number [] = omega arith
digits_value_after-grows number (c ∷ cs) = omega (arith, digits_value_after-grows (number * 10 + digit_value c) cs)

-- a number of 2^64 and more is refused
pub number_of-large : (text : List ℕ) → 2 ^ 64 ≤ digits_value 10 text → number_of text ≡ None
number_of-large text large = grind (arith, nat_tests)

-- a text of 1 to 20 digits whose number is below 2^64 has that number
pub number_of-found : (text : List ℕ) (number : ℕ) → 1 ≤ length text → length text ≤ 20 → all_ascii_digits text ≡ true → number ≡ digits_value 10 text → number < 2 ^ 64 → Some number ≡ number_of text
number_of-found text number some few digits value fits = grind (arith, nat_tests)

decimal_digit : (c : ℕ) → 48 ≤ c → c ≤ 57 → digit_value c ≡ c - 48
decimal_digit c low high = grind (arith, nat_tests)

-- a text whose number is too large after one of its digits is refused
pub refused_at : (text : List ℕ) (i number : ℕ) → i < length text → digits_value_after 10 number (drop i text) ≡ digits_value 10 text
    → 48 ≤ get_or text i 0 → get_or text i 0 ≤ 57 → 2 ^ 64 ≤ number * 10 + (get_or text i 0 - 48) → None ≡ number_of text
refused_at text i number within is low high large =
    let digit = get_or text i 0 in
    let step : digits_value_after 10 (number * 10 + digit_value digit) (drop (i + 1) text) ≡ digits_value 10 text = sym (ap (digits_value_after 10 number) (drop_more text i 0 within)) ∙ is in
    let grows = digits_value_after-grows (number * 10 + digit_value digit) (drop (i + 1) text) in
    let same = decimal_digit digit low high in
    sym (number_of-large text (omega arith))

-- a text read to its end has the number read
pub read_whole : (text : List ℕ) (i number : ℕ) → length text ≤ i → 0 < length text → length text ≤ 20 → number < 2 ^ 64
    → digits_value_after 10 number (drop i text) ≡ digits_value 10 text → all_ascii_digits (drop i text) ≡ all_ascii_digits text → Some number ≡ number_of text
read_whole text i number end some few fits value digits =
    let nothing : drop i text ≡ [] = drop_all i text end in
    number_of-found text number (omega arith) few (sym digits ∙ ap all_ascii_digits nothing) (sym (ap (digits_value_after 10 number) nothing) ∙ value) fits
