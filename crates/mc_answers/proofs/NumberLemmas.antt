-- Numbers in texts are digits.
use Rattle.std.proofs.Common.{◌≡◌, ℕ, zero, suc, ◌/◌, ◌%◌, ◌<◌, Bool, true, false, List, [], ◌∷◌, ◌++◌, refl, ◌∙◌, arith}
use Rattle.std.specs.Prelude.{◌==◌, ◌&&◌, nat_le, if◌then◌else◌, decimal}
use Rattle.std.specs.Fmt.{digits, digits_onto, digit_glyph}
use Rattle.std.specs.List.{list_all}
use Rattle.std.proofs.lemmas.Bool.{and_parts, and_from}
use Rattle.std.proofs.lemmas.Bool.Decides.{nat_tests}
use Rattle.std.proofs.lemmas.List.Folds.{list_all-append}
use Rattle.mc_answers.specs.Cut.{is_no_feed}

-- what holds of both holds of the one that is chosen
pub choose : (Holds : List ℕ → Type 0) (test : Bool) (x y : List ℕ) → Holds x → Holds y → Holds (if test then x else y)
choose Holds true x y one two = one
choose Holds false x y one two = two

-- a byte is a digit
abbrev pub is_digit : ℕ → Bool
is_digit byte = nat_le 48 byte && nat_le byte 57

glyph_is_digit : (d : ℕ) → d < 10 → is_digit (digit_glyph false d) ≡ true
glyph_is_digit d few = grind (arith, nat_tests)

remainder : (n : ℕ) → n % 10 < 10
remainder n = omega arith

one_more : (n : ℕ) (after : List ℕ) → list_all is_digit after ≡ true → list_all is_digit (digit_glyph false (n % 10) ∷ after) ≡ true
one_more n after all = and_from (is_digit (digit_glyph false (n % 10))) (list_all is_digit after) (glyph_is_digit (n % 10) (remainder n)) all

onto_passes : (count n : ℕ) (after : List ℕ) → list_all is_digit after ≡ true → list_all is_digit (digits_onto count 10 false n after) ≡ true
onto_passes zero n after all = all
onto_passes (suc count) n after all =
    choose (λ (t : List ℕ). list_all is_digit t ≡ true) (n / 10 == 0) (digit_glyph false (n % 10) ∷ after) (digits_onto count 10 false (n / 10) (digit_glyph false (n % 10) ∷ after))
    (one_more n after all) (onto_passes count (n / 10) (digit_glyph false (n % 10) ∷ after) (one_more n after all))

-- the text of any number has digits alone
pub digits_pass : (n : ℕ) → list_all is_digit (decimal n) ≡ true
unfolding digits
digits_pass n = onto_passes 64 n [] refl

pub pass_less : (test weaker : ℕ → Bool) → ((byte : ℕ) → test byte ≡ true → weaker byte ≡ true) → (bytes : List ℕ) → list_all test bytes ≡ true → list_all weaker bytes ≡ true
pass_less test weaker less [] all = refl
pass_less test weaker less (byte ∷ bytes) all =
    let parts = and_parts (test byte) (list_all test bytes) all in
    and_from (weaker byte) (list_all weaker bytes) (less byte parts.0) (pass_less test weaker less bytes parts.1)

digit_no_feed : (byte : ℕ) → is_digit byte ≡ true → is_no_feed byte ≡ true
digit_no_feed byte is = grind (arith, nat_tests)

-- the digits of a number end no line
pub decimal_no_feed : (n : ℕ) → list_all is_no_feed (decimal n) ≡ true
decimal_no_feed n = pass_less is_digit is_no_feed digit_no_feed (decimal n) (digits_pass n)

-- two texts that pass, together
pub append_passes : (test : ℕ → Bool) (a b : List ℕ) → list_all test a ≡ true → list_all test b ≡ true → list_all test (a ++ b) ≡ true
append_passes test a b one two = list_all-append test a b ∙ and_from (list_all test a) (list_all test b) one two
