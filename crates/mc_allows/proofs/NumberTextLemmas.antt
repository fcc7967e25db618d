-- Numbers that are read of values, and values that numbers are written to.
use Rattle.std.specs.Prelude.{Option, None, Some, decimal, replicate, ◌==◌, not}
use Rattle.std.proofs.Common.{◌≡◌, inl, inr, ℕ, zero, suc, ◌+◌, ◌-◌, ◌%◌, ◌^◌, ◌<◌, true, false, cond, List, [], ◌∷◌, ◌++◌, length, refl, sym, ap, ◌∙◌, arith}
use Rattle.std.specs.Str.{all_ascii_digits}
use Rattle.std.proofs.lemmas.Bool.{and_parts, eqb-true, eq-eqb, ltb-true}
use Rattle.std.proofs.lemmas.Bool.Decides.{nat_tests}
use Rattle.zy_base.specs.Number.{number_of}
use Rattle.zy_base.proofs.NumberLemmas.{number_of-decimal}
use Rattle.mc_allows.specs.Values.{byte_before, unpadded, padded_number, has_digit_or_white, is_read_as, may_read, may_read_none, is_sure_number, IsNumberText}
use Rattle.mc_allows.specs.Facts.{is_this_number}

-- ---- digits

-- a byte that is no space stays
pub kept_byte : (byte : ℕ) (bytes : List ℕ) → (byte == 32) ≡ false → byte_before byte bytes ≡ byte ∷ bytes
kept_byte byte [] is = ap (λ b. cond b [] (byte ∷ [])) is
kept_byte byte (next ∷ rest) is = refl

-- digits have no spaces at their end
unpadded_digits : (text : List ℕ) → all_ascii_digits text ≡ true → unpadded text ≡ text
unpadded_digits [] digits = refl
unpadded_digits (byte ∷ bytes) digits =
    let first : (byte == 32) ≡ false = grind (arith, nat_tests) in
    let rest : all_ascii_digits bytes ≡ true = grind (arith, nat_tests) in
    ap (byte_before byte) (unpadded_digits bytes rest) ∙ kept_byte byte bytes first

numeral_digits : (text : List ℕ) (n : ℕ) → number_of text ≡ Some n → all_ascii_digits text ≡ true
numeral_digits text n is = grind (arith, nat_tests)

-- digits alone are a number with or without the rule for spaces
pub number_kept : (text : List ℕ) (n : ℕ) → number_of text ≡ Some n → padded_number text ≡ Some n
number_kept text n is = ap number_of (unpadded_digits text (numeral_digits text n is)) ∙ is

-- ---- numbers that are read

pub is_itself : (n : ℕ) → is_this_number (Some n) n ≡ true
is_itself n = eq-eqb n n refl

-- the number of a value is read
pub number_read : (value : List ℕ) (n : ℕ) → padded_number value ≡ Some n → may_read value n ≡ true
number_read value n is = ap (λ own. is_read_as own (has_digit_or_white value) n) is ∙ is_itself n

-- no other number is read of a value that has one
pub only_number : (value : List ℕ) (n own : ℕ) → padded_number value ≡ Some own → may_read value n ≡ true → own ≡ n
only_number value n own is read = eqb-true own n (sym (ap (λ o. is_read_as o (has_digit_or_white value) n) is) ∙ read)

number_below : (text : List ℕ) (n : ℕ) → number_of text ≡ Some n → n < 2 ^ 64
number_below text n is = grind (arith, nat_tests)

-- what is read is below 2^64
pub read_below : (value : List ℕ) (n : ℕ) → may_read value n ≡ true → n < 2 ^ 64
read_below value n read = go (padded_number value) refl
  where
    go : (own : Option ℕ) → padded_number value ≡ own → n < 2 ^ 64
    go (Some own) is = number_below (unpadded value) n (is ∙ ap Some (only_number value n own is read))
    go None is = ltb-true n (2 ^ 64) (and_parts (has_digit_or_white value) _ (sym (ap (λ o. is_read_as o (has_digit_or_white value) n) is) ∙ read)).1

-- where zygos finds no number, a server may find none
pub none_read : (value : List ℕ) → number_of value ≡ None → may_read_none value ≡ true
none_read value is = ap (λ own. not (is_sure_number own)) is

-- ---- numbers that are written

spaces_go : (count : ℕ) → unpadded (replicate count 32) ≡ []
spaces_go zero = refl
spaces_go (suc count) = ap (byte_before 32) (spaces_go count)

pub padding_goes : (text spaces : List ℕ) → unpadded spaces ≡ [] → unpadded (text ++ spaces) ≡ unpadded text
padding_goes [] spaces is = is
padding_goes (byte ∷ text) spaces is = ap (byte_before byte) (padding_goes text spaces is)

-- a number is read back from its digits, with or without spaces
pub written : (n width : ℕ) (text : List ℕ) → n < 2 ^ 64 → IsNumberText n width text → padded_number text ≡ Some n
written n width text small (inl is) = ap padded_number is ∙ number_kept (decimal n) n (number_of-decimal n small)
written n width text small (inr is) =
    ap padded_number is
    ∙ ap number_of (padding_goes (decimal n) (replicate (width - length (decimal n)) 32) (spaces_go (width - length (decimal n))))
    ∙ number_kept (decimal n) n (number_of-decimal n small)

-- the number before an incr, from that after it
pub uncounted : (n amount : ℕ) → n < 2 ^ 64 → ((n + amount) % 2 ^ 64 + (2 ^ 64 - amount % 2 ^ 64)) % 2 ^ 64 ≡ n
uncounted n amount small = omega arith
