-- The size in the first line of a shown value is read back.
use Rattle.std.proofs.Common.{◌≡◌, ◌⊎◌, inl, inr, ℕ, ◌<◌, ◌^◌, Bool, true, false, List, [], ◌∷◌, ◌++◌, length, refl, ap, sym, ◌∙◌, subst, append_assoc, arith}
use Rattle.std.specs.Prelude.{◌==◌, not, if◌then◌else◌, codes, decimal, None, Some, option_map}
use Rattle.std.specs.List.{list_all}
use Rattle.std.proofs.lemmas.Bool.{and_parts}
use Rattle.std.proofs.lemmas.Bool.Decides.{nat_tests}
use Rattle.std.proofs.lemmas.List.{append-nil}
use Rattle.mc_reply.specs.Line.{line_end}
use Rattle.mc_reply.specs.MetaText.{item_mark, mark_text, marks_text, marked, found_of}
use Rattle.mc_answers.proofs.NumberLemmas.{choose, is_digit, digits_pass, pass_less, append_passes}
use Rattle.mc_answered.specs.Reading.{halves_at, is_not, put_before}
use Rattle.mc_answered.specs.Size.{size_in, size_of}
use Rattle.mc_answered.proofs.HeadingLemmas.{number_halves}
use Rattle.mc_answered.proofs.ReadingLemmas.{decimal_of-decimal}

-- ---- no such byte

halves_none : (stop : ℕ) (text : List ℕ) → list_all (is_not stop) text ≡ true → halves_at stop text ≡ None
halves_none stop [] all = refl
halves_none stop (byte ∷ bytes) all =
    let parts = and_parts (is_not stop byte) (list_all (is_not stop) bytes) all in
    step (byte == stop) parts.0 (halves_none stop bytes parts.1)
  where
    step : (test : Bool) → not test ≡ true → halves_at stop bytes ≡ None → (if test then Some (record { front = []; rest = bytes }) else option_map (put_before byte) (halves_at stop bytes)) ≡ None
    step true is rest = absurd (cc)
    step false is rest = ap (option_map (put_before byte)) rest

digit_no_space : (byte : ℕ) → is_digit byte ≡ true → is_not 32 byte ≡ true
digit_no_space byte is = grind (arith, nat_tests)

-- ---- marks

-- a text is empty, or begins with a space
IsSpaced : List ℕ → Type 0
IsSpaced text = (text ≡ []) ⊎ ((rest : List ℕ) × (text ≡ 32 ∷ rest))

mark_spaced : (key : List ℕ) (flags unique : ℕ) (value : List ℕ) (letter : ℕ) → IsSpaced (mark_text key (Some (found_of flags unique value)) letter)
unfolding IsSpaced
mark_spaced key flags unique value letter =
    choose IsSpaced (letter == 107) (codes " k" ++ key) (item_mark (found_of flags unique value) letter) (inr (codes "k" ++ key, refl))
    (
    choose IsSpaced (letter == 102) (codes " f" ++ decimal flags) (if letter == 99 then codes " c" ++ decimal unique else if letter == 115 then codes " s" ++ decimal (length value) else [])
    (inr (codes "f" ++ decimal flags, refl))
    (
    choose IsSpaced (letter == 99) (codes " c" ++ decimal unique) (if letter == 115 then codes " s" ++ decimal (length value) else []) (inr (codes "c" ++ decimal unique, refl))
    (choose IsSpaced (letter == 115) (codes " s" ++ decimal (length value)) [] (inr (codes "s" ++ decimal (length value), refl)) (inl refl))
    )
    )

joined_spaced : (a b : List ℕ) → IsSpaced a → IsSpaced b → IsSpaced (a ++ b)
unfolding IsSpaced
joined_spaced a b (inl is) two = subst (λ (t : List ℕ). IsSpaced (t ++ b)) (sym is) two
joined_spaced a b (inr one) two = inr (one.0 ++ b, ap (λ (t : List ℕ). t ++ b) one.1)

marks_spaced : (key : List ℕ) (flags unique : ℕ) (value letters : List ℕ) → IsSpaced (marks_text key (Some (found_of flags unique value)) letters)
unfolding IsSpaced
marks_spaced key flags unique value [] = inl refl
marks_spaced key flags unique value (letter ∷ letters) =
    joined_spaced (mark_text key (Some (found_of flags unique value)) letter) (marks_text key (Some (found_of flags unique value)) letters) (mark_spaced key flags unique value letter)
    (marks_spaced key flags unique value letters)

-- ---- the size

size_spaced : (n : ℕ) (rest : List ℕ) → n < 2 ^ 64 → size_in (decimal n ++ 32 ∷ rest) ≡ Some n
size_spaced n rest small = rw (number_halves 32 n rest (omega arith)) (decimal_of-decimal n small)

size_ended : (n : ℕ) → n < 2 ^ 64 → size_in (decimal n ++ line_end) ≡ Some n
size_ended n small =
    rw (halves_none 32 (decimal n ++ line_end) (append_passes (is_not 32) (decimal n) line_end (pass_less is_digit (is_not 32) digit_no_space (decimal n) (digits_pass n)) refl))
    (rw (number_halves 13 n (10 ∷ []) (omega arith)) (decimal_of-decimal n small))

size_marked : (n : ℕ) (marks : List ℕ) → n < 2 ^ 64 → IsSpaced marks → size_in ((decimal n ++ marks) ++ line_end) ≡ Some n
unfolding IsSpaced
size_marked n marks small (inl is) = ap size_in (ap (λ (t : List ℕ). (decimal n ++ t) ++ line_end) is ∙ ap (λ (t : List ℕ). t ++ line_end) (append-nil (decimal n))) ∙ size_ended n small
size_marked n marks small (inr one) = ap size_in (ap (λ (t : List ℕ). (decimal n ++ t) ++ line_end) one.1 ∙ append_assoc (decimal n) (32 ∷ one.0) line_end) ∙ size_spaced n (one.0 ++ line_end) small

-- the size is read back
pub size_of-line : (n : ℕ) (key : List ℕ) (flags unique : ℕ) (value letters : List ℕ) → n < 2 ^ 64 → size_of (marked (codes "VA " ++ decimal n) key (Some (found_of flags unique value)) letters) ≡ Some n
size_of-line n key flags unique value letters small = size_marked n (marks_text key (Some (found_of flags unique value)) letters) small (marks_spaced key flags unique value letters)
