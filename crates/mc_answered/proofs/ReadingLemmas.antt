-- What is read of a text, and what the text then is.
use Rattle.std.proofs.Common.{rules, ◌≡◌, ◌≢◌, ℕ, zero, suc, ◌+◌, ◌<◌, ◌^◌, Bool, true, false, List, [], ◌∷◌, ◌++◌, length, take, drop, get_or, refl, ap, sym, ◌∙◌, subst, arith, add-one}
use Rattle.std.specs.Prelude.{◌==◌, ◌&&◌, nat_le, nat_lt, not, if◌then◌else◌, Option, None, Some, MatchOption, option_map, decimal}
use Rattle.std.specs.List.{list_all}
use Rattle.std.proofs.lemmas.Bool.{eq-eqb, ne_eqb, and_parts, and_from}
use Rattle.std.proofs.lemmas.Bool.Decides.{nat_tests}
use Rattle.std.proofs.lemmas.Fmt.{first_decimal, decimal_digit, decimal-digits_value}
use Rattle.std.proofs.lemmas.Str.Parse.{IsNumeralModel, numerals_by_value}
use Rattle.std.specs.Str.{all_ascii_digits}
use Rattle.std.specs.Str.Parse.{digits_value}
use Rattle.zy_base.specs.Number.{is_numeral, number_of}
use Rattle.memchr.specs.Find.{IsFirstByte, is_byte}
use Rattle.zy_base.proofs.NumberLemmas.{number_of-decimal}
use Rattle.mc_answered.specs.Reading.{after_front, Halves, put_before, halves_at, is_not, leads_zero, decimal_of}

-- ---- a front

pub after_front-is : (front rest : List ℕ) → after_front front (front ++ rest) ≡ Some rest
after_front-is [] rest = refl
after_front-is (byte ∷ front) rest = rw (eq-eqb byte byte refl) (after_front-is front rest)

pub after_front-none : (front text : List ℕ) → ((rest : List ℕ) → text ≢ front ++ rest) → after_front front text ≡ None
after_front-none [] text never = absurd (never text refl)
after_front-none (byte ∷ front) [] never = refl
after_front-none (byte ∷ front) (other ∷ text) never = go (byte == other) refl (after_front-none front text)
  where
    go : (test : Bool) → (byte == other) ≡ test → (((rest : List ℕ) → text ≢ front ++ rest) → after_front front text ≡ None) → (if test then after_front front text else None) ≡ None
    go true is later = later (λ rest same. never rest (let e : byte ≡ other = grind (arith, nat_tests) in cc))
    go false is later = refl

-- ---- halves

halves : List ℕ → List ℕ → Halves
halves front rest = record { front = front; rest = rest }

pub halves_at-is : (stop : ℕ) (front rest : List ℕ) → list_all (is_not stop) front ≡ true → halves_at stop (front ++ stop ∷ rest) ≡ Some (record { front = front; rest = rest })
halves_at-is stop [] rest none = rw (eq-eqb stop stop refl) refl
halves_at-is stop (byte ∷ front) rest none =
    let parts = and_parts (is_not stop byte) (list_all (is_not stop) front) none in go (byte == stop) refl parts.0 (halves_at-is stop front rest parts.1)
  where
    go : (test : Bool) → (byte == stop) ≡ test → not (byte == stop) ≡ true → halves_at stop (front ++ stop ∷ rest) ≡ Some (record { front = front; rest = rest })
        → (if test then Some (record { front = []; rest = front ++ stop ∷ rest }) else option_map (put_before byte) (halves_at stop (front ++ stop ∷ rest))) ≡ Some (record { front = byte ∷ front; rest = rest })
    go true is other later = absurd (cc)
    go false is other later = ap (option_map (put_before byte)) later

pub record AreHalves (stop : ℕ) (text : List ℕ) (halves : Halves) : Type 0 where
  pub is : text ≡ halves.front ++ stop ∷ halves.rest
  pub none : list_all (is_not stop) halves.front ≡ true

pub halves_at-some : (stop : ℕ) (text : List ℕ) (halves : Halves) → halves_at stop text ≡ Some halves → AreHalves stop text halves
halves_at-some stop [] halves is = absurd (cc)
halves_at-some stop (byte ∷ bytes) halves is = go (byte == stop) refl (halves_at stop bytes) refl is (halves_at-some stop bytes)
  where
    found : (h : Halves) → AreHalves stop bytes h → Some (put_before byte h) ≡ Some halves → (byte == stop) ≡ false → AreHalves stop (byte ∷ bytes) halves
    found h rest same other =
        let e : put_before byte h ≡ halves = cc in
        subst (AreHalves stop (byte ∷ bytes)) e (record { is = ap (λ (l : List ℕ). byte ∷ l) rest.is; none = and_from (is_not stop byte) (list_all (is_not stop) h.front) (ap not other) rest.none })

    go : (test : Bool) → (byte == stop) ≡ test → (later : Option Halves) → halves_at stop bytes ≡ later
        → (if test then Some (record { front = []; rest = bytes }) else option_map (put_before byte) later) ≡ Some halves → ((h : Halves) → halves_at stop bytes ≡ Some h → AreHalves stop bytes h) → AreHalves stop (byte ∷ bytes) halves
    go true test later there same rest =
        let e : record { front = []; rest = bytes } ≡ halves = cc in
        let b : byte ≡ stop = grind (arith, nat_tests) in
        subst (AreHalves stop (byte ∷ bytes)) e (record { is = ap (λ (x : ℕ). x ∷ bytes) b; none = refl })
    go false test None there same rest = absurd (cc)
    go false test (Some h) there same rest = found h (rest h there) same test

pub halves_at-none : (stop : ℕ) (text : List ℕ) → halves_at stop text ≡ None → list_all (is_not stop) text ≡ true
halves_at-none stop [] is = refl
halves_at-none stop (byte ∷ bytes) is = go (byte == stop) refl (halves_at stop bytes) refl is (halves_at-none stop bytes)
  where
    go : (test : Bool) → (byte == stop) ≡ test → (later : Option Halves) → halves_at stop bytes ≡ later
        → (if test then Some (record { front = []; rest = bytes }) else option_map (put_before byte) later) ≡ None → (halves_at stop bytes ≡ None → list_all (is_not stop) bytes ≡ true) → list_all (is_not stop) (byte ∷ bytes) ≡ true
    go true test later there same rest = absurd (cc)
    go false test None there same rest = and_from (is_not stop byte) (list_all (is_not stop) bytes) (ap not test) (rest there)
    go false test (Some h) there same rest = absurd (cc)

-- ---- a search

no_halves : (stop : ℕ) (bytes : List ℕ) → ((k : ℕ) → k < length bytes → get_or bytes k 0 ≡ stop → ⊥) → halves_at stop bytes ≡ None
no_halves stop [] none = refl
no_halves stop (byte ∷ bytes) none =
    rw (ne_eqb byte stop (none 0 (omega arith))) (ap (option_map (put_before byte)) (no_halves stop bytes (λ k lt is. none (suc k) (omega arith) is)))

halves_there : (stop : ℕ) (bytes : List ℕ) (at : ℕ) → at < length bytes → get_or bytes at 0 ≡ stop → ((k : ℕ) → k < at → get_or bytes k 0 ≡ stop → ⊥)
    → halves_at stop bytes ≡ Some (record { front = take at bytes; rest = drop (suc at) bytes })
halves_there stop [] at within is none = absurd (omega arith)
halves_there stop (byte ∷ bytes) zero within is none = rw (eq-eqb byte stop is) refl
halves_there stop (byte ∷ bytes) (suc at) within is none =
    rw (ne_eqb byte stop (none 0 (omega arith))) (ap (option_map (put_before byte)) (halves_there stop bytes at (omega arith) is (λ k lt there. none (suc k) (omega arith) there)))

passes : (byte stop : ℕ) → byte ≡ stop → is_byte stop byte ≡ true
passes byte stop is = grind (arith, nat_tests)

is_stop : (byte stop : ℕ) → is_byte stop byte ≡ true → byte ≡ stop
is_stop byte stop is = grind (arith, nat_tests)

-- what a search for a byte finds
pub found_halves : (stop : ℕ) (bytes : List ℕ) (found : Option ℕ) → IsFirstByte (is_byte stop) bytes found
    → MatchOption found (halves_at stop bytes ≡ None) (λ at. (at < length bytes) × (halves_at stop bytes ≡ Some (record { front = take at bytes; rest = drop (at + 1) bytes })))
found_halves stop bytes None nowhere = no_halves stop bytes (λ k lt is. nowhere k (omega arith) lt (passes _ stop is))
found_halves stop bytes (Some at) (first, here) = (
  first.high,
  rw (add-one at) (halves_there stop bytes at first.high (is_stop _ stop here) (λ k lt is. first.before k (omega arith) lt (passes _ stop is))),
)

-- ---- more of a front

pub after_front-some : (front text rest : List ℕ) → after_front front text ≡ Some rest → text ≡ front ++ rest
after_front-some [] text rest is = let e : text ≡ rest = cc in e
after_front-some (byte ∷ front) [] rest is = absurd (cc)
after_front-some (byte ∷ front) (other ∷ text) rest is = go (byte == other) refl is (after_front-some front text rest)
  where
    go : (test : Bool) → (byte == other) ≡ test → (if test then after_front front text else None) ≡ Some rest → (after_front front text ≡ Some rest → text ≡ front ++ rest) → other ∷ text ≡ byte ∷ (front ++ rest)
    go true same gives later = let b : byte ≡ other = grind (arith, nat_tests) in let t : text ≡ front ++ rest = later gives in cc
    go false same gives later = absurd (cc)

-- ---- numbers

leads_no_zero : (n : ℕ) (text : List ℕ) → text ≡ decimal n → n < 2 ^ 64 → leads_zero text ≡ false
leads_no_zero n [] is small = refl
leads_no_zero n (byte ∷ []) is small = refl
leads_no_zero n (byte ∷ next ∷ bytes) is small = go n is small
  where
    go : (n : ℕ) → byte ∷ next ∷ bytes ≡ decimal n → n < 2 ^ 64 → (byte == 48) ≡ false
    go zero same fits = absurd (let e = ap length (same ∙ decimal_digit 0 (omega arith)) in omega (arith, e))
    go (suc m) same fits =
        let first : 48 < get_or (decimal (suc m)) 0 0 = first_decimal (suc m) (omega arith) fits in
        let there : 48 < byte = subst (λ (t : List ℕ). 48 < get_or t 0 0) (sym same) first in
        ne_eqb byte 48 (λ is. omega (arith, there, is))

pub decimal_of-decimal : (n : ℕ) → n < 2 ^ 64 → decimal_of (decimal n) ≡ Some n
decimal_of-decimal n small = rw (leads_no_zero n (decimal n) refl small) (number_of-decimal n small)

-- digits are a number's
numeral : IsNumeralModel (λ (ds : List ℕ). all_ascii_digits ds ≡ true) (digits_value 10)
numeral = numerals_by_value (λ (ds : List ℕ). all_ascii_digits ds ≡ true) (search rules)

one_zero : (text : List ℕ) → leads_zero text ≡ false → 0 < length text → get_or text 0 0 ≡ 48 → length text ≡ 1
one_zero [] none some is = absurd (omega arith)
one_zero (byte ∷ []) none some is = refl
one_zero (byte ∷ next ∷ bytes) none some is = absurd (let e : (byte == 48) ≡ true = eq-eqb byte 48 is in cc)

number_text : (text : List ℕ) (n : ℕ) → leads_zero text ≡ false → number_of text ≡ Some n → (text ≡ decimal n) × (n < 2 ^ 64)
number_text text n none is = go (is_numeral text && nat_lt (digits_value 10 text) (2 ^ 64)) refl is
  where
    go : (test : Bool) → (is_numeral text && nat_lt (digits_value 10 text) (2 ^ 64)) ≡ test → (if test then Some (digits_value 10 text) else None) ≡ Some n → (text ≡ decimal n) × (n < 2 ^ 64)
    go false holds gives = absurd (cc)
    go true holds gives =
        let both = and_parts (is_numeral text) (nat_lt (digits_value 10 text) (2 ^ 64)) holds in
        let digits = and_parts (nat_le 1 (length text) && nat_le (length text) 20) (all_ascii_digits text) both.0 in
        let sizes = and_parts (nat_le 1 (length text)) (nat_le (length text) 20) digits.0 in
        let some : 0 < length text = grind (arith, nat_tests) in
        let low : digits_value 10 text < 2 ^ 64 = grind (arith, nat_tests) in
        let value : digits_value 10 text ≡ n = cc in (
          sym (decimal-digits_value numeral text digits.1 some (one_zero text none some) low) ∙ ap decimal value,
          subst (λ (m : ℕ). m < 2 ^ 64) value low,
        )

pub decimal_of-some : (text : List ℕ) (n : ℕ) → decimal_of text ≡ Some n → (text ≡ decimal n) × (n < 2 ^ 64)
decimal_of-some text n is = go (leads_zero text) refl is
  where
    go : (zeros : Bool) → leads_zero text ≡ zeros → (if zeros then None else number_of text) ≡ Some n → (text ≡ decimal n) × (n < 2 ^ 64)
    go true some gives = absurd (cc)
    go false none gives = number_text text n none gives
