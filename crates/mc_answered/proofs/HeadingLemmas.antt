-- The first line of an item is read back, and what is read is the line.
use Rattle.std.proofs.Common.{◌≡◌, ℕ, ◌<◌, ◌^◌, Bool, true, false, List, [], ◌∷◌, ◌++◌, length, refl, ap, sym, ◌∙◌, subst, arith, append_assoc}
use Rattle.std.specs.Prelude.{nat_lt, if◌then◌else◌, codes, decimal, Option, None, Some}
use Rattle.std.specs.Option.{option_and_then}
use Rattle.std.specs.Str.{bytes_eq}
use Rattle.std.proofs.lemmas.Bool.Decides.{nat_tests}
use Rattle.std.proofs.lemmas.Slice.Eq.{bytes_eq-Decides}
use Rattle.mc_reply.specs.Text.{item_line}
use Rattle.mc_answers.specs.Cut.{IsWord}
use Rattle.mc_answered.specs.Reading.{after_front, Halves, halves_at, is_not, decimal_of, Heading, heading_with, number_before, unique_of, length_stop}
use Rattle.mc_answered.specs.Reading.{heading_counted, heading_flagged, heading_named, heading_after, heading_of}
use Rattle.mc_answers.proofs.NumberLemmas.{is_digit, digits_pass, pass_less}
use Rattle.mc_answered.proofs.ReadingLemmas.{after_front-some, halves_at-is, halves_at-some, decimal_of-decimal, decimal_of-some}

-- ---- from an item to its heading

digit_is_not : (stop : ℕ) → (stop < 48) → (byte : ℕ) → is_digit byte ≡ true → is_not stop byte ≡ true
digit_is_not stop low byte is = grind (arith, nat_tests)

-- a number ends where a byte below the digits stands
pub number_halves : (stop n : ℕ) (rest : List ℕ) → stop < 48 → halves_at stop (decimal n ++ stop ∷ rest) ≡ Some (record { front = decimal n; rest = rest })
number_halves stop n rest low = halves_at-is stop (decimal n) rest (pass_less is_digit (is_not stop) (digit_is_not stop low) (decimal n) (digits_pass n))

-- the unique that the first line of an item shows, or 0
abbrev pub unique_shown : Bool → ℕ → ℕ
unique_shown true unique = unique
unique_shown false unique = 0

-- the text after the length of the value
abbrev pub end_text : Bool → ℕ → List ℕ
end_text true unique = decimal unique ++ (13 ∷ 10 ∷ [])
end_text false unique = 10 ∷ []

abbrev pub item_heading : ℕ → List ℕ → ℕ → ℕ → Heading
item_heading flags key count unique = record { key = key; flags = flags; count = count; unique = unique }

unique_read : (asked : Bool) (unique : ℕ) → unique < 2 ^ 64 → unique_of asked (end_text asked unique) ≡ Some (unique_shown asked unique)
unique_read true unique small = rw (number_halves 13 unique (10 ∷ []) (omega arith)) (decimal_of-decimal unique small)
unique_read false unique small = refl

with_read : (key : List ℕ) (flags count unique : ℕ) → flags < 2 ^ 32 → heading_with key (Some flags) (Some count) (Some unique) ≡ Some (item_heading flags key count unique)
with_read key flags count unique few = let e : nat_lt flags (2 ^ 32) ≡ true = grind (arith, nat_tests) in rw e refl

stop_low : (asked : Bool) → length_stop asked < 48
stop_low true = omega arith
stop_low false = omega arith

numbers_read : (asked : Bool) (key : List ℕ) (flags count unique : ℕ) → flags < 2 ^ 32 → count < 2 ^ 64 → unique < 2 ^ 64
    → heading_flagged asked key (record { front = decimal flags; rest = decimal count ++ length_stop asked ∷ end_text asked unique }) ≡ Some (item_heading flags key count (unique_shown asked unique))
numbers_read asked key flags count unique few fits small =
    rw (number_halves (length_stop asked) count (end_text asked unique) (stop_low asked))
    (rw (decimal_of-decimal flags (omega (arith, few))) (rw (decimal_of-decimal count fits) (rw (unique_read asked unique small) (with_read key flags count (unique_shown asked unique) few))))

-- the parts of the first line of an item
pub line_parts : (asked : Bool) (key : List ℕ) (flags unique : ℕ) (value : List ℕ)
    → item_line asked key flags unique value ≡ codes "VALUE " ++ (key ++ 32 ∷ (decimal flags ++ 32 ∷ (decimal (length value) ++ length_stop asked ∷ end_text asked unique)))
line_parts true key flags unique value = parts_true (codes "VALUE ") key (codes " ") (decimal flags) (codes " ") (decimal (length value)) (codes " ") (decimal unique) (codes "\r\n")
  where
    parts_true : (a k b f c n d u e : List ℕ) → ((a ++ k ++ b ++ f ++ c ++ n) ++ (d ++ u)) ++ e ≡ a ++ (k ++ (b ++ (f ++ (c ++ (n ++ (d ++ (u ++ e)))))))
    parts_true a k b f c n d u e = simp append_assoc
line_parts false key flags unique value = parts_false (codes "VALUE ") key (codes " ") (decimal flags) (codes " ") (decimal (length value)) (codes "\r\n")
  where
    parts_false : (a k b f c n e : List ℕ) → (a ++ k ++ b ++ f ++ c ++ n) ++ e ≡ a ++ (k ++ (b ++ (f ++ (c ++ (n ++ e)))))
    parts_false a k b f c n e = simp append_assoc

-- the heading of an item is read back
pub heading_of-item : (asked : Bool) (key : List ℕ) (flags unique : ℕ) (value : List ℕ) → IsWord key → flags < 2 ^ 32 → length value < 2 ^ 64 → unique < 2 ^ 64
    → heading_of asked (item_line asked key flags unique value) ≡ Some (item_heading flags key (length value) (unique_shown asked unique))
heading_of-item asked key flags unique value named few fits small =
    rw (line_parts asked key flags unique value)
    (
    rw (halves_at-is 32 key (decimal flags ++ 32 ∷ (decimal (length value) ++ length_stop asked ∷ end_text asked unique)) named)
    (
    rw (number_halves 32 flags (decimal (length value) ++ length_stop asked ∷ end_text asked unique) (omega arith))
    (numbers_read asked key flags (length value) unique few fits small)
    )
    )

-- ---- from a line to the item whose heading it is

pub record Found {A B : Type 0} (f : A → Option B) (o : Option A) (y : B) : Type 0 where
  pub x : A
  pub there : o ≡ Some x
  pub gives : f x ≡ Some y

pub and_then-some : {A B : Type 0} (f : A → Option B) (o : Option A) (y : B) → option_and_then f o ≡ Some y → Found f o y
and_then-some f None y is = absurd (cc)
and_then-some f (Some x) y is = record { x = x; there = refl; gives = is }

-- the parts of a heading
record With (key : List ℕ) (flags count unique : Option ℕ) (h : Heading) : Type 0 where
  flags_is : flags ≡ Some h.flags
  count_is : count ≡ Some h.count
  unique_is : unique ≡ Some h.unique
  key_is : key ≡ h.key
  few : h.flags < 2 ^ 32

with-some : (key : List ℕ) (flags count unique : Option ℕ) (h : Heading) → heading_with key flags count unique ≡ Some h → With key flags count unique h
with-some key (Some flags) (Some count) (Some unique) h is = go (nat_lt flags (2 ^ 32)) refl is
  where
    go : (test : Bool) → nat_lt flags (2 ^ 32) ≡ test → (if test then Some (record { key = key; flags = flags; count = count; unique = unique }) else None) ≡ Some h
        → With key (Some flags) (Some count) (Some unique) h
    go true low same =
        let e : record { key = key; flags = flags; count = count; unique = unique } ≡ h = cc in
        subst (With key (Some flags) (Some count) (Some unique)) e (record { flags_is = refl; count_is = refl; unique_is = refl; key_is = refl; few = grind (arith, nat_tests) })
    go false low same = absurd (cc)
with-some key None count unique h is = absurd (cc)
with-some key (Some flags) None unique h is = absurd (cc)
with-some key (Some flags) (Some count) None h is = absurd (cc)

-- the end of the line, with its unique
record Ends (asked : Bool) (text : List ℕ) (unique : ℕ) : Type 0 where
  is : text ≡ end_text asked unique
  small : unique < 2 ^ 64

ends_before : (h : Halves) (text : List ℕ) (unique : ℕ) → text ≡ h.front ++ 13 ∷ h.rest → (test : Bool) → bytes_eq h.rest (10 ∷ []) ≡ test → (if test then decimal_of h.front else None) ≡ Some unique → Ends true text unique
ends_before h text unique is true same gives =
    let number = decimal_of-some h.front unique gives in
    let rest : h.rest ≡ 10 ∷ [] = (bytes_eq-Decides h.rest (10 ∷ [])).0 same in
    record { is = is ∙ ap (λ (t : List ℕ). h.front ++ 13 ∷ t) rest ∙ ap (λ (t : List ℕ). t ++ (13 ∷ 10 ∷ [])) number.0; small = number.1 }
ends_before h text unique is false same gives = absurd (cc)

ends_false : (text : List ℕ) (unique : ℕ) → (test : Bool) → bytes_eq text (10 ∷ []) ≡ test → (if test then Some 0 else None) ≡ Some unique → Ends false text unique
ends_false text unique true same gives = let e : 0 ≡ unique = cc in record { is = (bytes_eq-Decides text (10 ∷ [])).0 same; small = subst (λ (n : ℕ). n < 2 ^ 64) e (omega arith) }
ends_false text unique false same gives = absurd (cc)

unique_ends : (asked : Bool) (text : List ℕ) (unique : ℕ) → unique_of asked text ≡ Some unique → Ends asked text unique
unique_ends true text unique is =
    let found = and_then-some number_before (halves_at 13 text) unique is in
    ends_before found.x text unique (halves_at-some 13 text found.x found.there).is (bytes_eq found.x.rest (10 ∷ [])) refl found.gives
unique_ends false text unique is = ends_false text unique (bytes_eq text (10 ∷ [])) refl is

-- the line of a heading
pub record IsHeading (asked : Bool) (line : List ℕ) (h : Heading) : Type 0 where
  pub named : IsWord h.key
  pub few : h.flags < 2 ^ 32
  pub fits : h.count < 2 ^ 64
  pub small : h.unique < 2 ^ 64
  pub is : line ≡ codes "VALUE " ++ (h.key ++ 32 ∷ (decimal h.flags ++ 32 ∷ (decimal h.count ++ length_stop asked ∷ end_text asked h.unique)))

-- what is read is the heading of the line
pub heading_of-some : (asked : Bool) (line : List ℕ) (h : Heading) → heading_of asked line ≡ Some h → IsHeading asked line h
heading_of-some asked line h is =
    let after = and_then-some (heading_after asked) (after_front (codes "VALUE ") line) h is in
    let named = and_then-some (heading_named asked) (halves_at 32 after.x) h after.gives in
    let flagged = and_then-some (heading_flagged asked named.x.front) (halves_at 32 named.x.rest) h named.gives in
    let counted = and_then-some (heading_counted asked named.x.front flagged.x.front) (halves_at (length_stop asked) flagged.x.rest) h flagged.gives in
    let all = with-some named.x.front (decimal_of flagged.x.front) (decimal_of counted.x.front) (unique_of asked counted.x.rest) h counted.gives in
    let name = halves_at-some 32 after.x named.x named.there in
    let flag = halves_at-some 32 named.x.rest flagged.x flagged.there in
    let count = halves_at-some (length_stop asked) flagged.x.rest counted.x counted.there in
    let flags = decimal_of-some flagged.x.front h.flags all.flags_is in
    let number = decimal_of-some counted.x.front h.count all.count_is in
    let ends = unique_ends asked counted.x.rest h.unique all.unique_is in
    record {
      named = subst IsWord all.key_is name.none;
      few = all.few;
      fits = number.1;
      small = ends.small;
      is = after_front-some (codes "VALUE ") line after.x after.there
          ∙ ap (λ (t : List ℕ). codes "VALUE " ++ t)
          (
          name.is ∙ ap (λ (t : List ℕ). t ++ 32 ∷ named.x.rest) all.key_is
          ∙ ap (λ (t : List ℕ). h.key ++ 32 ∷ t)
          (
          flag.is ∙ ap (λ (t : List ℕ). t ++ 32 ∷ flagged.x.rest) flags.0
          ∙ ap (λ (t : List ℕ). decimal h.flags ++ 32 ∷ t)
          (count.is ∙ ap (λ (t : List ℕ). t ++ length_stop asked ∷ counted.x.rest) number.0 ∙ ap (λ (t : List ℕ). decimal h.count ++ length_stop asked ∷ t) ends.is)
          )
          );
    }

-- so it is the first line of each item with these parts
pub heading_line : (asked : Bool) (line : List ℕ) (h : Heading) (value : List ℕ) → IsHeading asked line h → length value ≡ h.count → line ≡ item_line asked h.key h.flags h.unique value
heading_line asked line h value is long =
    is.is
    ∙ ap (λ (n : ℕ). codes "VALUE " ++ (h.key ++ 32 ∷ (decimal h.flags ++ 32 ∷ (decimal n ++ length_stop asked ∷ end_text asked h.unique)))) (sym long)
    ∙ sym (line_parts asked h.key h.flags h.unique value)
