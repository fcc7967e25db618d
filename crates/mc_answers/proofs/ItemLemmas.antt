-- The items of a retrieval are cut in one way: the first line of an item says how long its value is.
use Rattle.std.proofs.Common.{◌≡◌, ℕ, zero, suc, ◌^◌, ◌<◌, ◌≤◌, subst, Bool, true, false, List, [], ◌∷◌, ◌++◌, length, refl, ap, sym, ◌∙◌, arith, append_assoc}
use Rattle.std.specs.Prelude.{◌==◌, not, codes, decimal}
use Rattle.std.specs.List.{list_all, AllByRecursion, Contains}
use Rattle.std.proofs.lemmas.Bool.Decides.{nat_tests}
use Rattle.std.proofs.lemmas.Fmt.{decimal_injective}
use Rattle.std.proofs.lemmas.List.{append_cancel_left}
use Rattle.mc_reply.specs.Text.{line, line_end, item_line}
use Rattle.zy_base.specs.Limits.{value_limit}
use Rattle.mc_answers.specs.Cut.{AreCut, AreApart, IsWord, is_no_space}
use Rattle.mc_answers.specs.Kinds.{IsItemText, IsEndText}
use Rattle.mc_answers.proofs.CutLemmas.{span_ends, stops, same_length}
use Rattle.mc_answers.proofs.NumberLemmas.{is_digit, digits_pass}

-- ---- steps

-- what comes after two spans that the same byte ends
pub after_span : (test : ℕ → Bool) (a b more other : List ℕ) (stop : ℕ) → list_all test a ≡ true → list_all test b ≡ true → not (test stop) ≡ true
    → a ++ (stop ∷ more) ≡ b ++ (stop ∷ other) → more ≡ other
after_span test a b more other stop pass pass_too ends same =
    let rest : stop ∷ more ≡ stop ∷ other = (span_ends test a b (stop ∷ more) (stop ∷ other) pass pass_too ends ends same).1 in
    cc

-- what comes after two numbers and the same byte
pub after_number : (m n stop : ℕ) (more other : List ℕ) → not (is_digit stop) ≡ true → decimal m ++ (stop ∷ more) ≡ decimal n ++ (stop ∷ other) → more ≡ other
after_number m n stop more other ends same = after_span is_digit (decimal m) (decimal n) more other stop (digits_pass m) (digits_pass n) ends same

-- a length, what does not begin with a digit, and then as many bytes
pub record SameLength (m n : ℕ) (more other : List ℕ) : Type 0 where
  pub number : m ≡ n
  pub rest : more ≡ other

pub length_ends : (m n : ℕ) (more other : List ℕ) → m < 2 ^ 64 → n < 2 ^ 64 → stops is_digit more ≡ true → stops is_digit other ≡ true → decimal m ++ more ≡ decimal n ++ other → SameLength m n more other
length_ends m n more other small little ends end_too same =
    let found = span_ends is_digit (decimal m) (decimal n) more other (digits_pass m) (digits_pass n) ends end_too same in
    record { number = decimal_injective m n small little found.0; rest = found.1 }

-- a value and its line end
pub value_ends : (v w more other : List ℕ) → length v ≡ length w → v ++ (13 ∷ 10 ∷ more) ≡ w ++ (13 ∷ 10 ∷ other) → more ≡ other
value_ends v w more other long same =
    let rest : 13 ∷ 10 ∷ more ≡ 13 ∷ 10 ∷ other = same_length v w (13 ∷ 10 ∷ more) (13 ∷ 10 ∷ other) long same in
    cc

-- a value within its limit has a length of eight bytes
pub within : (value : List ℕ) → length value ≤ value_limit → length value < 2 ^ 64
within value few = omega (arith, few)

-- ---- one item

-- what comes after the length in the first line
after_length : Bool → ℕ → List ℕ → List ℕ
after_length true unique rest = 32 ∷ (decimal unique ++ (13 ∷ 10 ∷ rest))
after_length false unique rest = 13 ∷ 10 ∷ rest

after_length-stops : (asked : Bool) (unique : ℕ) (rest : List ℕ) → stops is_digit (after_length asked unique rest) ≡ true
unfolding after_length
after_length-stops true unique rest = refl
after_length-stops false unique rest = refl

after_length-ends : (asked : Bool) (m n : ℕ) (more other : List ℕ) → after_length asked m more ≡ after_length asked n other → more ≡ other
unfolding after_length
after_length-ends true m n more other same =
    let inner : decimal m ++ (13 ∷ 10 ∷ more) ≡ decimal n ++ (13 ∷ 10 ∷ other) = append_cancel_left (32 ∷ []) (decimal m ++ (13 ∷ 10 ∷ more)) (decimal n ++ (13 ∷ 10 ∷ other)) same in
    let rest : 10 ∷ more ≡ 10 ∷ other = after_number m n 13 (10 ∷ more) (10 ∷ other) refl inner in
    cc
after_length-ends false m n more other same = append_cancel_left (13 ∷ 10 ∷ []) more other same

after_name : Bool → ℕ → ℕ → List ℕ → List ℕ → List ℕ
after_name asked flags unique value more = decimal flags ++ (32 ∷ (decimal (length value) ++ after_length asked unique (value ++ (13 ∷ 10 ∷ more))))

parts_with : (a k b f c n d u e v w more : List ℕ)
    → (((a ++ k ++ b ++ f ++ c ++ n) ++ (d ++ u)) ++ e ++ (v ++ w)) ++ more ≡ a ++ (k ++ (b ++ (f ++ (c ++ (n ++ (d ++ (u ++ (e ++ (v ++ (w ++ more))))))))))
parts_with a k b f c n d u e v w more = simp append_assoc

parts_without : (a k b f c n e v w more : List ℕ) → ((a ++ k ++ b ++ f ++ c ++ n) ++ e ++ (v ++ w)) ++ more ≡ a ++ (k ++ (b ++ (f ++ (c ++ (n ++ (e ++ (v ++ (w ++ more))))))))
parts_without a k b f c n e v w more = simp append_assoc

item_shape : (asked : Bool) (key : List ℕ) (flags unique : ℕ) (value more : List ℕ)
    → (item_line asked key flags unique value ++ line value) ++ more ≡ codes "VALUE " ++ (key ++ (32 ∷ after_name asked flags unique value more))
unfolding after_length after_name
item_shape true key flags unique value more =
    parts_with (codes "VALUE ") key (codes " ") (decimal flags) (codes " ") (decimal (length value)) (codes " ") (decimal unique) line_end value line_end more
item_shape false key flags unique value more =
    parts_without (codes "VALUE ") key (codes " ") (decimal flags) (codes " ") (decimal (length value)) line_end value line_end more

name_ends : (asked : Bool) (f g u w : ℕ) (v x more other : List ℕ) → length v < 2 ^ 64 → length x < 2 ^ 64
    → after_name asked f u v more ≡ after_name asked g w x other → more ≡ other
unfolding after_name
name_ends asked f g u w v x more other v_small x_small same =
    let sizes = after_number f g 32 (decimal (length v) ++ after_length asked u (v ++ (13 ∷ 10 ∷ more))) (decimal (length x) ++ after_length asked w (x ++ (13 ∷ 10 ∷ other))) refl same in
    let found = length_ends (length v) (length x) (after_length asked u (v ++ (13 ∷ 10 ∷ more))) (after_length asked w (x ++ (13 ∷ 10 ∷ other))) v_small x_small
    (after_length-stops asked u (v ++ (13 ∷ 10 ∷ more))) (after_length-stops asked w (x ++ (13 ∷ 10 ∷ other))) sizes in
    value_ends v x more other found.number (after_length-ends asked u w (v ++ (13 ∷ 10 ∷ more)) (x ++ (13 ∷ 10 ∷ other)) found.rest)

-- each of some words is a word
word_among : (keys : List (List ℕ)) → AllByRecursion IsWord keys → (key : List ℕ) → Contains keys key → IsWord key
word_among [] words key (k, low, is) = absurd (omega arith)
word_among (first ∷ keys) words key (zero, low, is) = subst IsWord is words.0
word_among (first ∷ keys) words key (suc k, low, is) = word_among keys words.1 key (k, omega arith, is)

pub item_cut : (asked : Bool) (keys : List (List ℕ)) → AllByRecursion IsWord keys → AreCut (IsItemText asked keys)
item_cut asked keys words a b more other one two same =
    let whole = sym (item_shape asked one.key one.flags one.unique one.value more) ∙ ap (λ (t : List ℕ). t ++ more) (sym one.is) ∙ same ∙ ap (λ (t : List ℕ). t ++ other) two.is
    ∙ item_shape asked two.key two.flags two.unique two.value other in
    let named = append_cancel_left (codes "VALUE ") (one.key ++ (32 ∷ after_name asked one.flags one.unique one.value more)) (two.key ++ (32 ∷ after_name asked two.flags two.unique two.value other)) whole in
    name_ends asked one.flags two.flags one.unique two.unique one.value two.value more other (within one.value one.fits) (within two.value two.fits)
    (
    after_span is_no_space one.key two.key (after_name asked one.flags one.unique one.value more) (after_name asked two.flags two.unique two.value other) 32
    (word_among keys words one.key one.among) (word_among keys words two.key two.among) refl named
    )

-- ---- the end

pub end_cut : AreCut IsEndText
end_cut a b more other one two same =
    append_cancel_left (line (codes "END")) more other (ap (λ (t : List ℕ). t ++ more) (sym one) ∙ same ∙ ap (λ (t : List ℕ). t ++ other) two)

pub heads_differ : (m n : ℕ) (a b : List ℕ) → (m == n) ≡ false → m ∷ a ≡ n ∷ b → ⊥
heads_differ m n a b other same = let head : m ≡ n = cc in grind (arith, nat_tests)

first_letters : (x y : List ℕ) → codes "VALUE " ++ x ≡ codes "END" ++ y → ⊥
first_letters x y same = heads_differ 86 69 (codes "ALUE " ++ x) (codes "ND" ++ y) refl same

pub item_is_no_end : (asked : Bool) (keys : List (List ℕ)) → AreApart (IsItemText asked keys) IsEndText
item_is_no_end asked keys a b more other one two same =
    first_letters (one.key ++ (32 ∷ after_name asked one.flags one.unique one.value more)) (13 ∷ 10 ∷ other)
    (sym (item_shape asked one.key one.flags one.unique one.value more) ∙ ap (λ (t : List ℕ). t ++ more) (sym one.is) ∙ same ∙ ap (λ (t : List ℕ). t ++ other) two)

-- an item begins with a `V`
pub item_begins : (asked : Bool) (keys : List (List ℕ)) (a : List ℕ) → IsItemText asked keys a → (more : List ℕ) → (rest : List ℕ) × (a ++ more ≡ 86 ∷ rest)
item_begins asked keys a one more = (
  codes "ALUE " ++ (one.key ++ (32 ∷ after_name asked one.flags one.unique one.value more)),
  ap (λ (t : List ℕ). t ++ more) one.is ∙ item_shape asked one.key one.flags one.unique one.value more,
)
