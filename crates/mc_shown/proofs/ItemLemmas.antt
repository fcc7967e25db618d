-- The text of an item says its key, its flags and its value; texts of items are cut in one way.
use Rattle.std.proofs.Common.{◌≡◌, ℕ, ◌^◌, ◌<◌, ◌≤◌, Bool, true, false, List, [], ◌∷◌, ◌++◌, length, refl, ap, sym, ◌∙◌, append_assoc, arith}
use Rattle.std.specs.Prelude.{codes, decimal}
use Rattle.std.specs.List.{concat, list_all, AllByRecursion}
use Rattle.std.proofs.lemmas.Fmt.{decimal_injective}
use Rattle.std.proofs.lemmas.List.{append_cancel_left, append_cancel_right}
use Rattle.zy_base.specs.Limits.{value_limit}
use Rattle.mc_reply.specs.Text.{line, line_end, item_line}
use Rattle.mc_answers.specs.Cut.{AreCut, IsWord, is_no_space}
use Rattle.mc_answers.specs.Kinds.{IsItemText}
use Rattle.mc_answers.proofs.CutLemmas.{span_ends, stops, same_texts}
use Rattle.mc_answers.proofs.ItemLemmas.{item_cut, item_is_no_end}
use Rattle.mc_answers.proofs.NumberLemmas.{is_digit, digits_pass}
use Rattle.mc_answered.specs.Reading.{length_stop}
use Rattle.mc_answered.proofs.HeadingLemmas.{line_parts, end_text}

-- ---- the parts of an item's text

text_parts : (a k f n e v : List ℕ) (stop : ℕ) → (a ++ (k ++ 32 ∷ (f ++ 32 ∷ (n ++ stop ∷ e)))) ++ v ≡ a ++ (k ++ 32 ∷ (f ++ 32 ∷ (n ++ stop ∷ (e ++ v))))
text_parts a k f n e v stop = simp append_assoc

-- what comes after the flags
after_flags : Bool → ℕ → List ℕ → List ℕ
after_flags asked unique value = decimal (length value) ++ length_stop asked ∷ (end_text asked unique ++ line value)

item_parts : (asked : Bool) (key : List ℕ) (flags unique : ℕ) (value : List ℕ)
    → item_line asked key flags unique value ++ line value ≡ codes "VALUE " ++ (key ++ 32 ∷ (decimal flags ++ 32 ∷ after_flags asked unique value))
unfolding after_flags
item_parts asked key flags unique value =
    ap (λ (t : List ℕ). t ++ line value) (line_parts asked key flags unique value)
    ∙ text_parts (codes "VALUE ") key (decimal flags) (decimal (length value)) (end_text asked unique) (line value) (length_stop asked)

-- ---- one reading

stop_ends : (asked : Bool) (rest : List ℕ) → stops is_digit (length_stop asked ∷ rest) ≡ true
stop_ends true rest = refl
stop_ends false rest = refl

-- two spans, and what comes after the byte that ends them
record SameSpans (a b more other : List ℕ) : Type 0 where
  first : a ≡ b
  rest : more ≡ other

same_spans : (test : ℕ → Bool) (a b more other : List ℕ) (stop : ℕ) → list_all test a ≡ true → list_all test b ≡ true → stops test (stop ∷ more) ≡ true → stops test (stop ∷ other) ≡ true
    → a ++ stop ∷ more ≡ b ++ stop ∷ other → SameSpans a b more other
same_spans test a b more other stop pass pass_too ends end_too same =
    let found = span_ends test a b (stop ∷ more) (stop ∷ other) pass pass_too ends end_too same in
    record { first = found.0; rest = append_cancel_left (stop ∷ []) more other found.1 }

end_same : (asked : Bool) (m n : ℕ) (v w : List ℕ) → end_text asked m ++ line v ≡ end_text asked n ++ line w → line v ≡ line w
end_same true m n v w same =
    let found = same_spans is_digit (decimal m) (decimal n) (10 ∷ line v) (10 ∷ line w) 13 (digits_pass m) (digits_pass n) refl refl
    (sym (append_assoc (decimal m) (13 ∷ 10 ∷ []) (line v)) ∙ same ∙ append_assoc (decimal n) (13 ∷ 10 ∷ []) (line w)) in
    append_cancel_left (10 ∷ []) (line v) (line w) found.rest
end_same false m n v w same = append_cancel_left (10 ∷ []) (line v) (line w) same

-- what the texts of two items say alike
pub record SameItem (k l : List ℕ) (f g : ℕ) (v w : List ℕ) : Type 0 where
  pub key : k ≡ l
  pub flags : f ≡ g
  pub value : v ≡ w

after_same : (asked : Bool) (m n : ℕ) (v w : List ℕ) → after_flags asked m v ≡ after_flags asked n w → v ≡ w
unfolding after_flags
after_same asked m n v w same =
    let found = same_spans is_digit (decimal (length v)) (decimal (length w)) (end_text asked m ++ line v) (end_text asked n ++ line w) (length_stop asked) (digits_pass (length v)) (digits_pass (length w))
    (stop_ends asked (end_text asked m ++ line v)) (stop_ends asked (end_text asked n ++ line w)) same in
    append_cancel_right v w line_end (end_same asked m n v w found.rest)

pub same_item : (asked : Bool) (key other : List ℕ) (flags marks unique number : ℕ) (value bytes : List ℕ) → IsWord key → IsWord other → flags < 2 ^ 32 → marks < 2 ^ 32
    → item_line asked key flags unique value ++ line value ≡ item_line asked other marks number bytes ++ line bytes → SameItem key other flags marks value bytes
same_item asked key other flags marks unique number value bytes word word_too few few_too same =
    let whole = sym (item_parts asked key flags unique value) ∙ same ∙ item_parts asked other marks number bytes in
    let after = append_cancel_left (codes "VALUE ") (key ++ 32 ∷ (decimal flags ++ 32 ∷ after_flags asked unique value)) (other ++ 32 ∷ (decimal marks ++ 32 ∷ after_flags asked number bytes)) whole in
    let named = same_spans is_no_space key other (decimal flags ++ 32 ∷ after_flags asked unique value) (decimal marks ++ 32 ∷ after_flags asked number bytes) 32 word word_too refl refl after in
    let flagged = same_spans is_digit (decimal flags) (decimal marks) (after_flags asked unique value) (after_flags asked number bytes) 32 (digits_pass flags) (digits_pass marks) refl refl named.rest in
    record {
      key = named.first;
      flags = decimal_injective flags marks (omega (arith, few)) (omega (arith, few_too)) flagged.first;
      value = after_same asked unique number value bytes flagged.rest;
    }

-- ---- texts of items, whatever their keys

-- the text of an item whose key is a word
pub record IsItem (asked : Bool) (text : List ℕ) : Type 0 where
  pub key : List ℕ
  pub flags : ℕ
  pub unique : ℕ
  pub value : List ℕ
  pub word : IsWord key
  pub few : flags < 2 ^ 32
  pub small : unique < 2 ^ 64
  pub fits : length value ≤ value_limit
  pub is : text ≡ item_line asked key flags unique value ++ line value

-- it is an item of one of two keys
first_of_keys : (asked : Bool) (text key : List ℕ) → (one : IsItem asked text) → IsItemText asked (one.key ∷ key ∷ []) text
first_of_keys asked text key one = record {
  key = one.key;
  flags = one.flags;
  unique = one.unique;
  value = one.value;
  among = (0, omega arith, refl);
  few = one.few;
  small = one.small;
  fits = one.fits;
  is = one.is;
}

second_of_keys : (asked : Bool) (text key : List ℕ) → (one : IsItem asked text) → IsItemText asked (key ∷ one.key ∷ []) text
second_of_keys asked text key one = record {
  key = one.key;
  flags = one.flags;
  unique = one.unique;
  value = one.value;
  among = (1, omega arith, refl);
  few = one.few;
  small = one.small;
  fits = one.fits;
  is = one.is;
}

pub any_item_cut : (asked : Bool) → AreCut (IsItem asked)
any_item_cut asked a b more other one two same =
    item_cut asked (one.key ∷ two.key ∷ []) (one.word, (two.word, tt)) a b more other (first_of_keys asked a two.key one) (second_of_keys asked b one.key two) same

item_no_end : (asked : Bool) (a more other : List ℕ) → IsItem asked a → a ++ more ≡ line (codes "END") ++ other → ⊥
item_no_end asked a more other one same = item_is_no_end asked (one.key ∷ one.key ∷ []) a (line (codes "END")) more other (first_of_keys asked a one.key one) refl same

-- two lists of items in front of the end are the same
pub same_items : (asked : Bool) (items others : List (List ℕ)) → AllByRecursion (IsItem asked) items → AllByRecursion (IsItem asked) others
    → concat items ++ line (codes "END") ≡ concat others ++ line (codes "END") → items ≡ others
same_items asked [] [] each too same = refl
same_items asked [] (o ∷ others) each too same =
    absurd (item_no_end asked o (concat others ++ line (codes "END")) [] too.0 (sym (append_assoc o (concat others) (line (codes "END"))) ∙ sym same))
same_items asked (i ∷ items) [] each too same =
    absurd (item_no_end asked i (concat items ++ line (codes "END")) [] each.0 (sym (append_assoc i (concat items) (line (codes "END"))) ∙ same))
same_items asked (i ∷ items) (o ∷ others) each too same =
    let whole : i ++ (concat items ++ line (codes "END")) ≡ o ++ (concat others ++ line (codes "END")) =
    sym (append_assoc i (concat items) (line (codes "END"))) ∙ same ∙ append_assoc o (concat others) (line (codes "END")) in
    let first : i ≡ o = same_texts (IsItem asked) (any_item_cut asked) i o (concat items ++ line (codes "END")) (concat others ++ line (codes "END")) each.0 too.0 whole in
    let rest : items ≡ others = same_items asked items others each.1 too.1 (any_item_cut asked i o (concat items ++ line (codes "END")) (concat others ++ line (codes "END")) each.0 too.0 whole) in
    cc
