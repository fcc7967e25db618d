-- What is found of texts one after another, and of items in their order and in any order.
use Rattle.std.proofs.Common.{rules, ◌≡◌, ℕ, zero, suc, ◌+◌, ◌<◌, ◌≤◌, Bool, true, false, List, [], ◌∷◌, ◌++◌, length, map, take, drop, get_or, refl, ap, sym, ◌∙◌, subst, append_assoc, arith}
use Rattle.std.proofs.lemmas.Bool.Decides.{nat_tests}
use Rattle.std.specs.Prelude.{◌==◌, IsPermutation, codes, Some}
use Rattle.std.specs.List.{concat, AllByRecursion, slice_index_or, remove}
use Rattle.std.proofs.lemmas.List.{append-nil, drop_more, take-append-drop, length-take-le, length-append}
use Rattle.std.proofs.lemmas.List.Sorted.{IsPermutation-refl, IsPermutation-map, IsPermutation-more, All-permutation}
use Rattle.mc_calls.specs.declared.call.Call.TheVariants.{Get}
use Rattle.mc_calls.specs.declared.call_reply.CallReply.TheVariants.{Hit, Flushed}
use Rattle.mc_reply.specs.Text.{line, item_line, item_text}
use Rattle.mc_allows.specs.declared.said.Said.{Said}
use Rattle.mc_allows.specs.declared.said.Said.TheVariants.{Replied, Failed}
use Rattle.mc_answers.specs.Answer.{found_items, IsListing}
use Rattle.mc_answers.specs.Said.{AreGot, AreFlushed, MaySay}
use Rattle.mc_answers.proofs.AnswerLemmas.{by_index, by_recursion}
use Rattle.mc_answered.specs.Reading.{Heading, heading_of}
use Rattle.mc_answered.specs.With.{IsHeadingOf, said_item, said_items, item_at, found_from, IsNext, IsBelow}
use Rattle.mc_answered.proofs.HeadingLemmas.{heading_of-some, heading_line}
use Rattle.mc_answered.proofs.TextLemmas.{begins, begins_within}

-- ---- two texts

pub record FoundBoth (bytes : List ℕ) (n : ℕ) (text : List ℕ) : Type 0 where
  pub low : n ≤ length bytes
  pub is : take n bytes ≡ text

pub found_two : (bytes : List ℕ) (n m : ℕ) (a b rest : List ℕ) → n ≤ length bytes → take n bytes ≡ a → rest ≡ drop n bytes → m ≤ length rest → take m rest ≡ b → FoundBoth bytes (n + m) (a ++ b)
found_two bytes n m a b rest low is after low_too is_too =
    let first : bytes ≡ a ++ rest = sym (take-append-drop n bytes) ∙ ap (λ (t : List ℕ). t ++ drop n bytes) is ∙ ap (λ (t : List ℕ). a ++ t) (sym after) in
    let second : rest ≡ b ++ drop m rest = sym (take-append-drop m rest) ∙ ap (λ (t : List ℕ). t ++ drop m rest) is_too in
    let whole : bytes ≡ (a ++ b) ++ drop m rest = first ∙ ap (λ (t : List ℕ). a ++ t) second ∙ sym (append_assoc a b (drop m rest)) in
    let front : length a ≡ n = sym (ap length is) ∙ length-take-le n bytes low in
    let back : length b ≡ m = sym (ap length is_too) ∙ length-take-le m rest low_too in
    let both : length (a ++ b) ≡ length a + length b = length-append a b in
    let long : length (a ++ b) ≡ n + m = omega (arith, both, front, back) in
    record {
      low = subst (λ (k : ℕ). k ≤ length bytes) long (begins_within bytes (a ++ b) (drop m rest) whole);
      is = subst (λ (k : ℕ). take k bytes ≡ a ++ b) long (begins bytes (a ++ b) (drop m rest) whole);
    }

-- ---- an item

unique_line : (asked : Bool) (key : List ℕ) (flags m n : ℕ) (value : List ℕ) → (asked ≡ true → m ≡ n) → item_line asked key flags m value ≡ item_line asked key flags n value
unique_line true key flags m n value same = ap (λ (u : ℕ). item_line true key flags u value) (same refl)
unique_line false key flags m n value same = refl

pub headed_line : (asked : Bool) (key : List ℕ) (flags unique : ℕ) (value text : List ℕ) (h : Heading) → heading_of asked text ≡ Some h → IsHeadingOf asked key flags unique value h
    → text ≡ item_line asked key flags unique value
headed_line asked key flags unique value text h there of =
    heading_line asked text h value (heading_of-some asked text h there) (sym of.count_is)
    ∙ ap (λ (k : List ℕ). item_line asked k h.flags h.unique value) of.key_is
    ∙ ap (λ (f : ℕ). item_line asked key f h.unique value) of.flags_is
    ∙ unique_line asked key flags h.unique unique value of.unique_is

-- ---- items in the order of the keys

pub said_next : (asked : Bool) (keys : List (List ℕ)) (saids : List Said) (i : ℕ) (key : List ℕ) (said : Said) → i < length keys → i < length saids → key ≡ get_or keys i key → said ≡ get_or saids i said
    → said_items asked (drop i keys) (drop i saids) ≡ said_item asked key said ++ said_items asked (drop (i + 1) keys) (drop (i + 1) saids)
said_next asked keys saids i key said low low_too key_is said_is =
    let rest = said_items asked (drop (i + 1) keys) (drop (i + 1) saids) in
    rw (drop_more keys i key low)
    (
    rw (drop_more saids i said low_too)
    (
    ap (λ (k : List ℕ). said_item asked k (get_or saids i said) ++ rest) (sym key_is)
    ∙ ap (λ (s : Said). said_item asked key s ++ rest) (sym said_is)
    )
    )

pub got_next : (keys : List (List ℕ)) (saids : List Said) (i : ℕ) (key : List ℕ) (said : Said) → i < length keys → i < length saids → said ≡ get_or saids i said → MaySay (Get (get_or keys i key)) said
    → AreGot (drop (i + 1) keys) (drop (i + 1) saids) → AreGot (drop i keys) (drop i saids)
got_next keys saids i key said low low_too is may rest = rw (drop_more keys i key low) (rw (drop_more saids i said low_too) (subst (MaySay (Get (get_or keys i key))) is may, rest))

pub items_joined : (asked : Bool) (keys : List (List ℕ)) (saids : List Said) → concat (found_items asked keys saids) ≡ said_items asked keys saids
items_joined asked [] [] = refl
items_joined asked [] (said ∷ saids) = refl
items_joined asked (key ∷ keys) [] = refl
items_joined asked (key ∷ keys) (Replied (Hit flags unique value) ∷ saids) = ap (λ (t : List ℕ). item_text asked key (Hit flags unique value) ++ t) (items_joined asked keys saids)
items_joined asked (key ∷ keys) (Replied reply ∷ saids) = items_joined asked keys saids
items_joined asked (key ∷ keys) (Failed ∷ saids) = items_joined asked keys saids

pub listed : (asked : Bool) (keys : List (List ℕ)) (saids : List Said) (bytes : List ℕ) (n : ℕ) → FoundBoth bytes n (said_items asked keys saids ++ line (codes "END")) → IsListing (found_items asked keys saids) (take n bytes)
listed asked keys saids bytes n found = record {
  items = found_items asked keys saids;
  order = IsPermutation-refl (found_items asked keys saids);
  is = found.is ∙ ap (λ (t : List ℕ). t ++ line (codes "END")) (sym (items_joined asked keys saids));
}

-- ---- items by their indices

found_shift : (i j : ℕ) (saids : List Said) → j ≡ suc i → found_from j saids ≡ map suc (found_from i saids)
found_shift i j [] is = refl
found_shift i j (Replied (Hit flags unique value) ∷ saids) is = let rest = found_shift (i + 1) (j + 1) saids (omega (arith, is)) in let head : j ≡ suc i = is in cc
found_shift i j (Replied reply ∷ saids) is = found_shift (i + 1) (j + 1) saids (omega (arith, is))
found_shift i j (Failed ∷ saids) is = found_shift (i + 1) (j + 1) saids (omega (arith, is))

map_shift : (asked : Bool) (key : List ℕ) (keys : List (List ℕ)) (said : Said) (saids : List Said) (xs : List ℕ)
    → map (item_at asked (key ∷ keys) (said ∷ saids)) (map suc xs) ≡ map (item_at asked keys saids) xs
map_shift asked key keys said saids [] = refl
map_shift asked key keys said saids (x ∷ xs) = ap (λ (t : List (List ℕ)). item_at asked keys saids x ∷ t) (map_shift asked key keys said saids xs)

later_map : (asked : Bool) (key : List ℕ) (keys : List (List ℕ)) (said : Said) (saids : List Said)
    → map (item_at asked (key ∷ keys) (said ∷ saids)) (found_from 1 saids) ≡ map (item_at asked keys saids) (found_from 0 saids)
later_map asked key keys said saids =
    ap (λ (xs : List ℕ). map (item_at asked (key ∷ keys) (said ∷ saids)) xs) (found_shift 0 1 saids refl) ∙ map_shift asked key keys said saids (found_from 0 saids)

-- the items that were found are those with these indices
pub found_map : (asked : Bool) (keys : List (List ℕ)) (saids : List Said) → AreGot keys saids → found_items asked keys saids ≡ map (item_at asked keys saids) (found_from 0 saids)
found_map asked [] [] got = refl
found_map asked [] (said ∷ saids) got = absurd got
found_map asked (key ∷ keys) [] got = absurd got
found_map asked (key ∷ keys) (Replied (Hit flags unique value) ∷ saids) got =
    ap (λ (t : List (List ℕ)). item_text asked key (Hit flags unique value) ∷ t)
    (found_map asked keys saids got.1 ∙ sym (later_map asked key keys (Replied (Hit flags unique value)) saids))
found_map asked (key ∷ keys) (Replied reply ∷ saids) got = found_map asked keys saids got.1 ∙ sym (later_map asked key keys (Replied reply) saids)
found_map asked (key ∷ keys) (Failed ∷ saids) got = found_map asked keys saids got.1 ∙ sym (later_map asked key keys Failed saids)

indices_below : (i n : ℕ) (saids : List Said) → i + length saids ≡ n → AllByRecursion (IsBelow n) (found_from i saids)
indices_below i n [] is = tt
indices_below i n (Replied (Hit flags unique value) ∷ saids) is = (omega (arith, is), indices_below (i + 1) n saids (omega (arith, is)))
indices_below i n (Replied reply ∷ saids) is = indices_below (i + 1) n saids (omega (arith, is))
indices_below i n (Failed ∷ saids) is = indices_below (i + 1) n saids (omega (arith, is))

later_all : {X : Type 0} (P : X → Type 0) (xs ys : List X) → AllByRecursion P (xs ++ ys) → AllByRecursion P ys
later_all P [] ys each = each
later_all P (x ∷ xs) ys each = later_all P xs ys each.1

-- ---- items in any order

-- the items so far are some of those that were found, and the others are left
pub record AreTaken (asked : Bool) (keys : List (List ℕ)) (saids : List Said) (bytes : List ℕ) (left : List ℕ) (at : ℕ) : Type 0 where
  pub done : List ℕ
  pub order : IsPermutation (found_from 0 saids) (done ++ left)
  pub is : take at bytes ≡ concat (map (item_at asked keys saids) done)
  pub low : at ≤ length bytes

pub left_below : (asked : Bool) (keys : List (List ℕ)) (saids : List Said) (bytes left : List ℕ) (at : ℕ) → AreTaken asked keys saids bytes left at → AllByRecursion (IsBelow (length saids)) left
left_below asked keys saids bytes left at taken =
    later_all (IsBelow (length saids)) taken.done left
    (
    by_recursion (IsBelow (length saids)) (taken.done ++ left)
    (All-permutation (IsBelow (length saids)) (found_from 0 saids) (taken.done ++ left) taken.order (by_index (IsBelow (length saids)) (found_from 0 saids) (indices_below 0 (length saids) saids (omega arith))))
    )

joined_push : (f : ℕ → List ℕ) (xs : List ℕ) (x : ℕ) → concat (map f (xs ++ x ∷ [])) ≡ concat (map f xs) ++ f x
joined_push f [] x = append-nil (f x)
joined_push f (y ∷ xs) x = ap (λ (t : List ℕ). f y ++ t) (joined_push f xs x) ∙ sym (append_assoc (f y) (concat (map f xs)) (f x))

pub more_taken : (asked : Bool) (keys : List (List ℕ)) (saids : List Said) (bytes left rest others : List ℕ) (at place n : ℕ) → AreTaken asked keys saids bytes left at → rest ≡ drop at bytes
    → IsNext asked keys saids left rest place n → others ≡ remove left place → AreTaken asked keys saids bytes others (at + n)
more_taken asked keys saids bytes left rest others at place n taken after next is =
    let x = slice_index_or left place 0 in
    let both = found_two bytes at n (concat (map (item_at asked keys saids) taken.done)) (item_at asked keys saids x) rest taken.low taken.is after next.1 next.2 in
    record {
      done = taken.done ++ x ∷ [];
      order = subst (λ (l : List ℕ). IsPermutation (found_from 0 saids) ((taken.done ++ x ∷ []) ++ l)) (sym is)
          (IsPermutation-more (found_from 0 saids) taken.done left place x next.0 (search (rules)) taken.order);
      is = both.is ∙ sym (joined_push (item_at asked keys saids) taken.done x);
      low = both.low;
    }

pub all_taken : (asked : Bool) (keys : List (List ℕ)) (saids : List Said) (bytes left rest : List ℕ) (at n : ℕ) → AreGot keys saids → AreTaken asked keys saids bytes left at → left ≡ [] → rest ≡ drop at bytes
    → n ≤ length rest → take n rest ≡ line (codes "END") → (at + n ≤ length bytes) × IsListing (found_items asked keys saids) (take (at + n) bytes)
all_taken asked keys saids bytes left rest at n got taken none after low is =
    let f = item_at asked keys saids in
    let both = found_two bytes at n (concat (map f taken.done)) (line (codes "END")) rest taken.low taken.is after low is in
    let order : IsPermutation (found_from 0 saids) taken.done = subst (λ (l : List ℕ). IsPermutation (found_from 0 saids) l) (ap (λ (l : List ℕ). taken.done ++ l) none ∙ append-nil taken.done) taken.order in (
      both.low,
      record {
        items = map f taken.done;
        order = subst (λ (l : List (List ℕ)). IsPermutation l (map f taken.done)) (sym (found_map asked keys saids got)) (IsPermutation-map f (found_from 0 saids) taken.done order);
        is = both.is;
      },
    )

-- ---- by index

pub item_at-is : (asked : Bool) (keys : List (List ℕ)) (saids : List Said) (i : ℕ) (key : List ℕ) (said : Said) → i < length keys → i < length saids → key ≡ get_or keys i key → said ≡ get_or saids i said
    → item_at asked keys saids i ≡ said_item asked key said
item_at-is asked [] saids i key said low low_too key_is said_is = absurd (omega arith)
item_at-is asked (k ∷ keys) [] i key said low low_too key_is said_is = absurd (omega arith)
item_at-is asked (k ∷ keys) (s ∷ saids) zero key said low low_too key_is said_is = ap (λ (x : List ℕ). said_item asked x s) (sym key_is) ∙ ap (said_item asked key) (sym said_is)
item_at-is asked (k ∷ keys) (s ∷ saids) (suc i) key said low low_too key_is said_is = item_at-is asked keys saids i key said (omega arith) (omega arith) key_is said_is

pub same_count : (keys : List (List ℕ)) (saids : List Said) → AreGot keys saids → length keys ≡ length saids
same_count [] [] got = refl
same_count [] (said ∷ saids) got = absurd got
same_count (key ∷ keys) [] got = absurd got
same_count (key ∷ keys) (said ∷ saids) got = let e = same_count keys saids got.1 in omega (arith, e)

pub below_at : (n : ℕ) (xs : List ℕ) (i d : ℕ) → AllByRecursion (IsBelow n) xs → i < length xs → get_or xs i d < n
below_at n [] i d each low = absurd (omega arith)
below_at n (x ∷ xs) zero d each low = each.0
below_at n (x ∷ xs) (suc i) d each low = below_at n xs i d each.1 (omega arith)

pub flushed_next : (saids : List Said) (i : ℕ) (said : Said) → i < length saids → said ≡ get_or saids i said → said ≡ Replied Flushed → AreFlushed (drop (i + 1) saids) → AreFlushed (drop i saids)
flushed_next saids i said low there is rest = rw (drop_more saids i said low) (sym there ∙ is, rest)

pub none_left : (xs : List ℕ) → (length xs == 0) ≡ true → xs ≡ []
none_left [] is = refl
none_left (x ∷ xs) is = absurd (grind (arith, nat_tests))
