-- What the listed items show of what was said to the get of each key.
use Rattle.std.proofs.Common.{◌≡◌, ◌⊎◌, ℕ, zero, suc, ◌^◌, ◌<◌, ◌≤◌, Bool, List, [], ◌∷◌, ◌++◌, length, map, refl, ap, sym, ◌∙◌, subst, inl, inr, arith}
use Rattle.std.specs.Prelude.{slice_get, Some, IsPermutation}
use Rattle.std.specs.List.{AllByRecursion, Contains}
use Rattle.std.proofs.lemmas.List.Sorted.{Contains-permutation, IsPermutation-sym, All-permutation}
use Rattle.zy_base.specs.Limits.{value_limit}
use Rattle.mc_calls.specs.declared.call.Call.TheVariants.{Get}
use Rattle.mc_calls.specs.declared.call_reply.CallReply.TheVariants.{Miss, Hit}
use Rattle.mc_calls.specs.Told.{told}
use Rattle.mc_reply.specs.Text.{line, item_line, item_text}
use Rattle.mc_parse.specs.declared.command.Command.TheVariants as Commands
use Rattle.mc_allows.specs.declared.said.Said.{Said}
use Rattle.mc_allows.specs.declared.said.Said.TheVariants.{Replied, Failed}
use Rattle.mc_allows.specs.declared.shown.Shown.TheVariants.{Reply}
use Rattle.mc_allows.specs.Needs.{Suits}
use Rattle.mc_answers.specs.Answer.{found_items, IsListing, IsAnswer}
use Rattle.mc_answers.specs.Cut.{IsWord}
use Rattle.mc_answers.specs.Said.{AreGot, MaySay}
use Rattle.mc_answers.proofs.AnswerLemmas.{by_index, by_recursion}
use Rattle.mc_shown.specs.declared.listed.Listed.{Listed}
use Rattle.mc_shown.specs.declared.part.Part.{Part}
use Rattle.mc_shown.specs.Listing.{text_of, IsListed, AreListed, IsNotOf, IsOnce, SuitsAt, AreSuitedAt}
use Rattle.mc_shown.specs.Parts.{AreSuited}
use Rattle.mc_shown.proofs.ItemLemmas.{same_item, IsItem, same_items}

-- ---- items that were found, by their indices

record FoundAt (asked : Bool) (keys : List (List ℕ)) (saids : List Said) (text : List ℕ) : Type 0 where
  index : ℕ
  key : List ℕ
  flags : ℕ
  unique : ℕ
  value : List ℕ
  key_is : slice_get keys index ≡ Some key
  said_is : slice_get saids index ≡ Some (Replied (Hit flags unique value))
  is : text ≡ item_line asked key flags unique value ++ line value
  word : IsWord key
  few : flags < 2 ^ 32
  small : unique < 2 ^ 64
  fits : length value ≤ value_limit

found_later : (asked : Bool) (key : List ℕ) (keys : List (List ℕ)) (said : Said) (saids : List Said) (text : List ℕ) → FoundAt asked keys saids text → FoundAt asked (key ∷ keys) (said ∷ saids) text
found_later asked key keys said saids text found = record {
  index = suc found.index;
  key = found.key;
  flags = found.flags;
  unique = found.unique;
  value = found.value;
  key_is = found.key_is;
  said_is = found.said_is;
  is = found.is;
  word = found.word;
  few = found.few;
  small = found.small;
  fits = found.fits;
}

-- each text that was found is of the item of some key
found_at : (asked : Bool) (keys : List (List ℕ)) (saids : List Said) (text : List ℕ) → AllByRecursion IsWord keys → AreGot keys saids → Contains (found_items asked keys saids) text → FoundAt asked keys saids text
found_at asked [] [] text words got (k, low, is) = absurd (omega arith)
found_at asked [] (said ∷ saids) text words got there = absurd got
found_at asked (key ∷ keys) [] text words got there = absurd got
found_at asked (key ∷ keys) (Replied (Hit flags unique value) ∷ saids) text words got (zero, low, is) = record {
  index = 0;
  key = key;
  flags = flags;
  unique = unique;
  value = value;
  key_is = refl;
  said_is = refl;
  is = sym is;
  word = words.0;
  few = got.0.2.0.0;
  small = got.0.2.0.1;
  fits = got.0.1;
}
found_at asked (key ∷ keys) (Replied (Hit flags unique value) ∷ saids) text words got (suc k, low, is) =
    found_later asked key keys (Replied (Hit flags unique value)) saids text (found_at asked keys saids text words.1 got.1 (k, omega arith, is))
found_at asked (key ∷ keys) (Replied reply ∷ saids) text words got there = found_later asked key keys (Replied reply) saids text (found_at asked keys saids text words.1 got.1 there)
found_at asked (key ∷ keys) (Failed ∷ saids) text words got there = found_later asked key keys Failed saids text (found_at asked keys saids text words.1 got.1 there)

-- each of them is an item
found_item : (asked : Bool) (keys : List (List ℕ)) (saids : List Said) → AllByRecursion IsWord keys → AreGot keys saids → AllByRecursion (IsItem asked) (found_items asked keys saids)
found_item asked [] [] words got = tt
found_item asked [] (said ∷ saids) words got = absurd got
found_item asked (key ∷ keys) [] words got = absurd got
found_item asked (key ∷ keys) (Replied (Hit flags unique value) ∷ saids) words got = (
  record { key = key; flags = flags; unique = unique; value = value; word = words.0; few = got.0.2.0.0; small = got.0.2.0.1; fits = got.0.1; is = refl },
  found_item asked keys saids words.1 got.1,
)
found_item asked (key ∷ keys) (Replied reply ∷ saids) words got = found_item asked keys saids words.1 got.1
found_item asked (key ∷ keys) (Failed ∷ saids) words got = found_item asked keys saids words.1 got.1

-- what is in the rest of a list is in the list
contains_later : {X : Type 0} (first : X) (xs : List X) (x : X) → Contains xs x → Contains (first ∷ xs) x
contains_later first xs x (k, low, is) = (suc k, omega arith, is)

-- the item of a key was found, if its get hit
found_there : (asked : Bool) (keys : List (List ℕ)) (saids : List Said) (i : ℕ) (key : List ℕ) (flags unique : ℕ) (value : List ℕ) → slice_get keys i ≡ Some key → slice_get saids i ≡ Some (Replied (Hit flags unique value))
    → Contains (found_items asked keys saids) (item_text asked key (Hit flags unique value))
found_there asked [] saids i key flags unique value key_is said_is = absurd (cc)
found_there asked (k ∷ keys) [] i key flags unique value key_is said_is = absurd (cc)
found_there asked (k ∷ keys) (s ∷ saids) zero key flags unique value key_is said_is =
    let first : k ≡ key = cc in
    let said : s ≡ Replied (Hit flags unique value) = cc in
    subst (λ (x : Said). Contains (found_items asked (k ∷ keys) (x ∷ saids)) (item_text asked key (Hit flags unique value))) (sym said)
    (0, omega arith, ap (λ (x : List ℕ). item_text asked x (Hit flags unique value)) first)
found_there asked (k ∷ keys) (Replied (Hit f u v) ∷ saids) (suc i) key flags unique value key_is said_is =
    contains_later (item_text asked k (Hit f u v)) (found_items asked keys saids) (item_text asked key (Hit flags unique value)) (found_there asked keys saids i key flags unique value key_is said_is)
found_there asked (k ∷ keys) (Replied reply ∷ saids) (suc i) key flags unique value key_is said_is = found_there asked keys saids i key flags unique value key_is said_is
found_there asked (k ∷ keys) (Failed ∷ saids) (suc i) key flags unique value key_is said_is = found_there asked keys saids i key flags unique value key_is said_is

-- what was said to the get of a key
got_at : (keys : List (List ℕ)) (saids : List Said) (i : ℕ) (key : List ℕ) (said : Said) → AreGot keys saids → slice_get keys i ≡ Some key → slice_get saids i ≡ Some said → MaySay (Get key) said
got_at [] saids i key said got key_is said_is = absurd (cc)
got_at (k ∷ keys) [] i key said got key_is said_is = absurd got
got_at (k ∷ keys) (s ∷ saids) zero key said got key_is said_is =
    let first : k ≡ key = cc in
    let same : s ≡ said = cc in
    subst (λ (x : List ℕ). MaySay (Get x) said) first (subst (MaySay (Get k)) same got.0)
got_at (k ∷ keys) (s ∷ saids) (suc i) key said got key_is said_is = got_at keys saids i key said got.1 key_is said_is

word_at : (keys : List (List ℕ)) (i : ℕ) (key : List ℕ) → AllByRecursion IsWord keys → slice_get keys i ≡ Some key → IsWord key
word_at [] i key words key_is = absurd (cc)
word_at (k ∷ keys) zero key words key_is = let first : k ≡ key = cc in subst IsWord first words.0
word_at (k ∷ keys) (suc i) key words key_is = word_at keys i key words.1 key_is

-- ---- listed items

listed_in : (items : List Listed) (item : Listed) → AllByRecursion IsListed items → Contains items item → IsListed item
listed_in [] item each (k, low, is) = absurd (omega arith)
listed_in (i ∷ items) item each (zero, low, is) = subst IsListed is each.0
listed_in (i ∷ items) item each (suc k, low, is) = listed_in items item each.1 (k, omega arith, is)

text_in : (asked : Bool) (items : List Listed) (item : Listed) → Contains items item → Contains (map (text_of asked) items) (text_of asked item)
text_in asked [] item (k, low, is) = absurd (omega arith)
text_in asked (i ∷ items) item (zero, low, is) = (0, omega arith, ap (text_of asked) is)
text_in asked (i ∷ items) item (suc k, low, is) = contains_later (text_of asked i) (map (text_of asked) items) (text_of asked item) (text_in asked items item (k, omega arith, is))

record HasText (asked : Bool) (items : List Listed) (text : List ℕ) : Type 0 where
  item : Listed
  there : Contains items item
  is : text_of asked item ≡ text

item_in : (asked : Bool) (items : List Listed) (text : List ℕ) → Contains (map (text_of asked) items) text → HasText asked items text
item_in asked [] text (k, low, is) = absurd (omega arith)
item_in asked (i ∷ items) text (zero, low, is) = record { item = i; there = (0, omega arith, refl); is = is }
item_in asked (i ∷ items) text (suc k, low, is) =
    let found = item_in asked items text (k, omega arith, is) in
    record { item = found.item; there = contains_later i items found.item found.there; is = found.is }

not_in : (key : List ℕ) (items : List Listed) (item : Listed) → AllByRecursion (IsNotOf key) items → Contains items item → IsNotOf key item
not_in key [] item each (k, low, is) = absurd (omega arith)
not_in key (i ∷ items) item each (zero, low, is) = subst (IsNotOf key) is each.0
not_in key (i ∷ items) item each (suc k, low, is) = not_in key items item each.1 (k, omega arith, is)

texts_are : (asked : Bool) (items : List Listed) → AllByRecursion IsListed items → AllByRecursion (IsItem asked) (map (text_of asked) items)
texts_are asked [] each = tt
texts_are asked (i ∷ items) each = (
  record {
    key = i.key.now;
    flags = i.flags;
    unique = i.unique;
    value = i.value.now;
    word = each.0.word;
    few = each.0.few;
    small = each.0.small;
    fits = each.0.fits;
    is = refl;
  },
  texts_are asked items each.1,
)

-- ---- an answer has one reading

-- the items that were found are those that the answer lists
one_reading : (asked : Bool) (keys : List (List ℕ)) (items : List Listed) (text : List ℕ) (saids : List Said) → AllByRecursion IsWord keys → AreListed asked items text → AreGot keys saids
    → IsListing (found_items asked keys saids) text → IsPermutation (found_items asked keys saids) (map (text_of asked) items)
one_reading asked keys items text saids words listed got one =
    let each = by_recursion (IsItem asked) one.items (All-permutation (IsItem asked) (found_items asked keys saids) one.items one.order (by_index (IsItem asked) (found_items asked keys saids) (found_item asked keys saids words got))) in
    subst (IsPermutation (found_items asked keys saids)) (same_items asked one.items (map (text_of asked) items) each (texts_are asked items listed.each) (sym one.is ∙ listed.is)) one.order

pub suited : (asked : Bool) (keys : List (List ℕ)) (items : List Listed) (text : List ℕ) (parts : List Part) → AllByRecursion IsWord keys → AreListed asked items text → AreSuitedAt asked keys items parts
    → (saids : List Said) → IsAnswer (Commands.Get keys asked) saids text → AreSuited parts saids
suited asked keys items text parts words listed each saids answer i part said part_is said_is =
    each i part part_is saids said answer.fit (one_reading asked keys items text saids words listed answer.fit answer.text) said_is

-- ---- what is shown of a key

pub hit_suits : (asked : Bool) (keys : List (List ℕ)) (items : List Listed) (i : ℕ) (key : List ℕ) (item : Listed) (value : List ℕ) → AllByRecursion IsWord keys → AllByRecursion IsListed items
    → slice_get keys i ≡ Some key → IsOnce keys i → Contains items item → item.key.now ≡ key → value ≡ item.value.now → SuitsAt asked keys items i (Reply (Hit item.flags item.unique value))
hit_suits asked keys items i key item value words each key_is once there of_key bytes saids said got order said_is =
    let of = listed_in items item each there in
    let found = found_at asked keys saids (text_of asked item) words got
    (Contains-permutation (map (text_of asked) items) (found_items asked keys saids) (text_of asked item) (IsPermutation-sym (found_items asked keys saids) (map (text_of asked) items) order) (text_in asked items item there)) in
    let same = same_item asked item.key.now found.key item.flags found.flags item.unique found.unique item.value.now found.value of.word found.word of.few found.few found.is in
    let named : found.key ≡ key = sym same.key ∙ of_key in
    let index : found.index ≡ i = once found.index key key_is (found.key_is ∙ ap (λ (x : List ℕ). Some x) named) in
    let reply : Some said ≡ Some (Replied (Hit found.flags found.unique found.value)) = sym said_is ∙ ap (slice_get saids) (sym index) ∙ found.said_is in
    let is : said ≡ Replied (Hit found.flags found.unique found.value) = cc in
    let told_is : told (Hit found.flags found.unique found.value) ≡ told (Hit item.flags item.unique value) =
    ap (λ (f : ℕ). Hit f 0 found.value) (sym same.flags) ∙ ap (λ (v : List ℕ). Hit item.flags 0 v) (sym same.value ∙ sym bytes) in
    subst (Suits (Reply (Hit item.flags item.unique value))) (sym is) told_is

miss_said : (asked : Bool) (keys : List (List ℕ)) (items : List Listed) (i : ℕ) (key : List ℕ) (saids : List Said) (said : Said) → AllByRecursion IsWord keys → AllByRecursion IsListed items → slice_get keys i ≡ Some key
    → AllByRecursion (IsNotOf key) items → AreGot keys saids → IsPermutation (found_items asked keys saids) (map (text_of asked) items) → slice_get saids i ≡ Some said → MaySay (Get key) said → Suits (Reply Miss) said
miss_said asked keys items i key saids (Replied (Hit flags unique value)) words each key_is none got order said_is may =
    let text = item_text asked key (Hit flags unique value) in
    let found = item_in asked items text (Contains-permutation (found_items asked keys saids) (map (text_of asked) items) text order (found_there asked keys saids i key flags unique value key_is said_is)) in
    let of = listed_in items found.item each found.there in
    let same = same_item asked found.item.key.now key found.item.flags flags found.item.unique unique found.item.value.now value of.word (word_at keys i key words key_is) of.few may.2.0.0 found.is in
    absurd (not_in key items found.item none found.there same.key)
miss_said asked keys items i key saids (Replied Miss) words each key_is none got order said_is may = refl
miss_said asked keys items i key saids (Replied reply) words each key_is none got order said_is may = absurd may.0
miss_said asked keys items i key saids Failed words each key_is none got order said_is may = absurd (cc)

pub miss_suits : (asked : Bool) (keys : List (List ℕ)) (items : List Listed) (i : ℕ) (key : List ℕ) → AllByRecursion IsWord keys → AllByRecursion IsListed items → slice_get keys i ≡ Some key
    → AllByRecursion (IsNotOf key) items → SuitsAt asked keys items i (Reply Miss)
miss_suits asked keys items i key words each key_is none saids said got order said_is =
    miss_said asked keys items i key saids said words each key_is none got order said_is (got_at keys saids i key said got key_is said_is)

-- ---- parts one after another

pub one_more : (asked : Bool) (keys : List (List ℕ)) (items : List Listed) (parts : List Part) (part : Part) → AreSuitedAt asked keys items parts → SuitsAt asked keys items (length parts) part.shown
    → AreSuitedAt asked keys items (parts ++ part ∷ [])
one_more asked keys items parts part each one i found there = go (pushed parts part i found there)
  where
    pushed : (ps : List Part) (p : Part) (k : ℕ) (x : Part) → slice_get (ps ++ p ∷ []) k ≡ Some x → (slice_get ps k ≡ Some x) ⊎ ((k ≡ length ps) × (p ≡ x))
    pushed [] p zero x is = inr (refl, (cc))
    pushed [] p (suc k) x is = absurd (cc)
    pushed (q ∷ ps) p zero x is = inl is
    pushed (q ∷ ps) p (suc k) x is = shift (pushed ps p k x is)
      where
        shift : (slice_get ps k ≡ Some x) ⊎ ((k ≡ length ps) × (p ≡ x)) → (slice_get ps k ≡ Some x) ⊎ ((suc k ≡ length (q ∷ ps)) × (p ≡ x))
        shift (inl one) = inl one
        shift (inr one) = inr (ap suc one.0, one.1)

    go : (slice_get parts i ≡ Some found) ⊎ ((i ≡ length parts) × (part ≡ found)) → SuitsAt asked keys items i found.shown
    go (inl one) = each i found one
    go (inr one_is) = subst (λ (k : ℕ). SuitsAt asked keys items k found.shown) (sym one_is.0) (subst (λ (p : Part). SuitsAt asked keys items (length parts) p.shown) one_is.1 one)
