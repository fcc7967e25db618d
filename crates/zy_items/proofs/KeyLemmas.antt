-- Keys that rise, and one that is above the last of them.
use Rattle.std.proofs.Common.{◌≡◌, ℕ, zero, suc, ◌+◌, ◌-◌, true, Bool, arith, List, [], ◌∷◌, ◌++◌, length, refl, ◌∙◌, ap}
use Rattle.std.specs.Prelude.{Option, None, Some, slice_get}
use Rattle.std.specs.List.Sorted.{IsStrictlySortedBy}
use Rattle.std.specs.BTreeSet.{insert_key}
use Rattle.std.specs.Ordering.{nat_cmp, is_lt, ordering_reverse}
use Rattle.std.specs.Cmp.Lexicographic.{slice_cmp, nat_list_cmp_total}
use Rattle.std.specs.declared.cmp.Ordering.{Ordering}
use Rattle.std.specs.declared.cmp.Ordering.TheVariants.{Less, Equal, Greater}
use Rattle.zy_items.specs.declared.standing.KeptItem.{KeptItem}
use Rattle.zy_items.specs.Steps.{item_keys, is_next}

-- the order of keys
abbrev pub by_bytes : List ℕ → List ℕ → Ordering
by_bytes = slice_cmp nat_cmp

-- ---- the last one

-- a key is above this one, if there is one
abbrev pub is_above : Option (List ℕ) → List ℕ → Bool
is_above None key = true
is_above (Some last) key = is_lt (by_bytes last key)

next_at : (keys : List (List ℕ)) (key : List ℕ) (n : ℕ) → length keys ≡ n + 1 → is_next keys key ≡ is_above (slice_get keys n) key
next_at [] key n is = absurd (omega (arith, is))
next_at (one ∷ []) key zero is = refl
next_at (one ∷ []) key (suc n) is = absurd (omega (arith, is))
next_at (first ∷ (second ∷ keys)) key zero is = absurd (omega (arith, is))
next_at (first ∷ (second ∷ keys)) key (suc n) is = next_at (second ∷ keys) key n (omega (arith, is))

-- the last of some keys decides
pub next_by : (keys : List (List ℕ)) (key : List ℕ) → is_next keys key ≡ is_above (slice_get keys (length keys - 1)) key
next_by [] key = refl
next_by (first ∷ keys) key = next_at (first ∷ keys) key (length (first ∷ keys) - 1) (omega arith)

-- the key of an item, if there is one
abbrev pub key_of : Option KeptItem → Option (List ℕ)
key_of None = None
key_of (Some kept) = Some kept.key

next_item_at : (items : List KeptItem) (key : List ℕ) (n : ℕ) → length items ≡ n + 1 → is_next (item_keys items) key ≡ is_above (key_of (slice_get items n)) key
next_item_at [] key n is = absurd (omega (arith, is))
next_item_at (one ∷ []) key zero is = refl
next_item_at (one ∷ []) key (suc n) is = absurd (omega (arith, is))
next_item_at (first ∷ (second ∷ items)) key zero is = absurd (omega (arith, is))
next_item_at (first ∷ (second ∷ items)) key (suc n) is = next_item_at (second ∷ items) key n (omega (arith, is))

-- so does the last of some items
pub next_item_by : (items : List KeptItem) (key : List ℕ) → is_next (item_keys items) key ≡ is_above (key_of (slice_get items (length items - 1))) key
next_item_by [] key = refl
next_item_by (first ∷ items) key = next_item_at (first ∷ items) key (length (first ∷ items) - 1) (omega arith)

-- ---- a key that is added

pub less_is : (o : Ordering) → is_lt o ≡ true → o ≡ Less
less_is Less is = refl
less_is Equal is = cc
less_is Greater is = cc

-- the first of some rising keys is before a key that is above the last
before_next : (first : List ℕ) (keys : List (List ℕ)) (key : List ℕ) → IsStrictlySortedBy by_bytes (first ∷ keys) → is_next (first ∷ keys) key ≡ true → by_bytes first key ≡ Less
unfolding IsStrictlySortedBy
before_next first [] key rises next = less_is (by_bytes first key) next
before_next first (second ∷ keys) key rises next =
    nat_list_cmp_total.trans first second key rises.0.0 (before_next second keys key rises.1 next)

after_first : (first key : List ℕ) → by_bytes first key ≡ Less → by_bytes key first ≡ Greater
after_first first key less = nat_list_cmp_total.antisymm key first ∙ ap ordering_reverse less

-- a key that is above the last one is added at the end
pub added_last : (keys : List (List ℕ)) (key : List ℕ) → IsStrictlySortedBy by_bytes keys → is_next keys key ≡ true → insert_key by_bytes keys key ≡ keys ++ key ∷ []
unfolding IsStrictlySortedBy
added_last [] key rises next = refl
added_last (first ∷ []) key rises next = rw (after_first first key (before_next first [] key rises next)) refl
added_last (first ∷ (second ∷ keys)) key rises next =
    rw (after_first first key (before_next first (second ∷ keys) key rises next)) (ap (λ (l : List (List ℕ)). first ∷ l) (added_last (second ∷ keys) key rises.1 next))
