-- Items that go from map to map, and to a list.
use Rattle.std.proofs.Common.{◌≡◌, ◌⊎◌, inl, inr, ⊎_elim, ℕ, ◌+◌, ◌-◌, ◌<◌, ◌≤◌, Bool, true, false, cond, if◌then◌else◌, List, [], ◌∷◌, ◌++◌, length, map, All, AllPairs, Option, None, Some, refl, sym, ap, ◌∙◌, subst, arith}
use Rattle.std.proofs.lemmas.Bool.{cases_eq}
use Rattle.std.specs.BTreeMap.{BTreeMap, is_at, keys, Updates}
use Rattle.std.specs.Map.{lookup, keys_of}
use Rattle.std.specs.Cmp.{eq_by_cmp_equiv}
use Rattle.std.specs.Cmp.Lexicographic.{slice_cmp, nat_list_cmp_total}
use Rattle.std.specs.List.{slice_get, AllByRecursion}
use Rattle.std.specs.List.Sorted.{IsStrictlySortedBy}
use Rattle.std.specs.Ordering.{nat_cmp}
use Rattle.std.specs.declared.cmp.Ordering.TheVariants.{Less}
use Rattle.std.proofs.lemmas.List.{append_assoc, append-nil, map-append}
use Rattle.std.proofs.lemmas.List.Elements.{All-nil, All-cons}
use Rattle.std.proofs.lemmas.List.Kept.{AllPairs-cons}
use Rattle.zy_items.specs.Standing.{IsKeyBefore, IsItemBefore}
use Rattle.mc_allows.specs.Steps.{is_same}
use Rattle.mc_calls.specs.declared.item.Item.{Item}
use Rattle.mc_calls.specs.Key.{shard_of}
use Rattle.zy_items.specs.declared.standing.KeptItem.{KeptItem}
use Rattle.zy_verdict.specs.Between.{item_in}
use Rattle.zy_confirm.specs.Gathering.{item_of, either_of, keys_in, KeepsKeys, MovesOwn, GathersTo, TakesInOrder}
use Rattle.zy_confirm.specs.Store.{item_on_shard}
use Rattle.zy_confirm.proofs.MakeLemmas.{same_key}

by_case : (b : Bool) → (b ≡ true) ⊎ (b ≡ false)
by_case true = inl refl
by_case false = inr refl

-- a change at a key
changed_here : (before after : BTreeMap (List ℕ) Item) (key : List ℕ) (w : Option Item) → Updates (slice_cmp nat_cmp) before after key w → (other : List ℕ) → is_same key other ≡ true → item_of after other ≡ w
changed_here before after key w updates other same = updates.0 other ∙ ap (λ b. cond b w (item_of before other)) same

-- ---- one item

module _ (shard shards : ℕ) (from to left : BTreeMap (List ℕ) Item) (key : List ℕ) (item : Item) (was : item_of from key ≡ Some item) (gone : Updates (slice_cmp nat_cmp) from left key None) where
  module _ (all : BTreeMap (List ℕ) Item) (own : shard_of key shards ≡ shard) (put : Updates (slice_cmp nat_cmp) to all key (Some item)) where
    moved_at : (other : List ℕ) → either_of (item_of left other) (item_of all other) ≡ either_of (item_of from other) (item_of to other)
    moved_at other = ⊎_elim
        (λ (same : is_same key other ≡ true).
        let here : item_of from other ≡ Some item = ap (item_of from) (sym (same_key key other same)) ∙ was in
        ap (λ i. either_of i (item_of all other)) (changed_here from left key None gone other same)
        ∙ changed_here to all key (Some item) put other same
        ∙ sym (ap (λ i. either_of i (item_of to other)) here))
        (λ (differ : is_same key other ≡ false).
        ap (λ i. either_of i (item_of all other)) (gone.2 other differ) ∙ ap (either_of (item_of from other)) (put.2 other differ))
        (by_case (is_same key other))

    moved_not : (other : List ℕ) → (shard_of other shards ≡ shard → ⊥) → item_of all other ≡ item_of to other
    moved_not other apart = ⊎_elim
        (λ (same : is_same key other ≡ true). absurd (apart (ap (λ k. shard_of k shards) (sym (same_key key other same)) ∙ own)))
        (λ (differ : is_same key other ≡ false). put.2 other differ)
        (by_case (is_same key other))

    -- the item of a key of the shard was moved
    pub moved : MovesOwn shard shards from to left all
    moved = record { own = λ other is. moved_at other; others = moved_not }

  -- the item of another key is gone
  pub passed : (shard_of key shards ≡ shard → ⊥) → MovesOwn shard shards from to left to
  passed apart = record {
    own = λ other is. ⊎_elim
        (λ (same : is_same key other ≡ true). absurd (apart (ap (λ k. shard_of k shards) (same_key key other same) ∙ is)))
        (λ (differ : is_same key other ≡ false). ap (λ i. either_of i (item_of to other)) (gone.2 other differ))
        (by_case (is_same key other));
    others = λ other differ. refl;
  }

-- ---- a list

push_by : (b : Bool) (item : Item) (more rest last : Option Item) → more ≡ either_of rest last → (if b then Some item else more) ≡ either_of (if b then Some item else rest) last
push_by true item more rest last is = refl
push_by false item more rest last is = is

item_push : (items : List KeptItem) (kept : KeptItem) (key : List ℕ) → item_in (items ++ kept ∷ []) key ≡ either_of (item_in items key) (if is_same key kept.key then Some kept.item else None)
item_push [] kept key = refl
item_push (x ∷ items) kept key =
    push_by (is_same key x.key) x.item (item_in (items ++ kept ∷ []) key) (item_in items key) (if is_same key kept.key then Some kept.item else None) (item_push items kept key)

regrouped : (one other last : Option Item) → either_of (either_of one other) last ≡ either_of one (either_of other last)
regrouped None other last = refl
regrouped (Some item) other last = refl

module _ (items more : List KeptItem) (all left : BTreeMap (List ℕ) Item) (kept : KeptItem) (was : item_of all kept.key ≡ Some kept.item) (gone : Updates (slice_cmp nat_cmp) all left kept.key None)
    (is : more ≡ items ++ kept ∷ []) where
  kept_or_left : (key : List ℕ) (b : Bool) → is_same key kept.key ≡ b → either_of (if b then Some kept.item else None) (item_of left key) ≡ item_of all key
  kept_or_left key true same = sym was ∙ ap (item_of all) (sym (same_key key kept.key same))
  kept_or_left key false differ = gone.2 key ((eq_by_cmp_equiv nat_list_cmp_total).symm kept.key key ∙ differ)

  -- one item more
  pub taken_one : TakesInOrder items all more left
  taken_one key =
      ap (λ (l : List KeptItem). either_of (item_in l key) (item_of left key)) is
      ∙ ap (λ i. either_of i (item_of left key)) (item_push items kept key)
      ∙ regrouped (item_in items key) (if is_same key kept.key then Some kept.item else None) (item_of left key)
      ∙ ap (either_of (item_in items key)) (kept_or_left key (is_same key kept.key) refl)

-- ---- the order of the keys

module _ (items more : List KeptItem) (all left : BTreeMap (List ℕ) Item) where
  -- one key more
  pub keys_one : (kept : KeptItem) → all.entries ≡ (kept.key, kept.item) ∷ left.entries → more ≡ items ++ kept ∷ [] → KeepsKeys items all more left
  keys_one kept removal is =
      ap (λ (l : List KeptItem). keys_in l ++ keys left) is
      ∙ ap (λ (l : List (List ℕ)). l ++ keys left) (map-append (λ (one : KeptItem). one.key) items (kept ∷ []))
      ∙ append_assoc (keys_in items) (kept.key ∷ []) (keys left)
      ∙ ap (λ (l : List (List ℕ × Item)). keys_in items ++ keys_of l) (sym removal)

nothing_left : {A : Type 0} (l : List A) → length l ≡ 0 → l ≡ []
nothing_left [] none = refl
nothing_left (x ∷ xs) none = absurd (omega (arith, none))

-- what stands in the order of its keys, each before the next
module _ {A : Type 0} (key : A → List ℕ) where
  all_after : (x : A) (xs : List A) → AllByRecursion (λ (other : List ℕ). slice_cmp nat_cmp (key x) other ≡ Less) (map key xs) → All (λ (y : A). IsKeyBefore (key x) (key y)) xs
  all_after x [] all = All-nil (λ (y : A). IsKeyBefore (key x) (key y))
  all_after x (y ∷ xs) all = All-cons (λ (y : A). IsKeyBefore (key x) (key y)) y xs all.0 (all_after x xs all.1)

  pub rising : (xs : List A) → IsStrictlySortedBy (slice_cmp nat_cmp) (map key xs) → AllPairs (λ (x y : A). IsKeyBefore (key x) (key y)) xs
  unfolding IsStrictlySortedBy
  rising [] sorted = λ i j d before within. absurd (omega (arith, within))
  rising (x ∷ xs) sorted = AllPairs-cons (λ (x y : A). IsKeyBefore (key x) (key y)) x xs (all_after x xs sorted.0) (rising xs sorted.1)

-- the items of a map were taken in the order of its keys
pub rising_by : (items more : List KeptItem) (all left : BTreeMap (List ℕ) Item) → items ≡ [] → length left.entries ≡ 0 → KeepsKeys items all more left
    → IsStrictlySortedBy (slice_cmp nat_cmp) (keys all) → AllPairs IsItemBefore more
rising_by items more all left none few keeps sorted =
    let same : keys_in more ≡ keys all =
    sym (append-nil (keys_in more))
    ∙ ap (λ (l : List (List ℕ × Item)). keys_in more ++ keys_of l) (sym (nothing_left left.entries few))
    ∙ keeps
    ∙ ap (λ (l : List KeptItem). keys_in l ++ keys all) none in
    rising (λ (kept : KeptItem). kept.key) more (subst (IsStrictlySortedBy (slice_cmp nat_cmp)) (sym same) sorted)
