-- A store of which one shard has changed.
use Rattle.std.specs.Prelude.{⊤}
use Rattle.std.specs.List.{slice_get, slice_set}
use Rattle.std.proofs.Common.{◌≡◌, ℕ, zero, suc, ◌+◌, ◌*◌, ◌%◌, ◌^◌, ◌<◌, ◌≤◌, Bool, true, false, cond, not, List, [], ◌∷◌, length, Option, None, Some, Result, Ok, Err, OnOk, ⊎_elim, refl, sym, ap, ◌∙◌, arith}
use Rattle.std.proofs.lemmas.List.{length-set}
use Rattle.std.proofs.lemmas.Bool.{cases_eq}
use Rattle.std.specs.Ordering.{nat_cmp}
use Rattle.std.specs.Cmp.{eq_by_cmp_equiv}
use Rattle.std.specs.Cmp.Lexicographic.{slice_cmp, nat_list_cmp_total}
use Rattle.std.specs.BTreeMap.{BTreeMap, is_at, get, Updates}
use Rattle.std.specs.BTreeSet.{contains}
use Rattle.zy_base.specs.declared.outside.NoMemory.{NoMemory}
use Rattle.mc_allows.specs.Steps.{is_same}
use Rattle.mc_calls.specs.declared.item.Item.{Item}
use Rattle.mc_calls.specs.Key.{hash_of, shard_of}
use Rattle.zy_confirm.specs.declared.store.Store.{Store}
use Rattle.zy_confirm.specs.declared.outcome.After.TheVariants.{Put, Gone}
use Rattle.zy_confirm.specs.Store.{item_on_shard, store_shards, held_at, losses_in, losses_at, mark_of, is_used, KeepsBounds, ChangesAt, NotesLoss, LosesItem}

pub set_same : {A : Type 0} (xs : List A) (i : ℕ) (y : A) → i < length xs → slice_get (slice_set xs i y) i ≡ Some y
set_same [] i y within = absurd (omega arith)
set_same (x ∷ xs) zero y within = refl
set_same (x ∷ xs) (suc i) y within = set_same xs i y (omega arith)

pub set_other : {A : Type 0} (xs : List A) (i j : ℕ) (y : A) → (j ≡ i → ⊥) → slice_get (slice_set xs i y) j ≡ slice_get xs j
set_other [] i j y differ = refl
set_other (x ∷ xs) zero zero y differ = absurd (differ refl)
set_other (x ∷ xs) zero (suc j) y differ = refl
set_other (x ∷ xs) (suc i) zero y differ = refl
set_other (x ∷ xs) (suc i) (suc j) y differ = set_other xs i j y (λ same. differ (ap suc same))

chosen : {A : Type 0} (b : Bool) (x y : A) → b ≡ false → cond b x y ≡ y
chosen true x y is = absurd (cc)
chosen false x y is = refl

module _ (old new : Store) (s : ℕ) (items items' : BTreeMap (List ℕ) Item) (within : s < store_shards old) (was : slice_get old.shards.items s ≡ Some items)
    (is : new.shards.items ≡ slice_set old.shards.items s items') where
  pub same_count : store_shards new ≡ store_shards old
  same_count = ap (λ (l : List (BTreeMap (List ℕ) Item)). length l) is ∙ length-set old.shards.items s items'

  -- the map of a key's shard
  found_in : (key : List ℕ) → slice_get new.shards.items (shard_of key (store_shards new)) ≡ slice_get (slice_set old.shards.items s items') (shard_of key (store_shards old))
  found_in key = ap (λ (n : ℕ). slice_get new.shards.items (shard_of key n)) same_count ∙ ap (λ (l : List (BTreeMap (List ℕ) Item)). slice_get l (shard_of key (store_shards old))) is

  -- a key of the shard that has changed
  pub held_here : (key : List ℕ) → shard_of key (store_shards old) ≡ s → held_at new key ≡ get (slice_cmp nat_cmp) items' key
  held_here key own =
      ap (λ (m : Option (BTreeMap (List ℕ) Item)). item_on_shard m key)
      (found_in key ∙ ap (slice_get (slice_set old.shards.items s items')) own ∙ set_same old.shards.items s items' within)

  pub held_before : (key : List ℕ) → shard_of key (store_shards old) ≡ s → held_at old key ≡ get (slice_cmp nat_cmp) items key
  held_before key own = ap (λ (m : Option (BTreeMap (List ℕ) Item)). item_on_shard m key) (ap (slice_get old.shards.items) own ∙ was)

  -- a key of another shard
  pub held_elsewhere : (key : List ℕ) → (shard_of key (store_shards old) ≡ s → ⊥) → held_at new key ≡ held_at old key
  held_elsewhere key differ =
      ap (λ (m : Option (BTreeMap (List ℕ) Item)). item_on_shard m key)
      (found_in key ∙ set_other old.shards.items s (shard_of key (store_shards old)) items' differ)

  -- another key than the one that has changed
  pub held_else : (key : List ℕ) (w : Option Item) → ((q : List ℕ) → get (slice_cmp nat_cmp) items' q ≡ cond (is_at (slice_cmp nat_cmp key) q) w (get (slice_cmp nat_cmp) items q))
      → (other : List ℕ) → is_same other key ≡ false → held_at new other ≡ held_at old other
  held_else key w updates other differ =
      ⊎_elim
      (λ own. held_here other own ∙ updates other
      ∙ chosen (is_at (slice_cmp nat_cmp key) other) w (get (slice_cmp nat_cmp) items other) ((eq_by_cmp_equiv nat_list_cmp_total).symm key other ∙ differ)
      ∙ sym (held_before other own))
      (λ elsewhere. held_elsewhere other elsewhere)
      (cases_eq (shard_of other (store_shards old)) s)

-- ---- changes

-- a unique that was among those given, or is the new one
kept_true : (b : Bool) (x : Bool) → x ≡ true → cond b true x ≡ true
kept_true true x is = refl
kept_true false x is = is

is_not : (b : Bool) → true ≡ not b → b ≡ false
is_not true is = cc
is_not false is = refl

-- a mark depends on the losses of its key
mark_same : (old new : Store) (key : List ℕ) (unique : ℕ) → losses_at new key ≡ losses_at old key → mark_of new key unique ≡ mark_of old key unique
mark_same old new key unique same = ap (λ (losses : ℕ). (unique + (hash_of key + losses) * 4294967296 % 2 ^ 64) % 2 ^ 64) same

pub losses_same : (old new : Store) → new.losses ≡ old.losses → (key : List ℕ) → losses_at new key ≡ losses_at old key
losses_same old new is key = ap (λ (m : BTreeMap (List ℕ) ℕ). losses_in (get (slice_cmp nat_cmp) m key)) is

pub used_same : (old new : Store) (key : List ℕ) → losses_at new key ≡ losses_at old key → new.used ≡ old.used → (unique : ℕ) → is_used old key unique ≡ true → is_used new key unique ≡ true
used_same old new key same used unique known =
    ap (λ u. contains nat_cmp u (mark_of new key unique)) used ∙ ap (contains nat_cmp old.used) (mark_same old new key unique same) ∙ known

module _ (old new : Store) (key : List ℕ) (s : ℕ) (items items' : BTreeMap (List ℕ) Item) (within : s < store_shards old) (own : s ≡ shard_of key (store_shards old))
    (was : slice_get old.shards.items s ≡ Some items) (is : new.shards.items ≡ slice_set old.shards.items s items') where
  pub put_changes : (item : Item) → Updates (slice_cmp nat_cmp) items items' key (Some item) → new.losses ≡ old.losses → (mark : ℕ) → mark ≡ mark_of old key item.unique
      → true ≡ not (contains nat_cmp old.used mark)
      → ((one : ℕ) → contains nat_cmp new.used one ≡ cond (is_at (nat_cmp mark) one) true (contains nat_cmp old.used one)) → contains nat_cmp new.used mark ≡ true
      → old.least ≤ item.unique → item.unique ≤ new.most → KeepsBounds old new
      → ChangesAt old new key item.unique (Put item.flags item.value)
  put_changes item updates losses mark mark_is fresh used given least most bounds = record {
    shards = same_count old new s items items' within was is;
    here = held_here old new s items items' within was is key (sym own) ∙ updates.1;
    others = λ other differ. held_else old new s items items' within was is key (Some item) updates.0 other differ;
    used = λ any one known.
        ap (contains nat_cmp new.used) (mark_same old new any one (losses_same old new losses any))
        ∙ used (mark_of old any one) ∙ kept_true (is_at (nat_cmp mark) (mark_of old any one)) (contains nat_cmp old.used (mark_of old any one)) known;
    fresh = (
      ap (contains nat_cmp old.used) (sym mark_is) ∙ is_not (contains nat_cmp old.used mark) fresh,
      ap (contains nat_cmp new.used) (mark_same old new key item.unique (losses_same old new losses key) ∙ sym mark_is) ∙ given,
      least,
      most,
    );
    bounds = bounds;
  }

  pub gone_changes : Updates (slice_cmp nat_cmp) items items' key None → new.used ≡ old.used → new.losses ≡ old.losses → KeepsBounds old new → ChangesAt old new key 0 Gone
  gone_changes updates used losses bounds = record {
    shards = same_count old new s items items' within was is;
    here = held_here old new s items items' within was is key (sym own) ∙ updates.1;
    others = λ other differ. held_else old new s items items' within was is key None updates.0 other differ;
    used = λ any one known. used_same old new any (losses_same old new losses any) used one known;
    fresh = tt;
    bounds = bounds;
  }

-- ---- losses

-- another key has the losses that it had
pub others_lose : (old new : BTreeMap (List ℕ) ℕ) (key : List ℕ) (losses : ℕ) → Updates (slice_cmp nat_cmp) old new key (Some losses) → (other : List ℕ) → is_same other key ≡ false
    → losses_in (get (slice_cmp nat_cmp) new other) ≡ losses_in (get (slice_cmp nat_cmp) old other)
others_lose old new key losses updates other differ = ap losses_in (updates.2 other ((eq_by_cmp_equiv nat_list_cmp_total).symm key other ∙ differ))

-- a removal that is noted is a loss
gone_loses : (old middle new : Store) (key : List ℕ) → ChangesAt old middle key 0 Gone → NotesLoss middle new key → LosesItem old new key
gone_loses old middle new key changes notes =
    let count : store_shards new ≡ store_shards middle = ap (λ (l : List (BTreeMap (List ℕ) Item)). length l) notes.shards in
    let held : (own : List ℕ) → held_at new own ≡ held_at middle own = λ own.
    ap (λ (l : List (BTreeMap (List ℕ) Item)). item_on_shard (slice_get l (shard_of own (length l))) own) notes.shards in
    record {
      shards = count ∙ changes.shards;
      here = held key ∙ changes.here;
      others = λ other differ. held other ∙ changes.others other differ;
      used = λ other differ unique known. used_same middle new other (notes.others other differ) notes.used unique (changes.used other unique known);
      bounds = (
        notes.bounds.0 ∙ changes.bounds.0,
        let one = changes.bounds.1 in
            let other = notes.bounds.1 in
            omega (arith, one, other),
      );
    }

pub loses_by : (old middle new : Store) (key : List ℕ) → ChangesAt old middle key 0 Gone → (r : Result ⊤ NoMemory) → OnOk r (NotesLoss middle new key) → OnOk r (LosesItem old new key)
loses_by old middle new key changes (Ok done) notes = gone_loses old middle new key changes notes
loses_by old middle new key changes (Err refused) notes = tt

-- ---- no items

-- each map is empty
abbrev pub AreEmpty : List (BTreeMap (List ℕ) Item) → Type 0
AreEmpty shards = (s : ℕ) (items : BTreeMap (List ℕ) Item) → slice_get shards s ≡ Some items → items.entries ≡ []
