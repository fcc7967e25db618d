-- The items of a server at a point of an order. No public clause cites this module.
use Rattle.std.specs.Prelude.{◌≡◌, ℕ, ◌+◌, ◌*◌, ◌%◌, ◌^◌, ◌<◌, ◌≤◌, Bool, true, false, List, [], ◌∷◌, length}
use Rattle.std.specs.Prelude.{Option, None, Some, ⊤}
use Rattle.std.specs.List.{slice_get}
use Rattle.std.specs.Ordering.{nat_cmp}
use Rattle.std.specs.Cmp.Lexicographic.{slice_cmp}
use Rattle.std.specs.BTreeMap.{BTreeMap, get}
use Rattle.std.specs.BTreeSet.{contains}
use Rattle.mc_allows.specs.declared.said.Said.{Said}
use Rattle.mc_allows.specs.Allows.{Allows}
use Rattle.mc_allows.specs.Steps.{KeyStep, made, lost, is_same, AreAllowed, item_after}
use Rattle.mc_allows.specs.Steps.{unique_stored, uniques_with, first_uniques, HaveNewUniques}
use Rattle.mc_calls.specs.declared.item.Item.{Item}
use Rattle.mc_calls.specs.Key.{hash_of, shard_of}
use Rattle.mc_parse.specs.declared.shard_call.ShardCall.{ShardCall}
use Rattle.zy_verdict.specs.Entries.{MadeCall, is_at_key, placed_at, AreStepsOf}
use Rattle.zy_verdict.specs.Between.{has_loss, AreGivenFrom}
use Rattle.zy_confirm.specs.declared.outcome.After.{After}
use Rattle.zy_confirm.specs.declared.store.Store.{Store}
use Rattle.zy_confirm.specs.Choosing.{after_by, unique_given}

-- ---- items

-- the item of a key in a map, if there is a map
abbrev pub item_on_shard : Option (BTreeMap (List ℕ) Item) → List ℕ → Option Item
item_on_shard None key = None
item_on_shard (Some items) key = get (slice_cmp nat_cmp) items key

-- the number of shards
abbrev pub store_shards : Store → ℕ
store_shards store = length store.shards.items

-- the item of a key
abbrev pub held_at : Store → List ℕ → Option Item
held_at store key = item_on_shard (slice_get store.shards.items (shard_of key (store_shards store))) key

-- a number of losses, which is none for a key without one
abbrev pub losses_in : Option ℕ → ℕ
losses_in None = 0
losses_in (Some losses) = losses

-- how many losses a key had
abbrev pub losses_at : Store → List ℕ → ℕ
losses_at store key = losses_in (get (slice_cmp nat_cmp) store.losses key)

-- the mark of a key's unique since the key's last loss
abbrev pub mark_of : Store → List ℕ → ℕ → ℕ
mark_of store key unique = (unique + (hash_of key + losses_at store key) * 4294967296 % 2 ^ 64) % 2 ^ 64

-- the unique was given to an item of a key since the last loss of one, or has the mark of another one that was given
abbrev pub is_used : Store → List ℕ → ℕ → Bool
is_used store key unique = contains nat_cmp store.used (mark_of store key unique)

-- each of these uniques was given to an item of a key
abbrev pub AreUsed : Store → List ℕ → List ℕ → Type 0
AreUsed store key [] = ⊤
AreUsed store key (unique ∷ uniques) = (is_used store key unique ≡ true) × AreUsed store key uniques

-- the least unique that may be given stays so, and the bound of those that were given does not fall
abbrev pub KeepsBounds : Store → Store → Type 0
KeepsBounds before after = (after.least ≡ before.least) × (before.most ≤ after.most)

-- only uniques above this one may be given from here on
pub record BeginsAbove (before after : Store) (bound : ℕ) : Type 0 where
  pub shards : after.shards.items ≡ before.shards.items
  pub used : after.used ≡ before.used
  pub losses : after.losses ≡ before.losses
  pub least : after.least ≡ bound + 1
  pub most : after.most ≡ bound

-- a store of this many shards without items
pub record HoldsNothing (shards : ℕ) (store : Store) : Type 0 where
  pub count : store_shards store ≡ shards
  pub none : (key : List ℕ) → held_at store key ≡ None

-- a store with these items, whose uniques were given
pub record HoldsFirst (first : List ℕ → Option Item) (store : Store) : Type 0 where
  pub held : (key : List ℕ) → held_at store key ≡ first key
  pub used : (key : List ℕ) → AreUsed store key (first_uniques (first key))

-- ---- one call

-- the call is on the shard of its key, or on one of the shards if it has none
abbrev pub IsOnItsShard : ℕ → Option (List ℕ) → ℕ → Type 0
IsOnItsShard shards None shard = shard < shards
IsOnItsShard shards (Some key) shard = shard ≡ shard_of key shards

-- the unique of an item that was stored at a key may be given, was not given to one of it before, and is now
abbrev pub IsNewlyUsed : Store → Store → List ℕ → Option ℕ → Type 0
IsNewlyUsed before after key None = ⊤
IsNewlyUsed before after key (Some unique) =
    (is_used before key unique ≡ false) × (is_used after key unique ≡ true) × (before.least ≤ unique)
    × (unique ≤ after.most)

-- the uniques that were given stay so
abbrev pub KeepsUniques : Store → Store → Type 0
KeepsUniques before after =
    (key : List ℕ) (unique : ℕ) → is_used before key unique ≡ true → is_used after key unique ≡ true

-- a store was changed at one key only, where an item that was stored got this unique
pub record ChangesAt (before after : Store) (key : List ℕ) (unique : ℕ) (change : After) : Type 0 where
  pub shards : store_shards after ≡ store_shards before
  pub here : held_at after key ≡ after_by (held_at before key) unique change
  pub others : (other : List ℕ) → is_same other key ≡ false → held_at after other ≡ held_at before other
  pub used : KeepsUniques before after
  pub fresh : IsNewlyUsed before after key (unique_given unique change)
  pub bounds : KeepsBounds before after

-- the item of a key was lost, if there was one
pub record LosesItem (before after : Store) (key : List ℕ) : Type 0 where
  pub shards : store_shards after ≡ store_shards before
  pub here : held_at after key ≡ None
  pub others : (other : List ℕ) → is_same other key ≡ false → held_at after other ≡ held_at before other
  pub used : (other : List ℕ) → is_same other key ≡ false → (unique : ℕ) → is_used before other unique ≡ true
      → is_used after other unique ≡ true
  pub bounds : KeepsBounds before after

-- a loss at a key was noted
pub record NotesLoss (before after : Store) (key : List ℕ) : Type 0 where
  pub shards : after.shards.items ≡ before.shards.items
  pub used : after.used ≡ before.used
  pub others : (other : List ℕ) → is_same other key ≡ false → losses_at after other ≡ losses_at before other
  pub bounds : KeepsBounds before after

-- the items of one shard were removed
pub record Clears (before after : Store) (shard : ℕ) : Type 0 where
  pub shards : store_shards after ≡ store_shards before
  pub here : (key : List ℕ) → shard_of key (store_shards before) ≡ shard → held_at after key ≡ None
  pub others : (key : List ℕ) → (shard_of key (store_shards before) ≡ shard → ⊥)
      → held_at after key ≡ held_at before key
  pub used : KeepsUniques before after
  pub bounds : KeepsBounds before after

-- a call that was answered so led from one store to another
pub record MakesCall (before after : Store) (call : ShardCall) (said : Said) : Type 0 where
  pub shards : store_shards after ≡ store_shards before
  pub allowed : (key : List ℕ) → is_at_key (store_shards before) key call ≡ true
      → Allows (held_at before key) call.call said (held_at after key)
  pub fresh : (key : List ℕ) → is_at_key (store_shards before) key call ≡ true
      → IsNewlyUsed before after key (unique_stored said (held_at after key))
  pub others : (key : List ℕ) → is_at_key (store_shards before) key call ≡ false
      → held_at after key ≡ held_at before key
  pub used : KeepsUniques before after
  pub bounds : KeepsBounds before after

-- ---- chains

-- the uniques that were given since the last loss, after these steps
abbrev pub uniques_after : List ℕ → List KeyStep → List ℕ
uniques_after before [] = before
uniques_after before (made name call said after ∷ steps) =
    uniques_after (uniques_with before (unique_stored said after)) steps
uniques_after before (lost ∷ steps) = uniques_after [] steps

-- the entries at a key that had this first, and whose items may be lost or not, are allowed steps to what the store has
pub record KeyStands (forget : Bool) (first : Option Item) (store : Store) (key : List ℕ) (entries : List MadeCall)
    (steps : List KeyStep) : Type 0 where
  pub calls : AreStepsOf entries steps
  pub allowed : AreAllowed forget first first steps
  pub ends : item_after first steps ≡ held_at store key
  pub new : HaveNewUniques (first_uniques first) steps
  pub used : AreUsed store key (uniques_after (first_uniques first) steps)
  pub given : AreGivenFrom store.least store.most steps
  pub losses : has_loss steps ≡ true → forget ≡ true

-- the same at each key, if the items of these keys may be lost
abbrev pub StandsAfter : (List ℕ → Bool) → (List ℕ → Option Item) → Store → List MadeCall → Type 0
StandsAfter may_lose first store entries = (key : List ℕ) → (steps : List KeyStep)
    × KeyStands (may_lose key) (first key) store key (placed_at (store_shards store) key entries) steps
