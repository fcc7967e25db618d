-- The calls at a key.
use Rattle.std.specs.Prelude.{◌≡◌, ◌⊎◌, ℕ, Bool, true, List, Some, All}
use Rattle.std.specs.List.{AllPairs, Contains, slice_get}
use Rattle.mc_allows.specs.declared.call_name.CallName.{CallName}
use Rattle.zy_refute.specs.declared.observed.Observed.{Observed}
use Rattle.zy_refute.specs.declared.store.Store.{Store}
use Rattle.zy_refute.specs.Shared.{HaveOtherNames}
use Rattle.zy_verdict.specs.Recorded.{Recorded}
use Rattle.zy_verdict.specs.Entries.{is_at_key}
use Rattle.zy_verdict.specs.Losses.{MayLoseAt}
use Rattle.zy_verdict.specs.Course.{HasCourse}
use Rattle.zy_observed.specs.Shown.{AreShown, call_on_shard}

-- a call is on the key, or is a flush of the key's shard
abbrev pub is_call_at_key : ℕ → List ℕ → Observed → Bool
is_call_at_key shards key x = is_at_key shards key (call_on_shard x)

-- a call is one of these, and at the key
pub record IsOneAtKey (shards : ℕ) (key : List ℕ) (calls : List Observed) (x : Observed) : Type 0 where
  pub there : Contains calls x
  pub about : is_call_at_key shards key x ≡ true

-- these are the calls at the key, in any order
pub record AreCallsAt (shards : ℕ) (key : List ℕ) (calls own : List Observed) : Type 0 where
  pub each : All (IsOneAtKey shards key calls) own
  pub all : (x : Observed) → Contains calls x → is_call_at_key shards key x ≡ true → Contains own x
  pub once : AllPairs HaveOtherNames calls → AllPairs HaveOtherNames own

-- what the server may do to the item of a key is no more than this
pub record IsStoreAt (r : Recorded) (key : List ℕ) (store : Store) : Type 0 where
  pub warm : r.warm ≡ true → store.warm ≡ true
  pub forget : MayLoseAt r key → store.forget ≡ true

-- the key has no course, in any recording that shows these calls
abbrev pub HasNoCourse : ℕ → Store → List Observed → List ℕ → Type 0
HasNoCourse shards store calls key = (r : Recorded) → r.shards ≡ shards → AreShown r calls → IsStoreAt r key store
    → HasCourse r key → ⊥

-- one of the calls has this name, and is at the key
pub record IsNamedAt (shards : ℕ) (key : List ℕ) (calls : List Observed) (name : CallName) : Type 0 where
  pub x : Observed
  pub is : IsOneAtKey shards key calls x
  pub named : name ≡ x.name
