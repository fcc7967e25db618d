-- When calls that need one fact and take it away are more than those that can have made it.
use Rattle.std.specs.Prelude.{◌≡◌, ◌⊎◌, ℕ, ◌+◌, ◌<◌, Bool, true, false, List, length, if◌then◌else◌, All, Option, Some}
use Rattle.std.specs.List.{AllPairs, Contains, slice_get}
use Rattle.mc_allows.specs.declared.fact.Fact.{Fact}
use Rattle.mc_allows.specs.Facts.{may_hold_beside}
use Rattle.mc_allows.specs.Needs.{need_of, left_by}
use Rattle.zy_refute.specs.declared.observed.Observed.{Observed}
use Rattle.zy_refute.specs.declared.store.Store.{Store}
use Rattle.zy_refute.specs.Unmet.{IsNoMakerAt, IsNoStart, IsRefutation}

-- two calls have different names
abbrev pub HaveOtherNames : Observed → Observed → Type 0
HaveOtherNames one other = one.name ≡ other.name → ⊥

-- two numbers differ
abbrev pub Differ : ℕ → ℕ → Type 0
Differ one other = one ≡ other → ⊥

-- a sure call needs the fact, and surely leaves what excludes it
pub record TakesAway (fact : Fact) (x : Observed) : Type 0 where
  pub sure : x.sure ≡ true
  pub needs : need_of x.call x.shown ≡ fact
  pub leaves : may_hold_beside (left_by x.call x.shown) fact ≡ false

-- the call at this place of the list is such a call
pub record IsTaker (calls : List Observed) (fact : Fact) (at : ℕ) : Type 0 where
  pub x : Observed
  pub is : slice_get calls at ≡ Some x
  pub takes : TakesAway fact x

-- the call at this place is no source of the fact for any of the readers at these places
abbrev pub IsNoMakerFor : Store → List Observed → Fact → List ℕ → ℕ → Type 0
IsNoMakerFor store calls fact readers at = All (λ (reader : ℕ). IsNoMakerAt store calls fact at reader) readers

-- the call at each of the first places is listed, or is no source for any of the readers
abbrev pub AreSources : Store → List Observed → Fact → List ℕ → List ℕ → ℕ → Type 0
AreSources store calls fact readers sources end = (at : ℕ) → at < end
    → Contains sources at ⊎ IsNoMakerFor store calls fact readers at

-- the start is no source of the fact for the reader at this place
abbrev pub IsNoStartAt : Store → List Observed → Fact → ℕ → Type 0
IsNoStartAt store calls fact reader = (g : Observed) → slice_get calls reader ≡ Some g → IsNoStart store calls fact g

-- if the calls have different names, and one is named here, it is one of them, and they have no order
abbrev pub IsRefutationOfApart : Store → List Observed → Option ℕ → Type 0
IsRefutationOfApart store calls found = AllPairs HaveOtherNames calls → IsRefutation store calls found

-- one if the start may be a source
abbrev pub one_if : Bool → ℕ
one_if start = if start then 1 else 0

-- different sure calls at these places need the fact and take it away, and these sources are fewer, with the start if
-- it may be one
pub record AreShared (store : Store) (calls : List Observed) (fact : Fact) (readers sources : List ℕ) (start : Bool)
    : Type 0 where
  pub takers : All (IsTaker calls fact) readers
  pub apart : AllPairs Differ readers
  pub listed : AreSources store calls fact readers sources (length calls)
  pub begins : start ≡ false → All (IsNoStartAt store calls fact) readers
  pub fewer : length sources + one_if start < length readers
