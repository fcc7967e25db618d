-- When no call can have made what another one needs.
use Rattle.std.specs.Prelude.{◌≡◌, ◌⊎◌, ℕ, ◌<◌, true, false, List, ◌++◌, length, Option, None, Some, All}
use Rattle.std.specs.List.{slice_get}
use Rattle.mc_calls.specs.declared.call.Call.{Call}
use Rattle.mc_calls.specs.declared.call.Call.TheVariants.{Append, Prepend}
use Rattle.mc_allows.specs.declared.fact.Fact.{Fact}
use Rattle.mc_allows.specs.Facts.{holds_without, may_hold_beside}
use Rattle.mc_allows.specs.Needs.{left_by}
use Rattle.mc_allows.specs.Makers.{may_make}
use Rattle.mc_allows.specs.Turns.{with_value, SaysValue}
use Rattle.zy_refute.specs.declared.observed.Observed.{Observed}
use Rattle.zy_refute.specs.declared.store.Store.{Store}
use Rattle.zy_refute.specs.declared.need.Need.{Need}
use Rattle.zy_refute.specs.Observed.{is_surely_before}
use Rattle.zy_refute.specs.Courses.{IsNeverMet, HaveNoOrder}

-- a sure call leaves what excludes the fact, surely before the reader
pub record IsBreaker (fact : Fact) (reader b : Observed) : Type 0 where
  pub sure : b.sure ≡ true
  pub sooner : is_surely_before b reader ≡ true
  pub leaves : may_hold_beside (left_by b.call b.shown) fact ≡ false

-- the call is one of these, and such a call
pub record IsBreakerIn (calls : List Observed) (fact : Fact) (reader b : Observed) : Type 0 where
  pub at : ℕ
  pub is : slice_get calls at ≡ Some b
  pub breaks : IsBreaker fact reader b

-- there is such a call
pub record HasBreaker (calls : List Observed) (fact : Fact) (reader : Observed) : Type 0 where
  pub b : Observed
  pub breaker : IsBreakerIn calls fact reader b

-- there is one that is surely after this call
pub record IsUndone (calls : List Observed) (fact : Fact) (x reader : Observed) : Type 0 where
  pub b : Observed
  pub breaker : IsBreakerIn calls fact reader b
  pub later : is_surely_before x b ≡ true

-- the call makes this value by joining its piece to the rest
abbrev pub IsRest : Call → List ℕ → List ℕ → Type 0
IsRest (Append key piece) value rest = value ≡ rest ++ piece
IsRest (Prepend key piece) value rest = value ≡ piece ++ rest
IsRest call value rest = ⊥

-- the call can only have joined its piece to a rest that was never there
pub record HasNoRest (store : Store) (calls : List Observed) (fact : Fact) (at : ℕ) (x : Observed) : Type 0 where
  pub value : List ℕ
  pub says : SaysValue fact value
  pub rest : List ℕ
  pub joins : IsRest x.call value rest
  pub never : IsNeverMet store calls (with_value fact rest) at

-- the call is no source of the fact for another one: it comes later, was undone, or joined to what was never there
abbrev pub IsNoSource : Store → List Observed → Fact → ℕ → Observed → Observed → Type 0
IsNoSource store calls fact at x reader =
    (is_surely_before reader x ≡ true) ⊎ (IsUndone calls fact x reader ⊎ HasNoRest store calls fact at x)

-- the call is the reader, or no source of the fact, if it may make the fact at all
abbrev pub IsNoMaker : Store → List Observed → Fact → ℕ → Observed → ℕ → Observed → Type 0
IsNoMaker store calls fact at x reader g =
    may_make x.call x.shown fact ≡ true → (at ≡ reader) ⊎ IsNoSource store calls fact at x g

-- the same, whatever calls are at these places
abbrev pub IsNoMakerAt : Store → List Observed → Fact → ℕ → ℕ → Type 0
IsNoMakerAt store calls fact at reader = (x g : Observed) → slice_get calls at ≡ Some x → slice_get calls reader ≡ Some g
    → IsNoMaker store calls fact at x reader g

-- no loss makes the fact
abbrev pub IsLossless : Store → Fact → Type 0
IsLossless store fact = holds_without fact ≡ true → (store.forget ≡ false) × (store.warm ≡ false)

-- the start is no source of the fact for the reader
abbrev pub IsNoStart : Store → List Observed → Fact → Observed → Type 0
IsNoStart store calls fact g =
    ((store.warm ≡ false) × (holds_without fact ≡ false)) ⊎ HasBreaker calls fact g

-- none of the first calls is a source of the fact for the reader
abbrev pub AreNoSources : Store → List Observed → Fact → ℕ → ℕ → Type 0
AreNoSources store calls fact reader end = (at : ℕ) → at < end → IsNoMakerAt store calls fact at reader

-- each of these needs is never met
abbrev pub AreNeverMet : Store → List Observed → List Need → Type 0
AreNeverMet store calls needs = All (λ (need : Need). IsNeverMet store calls need.fact need.reader) needs

-- if a call is named, it is one of the calls, and these have no order
abbrev pub IsRefutation : Store → List Observed → Option ℕ → Type 0
IsRefutation store calls None = Unit {0}
IsRefutation store calls (Some at) = (at < length calls) × HaveNoOrder store calls
