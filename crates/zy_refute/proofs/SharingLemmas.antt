-- Readers and sources, one more at a time.
use Rattle.std.proofs.Common.{◌≡◌, ◌⊎◌, inl, inr, ℕ, zero, suc, ◌+◌, ◌<◌, ◌≤◌, take, List, [], ◌∷◌, ◌++◌, length, All, AllPairs, Contains, arith, refl, sym, subst}
use Rattle.std.specs.List.Sorted.{IsStrictlyIncreasing}
use Rattle.std.proofs.lemmas.List.Kept.{AllPairs-from_increasing}
use Rattle.std.proofs.lemmas.List.Elements.{All-nil, All-cons, All-head, All-tail, Contains-append_left, Contains-append_right}
use mathlib.Core.Logic.{dite}
use native.Mathlib.Decide.{dec_lt}
use Rattle.mc_allows.specs.declared.fact.Fact.{Fact}
use Rattle.zy_refute.specs.declared.observed.Observed.{Observed}
use Rattle.zy_refute.specs.declared.store.Store.{Store}
use Rattle.zy_refute.specs.Shared.{Differ, IsNoMakerFor, AreSources}

pub apart : (xs : List ℕ) → IsStrictlyIncreasing xs → AllPairs Differ xs
apart xs rises i j d before within = λ same. let low = AllPairs-from_increasing xs rises i j d before within in omega (arith, low, same)

-- what holds of the first numbers holds of all, if these are all
pub all_taken : (P : ℕ → Type 0) (xs : List ℕ) (i : ℕ) → length xs ≤ i → All P (take i xs) → All P xs
all_taken P [] i long all = All-nil P
all_taken P (x ∷ xs) zero long all = absurd (omega arith)
all_taken P (x ∷ xs) (suc i) long all = All-cons P x xs (All-head P x (take i xs) all) (all_taken P xs i (omega arith) (All-tail P x (take i xs) all))

one_more : (store : Store) (calls : List Observed) (fact : Fact) (readers sources more : List ℕ) (end : ℕ) → AreSources store calls fact readers sources end
    → Contains (sources ++ more) end ⊎ IsNoMakerFor store calls fact readers end → AreSources store calls fact readers (sources ++ more) (end + 1)
one_more store calls fact readers sources more end before here at below = dite (dec_lt at end) (λ low. go (before at low)) (λ high. let same : end ≡ at = omega (arith, below, high) in subst (λ (n : ℕ). Contains (sources ++ more) n ⊎ IsNoMakerFor store calls fact readers n) same here)
  where
    go : Contains sources at ⊎ IsNoMakerFor store calls fact readers at → Contains (sources ++ more) at ⊎ IsNoMakerFor store calls fact readers at
    go (inl there) = inl (Contains-append_left sources more at there)
    go (inr none) = inr none

-- one source more is listed
pub listed_more : (store : Store) (calls : List Observed) (fact : Fact) (readers sources : List ℕ) (end : ℕ) → AreSources store calls fact readers sources end → AreSources store calls fact readers (sources ++ end ∷ []) (end + 1)
listed_more store calls fact readers sources end before = one_more store calls fact readers sources (end ∷ []) end before (inl (Contains-append_right sources (end ∷ []) end (0, omega arith, refl)))

-- one call more is no source
pub passed_more : (store : Store) (calls : List Observed) (fact : Fact) (readers sources : List ℕ) (end : ℕ) → AreSources store calls fact readers sources end → IsNoMakerFor store calls fact readers end → AreSources store calls fact readers sources (end + 1)
passed_more store calls fact readers sources end before here at below =
    dite (dec_lt at end) (λ low. before at low) (λ high. let same : end ≡ at = omega (arith, below, high) in subst (λ (n : ℕ). Contains sources n ⊎ IsNoMakerFor store calls fact readers n) same (inr here))
