-- Keys that are added to a set.
use Rattle.std.proofs.Common.{◌≡◌, ℕ, Bool, true, false, cond, ◌||◌, List, [], ◌∷◌, Result, Ok, Err, OnOk, AllPairs, refl, sym, ap, ◌∙◌, subst}
use Rattle.std.specs.BTreeMap.{is_at}
use Rattle.std.specs.BTreeSet.{BTreeSet, contains, IsOrdered, Updates}
use Rattle.std.specs.Cmp.{eq_by_cmp_equiv}
use Rattle.std.specs.Cmp.Lexicographic.{slice_cmp, nat_list_cmp_total}
use Rattle.std.specs.List.Sorted.{IsStrictlySortedBy}
use Rattle.std.specs.Ordering.{nat_cmp}
use Rattle.std.proofs.lemmas.List.{map-id}
use Rattle.std.specs.Prelude.{⊤}
use Rattle.zy_items.specs.Standing.{IsKeyBefore}
use Rattle.zy_confirm.proofs.GatherLemmas.{rising}
use Rattle.zy_base.specs.declared.outside.NoMemory.{NoMemory}
use Rattle.zy_explain.specs.Lasting.{is_among, AddsAll, IsUnion}

by_either : (at old : Bool) → cond at true old ≡ (old || (at || false))
by_either true true = refl
by_either true false = refl
by_either false true = refl
by_either false false = refl

-- a key that was inserted
pub one_added : (old new : BTreeSet (List ℕ)) (key : List ℕ) → Updates (slice_cmp nat_cmp) old new key true → AddsAll (key ∷ []) old new
one_added old new key updates other =
    updates.0 other
    ∙ by_either (is_at (slice_cmp nat_cmp key) other) (contains (slice_cmp nat_cmp) old other)
    ∙ ap (λ at. contains (slice_cmp nat_cmp) old other || (at || false)) ((eq_by_cmp_equiv nat_list_cmp_total).symm key other)

-- the keys of two sets were added to an empty one
both_added : (old mid new one other : BTreeSet (List ℕ)) → old.keys ≡ [] → AddsAll one.keys old mid → AddsAll other.keys mid new → IsUnion one other new
both_added old mid new one other none first second key =
    second key
    ∙ ap (λ b. b || contains (slice_cmp nat_cmp) other key) (first key ∙ ap (λ (keys : List (List ℕ)). is_among keys key || contains (slice_cmp nat_cmp) one key) none)

pub union_by : (old mid new one other : BTreeSet (List ℕ)) → old.keys ≡ [] → AddsAll one.keys old mid → (r : Result ⊤ NoMemory) → OnOk r (AddsAll other.keys mid new) → OnOk r (IsUnion one other new)
union_by old mid new one other none first (Ok done) second = both_added old mid new one other none first second
union_by old mid new one other none first (Err refused) second = tt

-- the keys of a set rise
pub keys_rise : (all : BTreeSet (List ℕ)) → IsOrdered (slice_cmp nat_cmp) all → AllPairs IsKeyBefore all.keys
keys_rise all ordered = rising (λ (key : List ℕ). key) all.keys (subst (IsStrictlySortedBy (slice_cmp nat_cmp)) (sym (map-id all.keys)) ordered)
