-- Two lists in order that have the same entries at each shard are one list; what a merge keeps of its histories.
use Rattle.std.specs.Prelude.{◌==◌, filter, Option, None, Some, unwrap_or, ⊤}
use Rattle.std.proofs.Common.{◌≡◌, ℕ, ◌^◌, ◌<◌, ◌≤◌, List, [], ◌∷◌, length, Bool, true, false, cond, refl, sym, ap, ◌∙◌, subst, inl, inr, ⊎_elim, arith}
use Rattle.std.proofs.lemmas.Option.{slice_get_past}
use mathlib.Core.Logic.{dite}
use native.Mathlib.Decide.{ℕ_discrete}
use Rattle.mc_calls.specs.declared.entry.Entry.{Entry}
use Rattle.mc_calls.specs.Shard.{empty_state}
use Rattle.mc_calls.specs.Order.{of_connection, at_shard, AreBelow, history_of, StampsRise, AreStampsBelow, IsBefore, IsOrdered, IsMergeOf, AreCallsOf}
use Rattle.mc_calls.specs.History.{IsReplay, IsLegal, AreHistories}
use Rattle.mc_calls.proofs.EntryLemmas.{at_shard-here, at_shard-other}
use Rattle.mc_calls.proofs.LegalLemmas.{legal_whole}

-- an entry comes before each entry of a list
abbrev pub IsBeforeAll : Entry → List Entry → Type 0
IsBeforeAll x [] = ⊤
IsBeforeAll x (y ∷ ys) = IsBefore x y × IsBeforeAll x ys

-- each entry comes before all that follow it
abbrev pub IsSorted : List Entry → Type 0
IsSorted [] = ⊤
IsSorted (x ∷ xs) = IsBeforeAll x xs × IsSorted xs

before_through : (x y z : Entry) → IsBefore x y → IsBefore y z → IsBefore x z
before_through x y z first second = ⊎_elim
    (λ (lower : x.stamp < y.stamp). ⊎_elim (λ (next : y.stamp < z.stamp). inl (omega arith)) (λ (next : (y.stamp ≡ z.stamp) × (y.shard < z.shard)). inl (let same = next.0 in omega arith)) second)
    (λ (level : (x.stamp ≡ y.stamp) × (x.shard < y.shard)). ⊎_elim (λ (next : y.stamp < z.stamp). inl (let same = level.0 in omega arith)) (λ (next : (y.stamp ≡ z.stamp) × (y.shard < z.shard)). inr (level.0 ∙ next.0, let a = level.1 in let b = next.1 in omega arith)) second)
    first

not_both : (x y : Entry) → IsBefore x y → IsBefore y x → ⊥
not_both x y first second = ⊎_elim
    (λ (lower : x.stamp < y.stamp). ⊎_elim (λ (back : y.stamp < x.stamp). omega arith) (λ (back : (y.stamp ≡ x.stamp) × (y.shard < x.shard)). let same = back.0 in omega arith) second)
    (λ (level : (x.stamp ≡ y.stamp) × (x.shard < y.shard)). ⊎_elim (λ (back : y.stamp < x.stamp). let same = level.0 in omega arith) (λ (back : (y.stamp ≡ x.stamp) × (y.shard < x.shard)). let a = level.1 in let b = back.1 in omega arith) second)
    first

before_all_through : (x y : Entry) (ys : List Entry) → IsBefore x y → IsBeforeAll y ys → IsBeforeAll x ys
before_all_through x y [] first rest = tt
before_all_through x y (z ∷ zs) first rest = (before_through x y z first rest.0, before_all_through x y zs first rest.1)

-- a list in order is sorted
pub sorted : (before : Option Entry) (es : List Entry) → IsOrdered before es → IsSorted es
sorted before [] ordered = tt
sorted before (x ∷ []) ordered = (tt, tt)
sorted before (x ∷ y ∷ ys) ordered =
    let rest = sorted (Some x) (y ∷ ys) ordered.1 in ((ordered.1.0, before_all_through x y ys ordered.1.0 rest.0), rest)

-- where stamps rise, a list is sorted
pub sorted_by_stamp : (before : ℕ) (es : List Entry) → StampsRise before es → IsSorted es
sorted_by_stamp before [] stamps = tt
sorted_by_stamp before (x ∷ []) stamps = (tt, tt)
sorted_by_stamp before (x ∷ y ∷ ys) stamps =
    let rest = sorted_by_stamp x.stamp (y ∷ ys) stamps.1 in let next : IsBefore x y = inl stamps.1.0 in ((next, before_all_through x y ys next rest.0), rest)

module _ (p : Entry → Bool) where
  -- the first entry that passes a test comes after an entry that is before all
  first_passes : (x y : Entry) (ys rest : List Entry) → IsBeforeAll y ys → filter p ys ≡ x ∷ rest → IsBefore y x
  first_passes x y [] rest before is = absurd (cc)
  first_passes x y (z ∷ zs) rest before is = go (p z) is (first_passes x y zs rest before.1)
    where
      go : (b : Bool) → cond b (z ∷ filter p zs) (filter p zs) ≡ x ∷ rest → (filter p zs ≡ x ∷ rest → IsBefore y x) → IsBefore y x
      go true here later = let same : z ≡ x = cc in subst (IsBefore y) same before.0
      go false here later = later here

  before_all_filter : (x : Entry) (ys : List Entry) → IsBeforeAll x ys → IsBeforeAll x (filter p ys)
  before_all_filter x [] before = tt
  before_all_filter x (y ∷ ys) before = go (p y) (before_all_filter x ys before.1)
    where
      go : (b : Bool) → IsBeforeAll x (filter p ys) → IsBeforeAll x (cond b (y ∷ filter p ys) (filter p ys))
      go true rest = (before.0, rest)
      go false rest = rest

  -- what passes a test of a sorted list is sorted
  sorted_filter : (es : List Entry) → IsSorted es → IsSorted (filter p es)
  sorted_filter [] is = tt
  sorted_filter (x ∷ xs) is = go (p x) (before_all_filter x xs is.0) (sorted_filter xs is.1)
    where
      go : (b : Bool) → IsBeforeAll x (filter p xs) → IsSorted (filter p xs) → IsSorted (cond b (x ∷ filter p xs) (filter p xs))
      go true before rest = (before, rest)
      go false before rest = rest

  -- two tests, in either order
  filter_swap : (q : Entry → Bool) (es : List Entry) → filter p (filter q es) ≡ filter q (filter p es)
  filter_swap q [] = refl
  filter_swap q (x ∷ xs) = go (p x) (q x) refl refl (filter_swap q xs)
    where
      go : (a b : Bool) → p x ≡ a → q x ≡ b → filter p (filter q xs) ≡ filter q (filter p xs) → filter p (cond (q x) (x ∷ filter q xs) (filter q xs)) ≡ filter q (cond (p x) (x ∷ filter p xs) (filter p xs))
      go true true of_p of_q rest = rw (of_q, of_p, of_q) (ap (λ l. x ∷ l) rest)
      go true false of_p of_q rest = rw (of_q, of_p, of_q) rest
      go false true of_p of_q rest = rw (of_q, of_p) rest
      go false false of_p of_q rest = rw (of_q, of_p) rest

-- two sorted lists with the same entries at each shard are one list
pub same_sorted : (xs ys : List Entry) → IsSorted xs → IsSorted ys → ((shard : ℕ) → at_shard shard xs ≡ at_shard shard ys) → xs ≡ ys
same_sorted [] [] a b same = refl
same_sorted [] (y ∷ ys) a b same = let e = same y.shard ∙ at_shard-here y.shard y ys refl in cc
same_sorted (x ∷ xs) [] a b same = let e = sym (same x.shard) ∙ at_shard-here x.shard x xs refl in cc
same_sorted (x ∷ xs) (y ∷ ys) a b same = dite (ℕ_discrete x.shard y.shard)
    (λ e.
    let both : x ∷ at_shard x.shard xs ≡ y ∷ at_shard x.shard ys = sym (at_shard-here x.shard x xs refl) ∙ same x.shard ∙ at_shard-here x.shard y ys (sym e) in
    let head : x ≡ y = cc in
    let rest : (shard : ℕ) → at_shard shard xs ≡ at_shard shard ys = λ shard. dite (ℕ_discrete x.shard shard)
    (λ here. let two : x ∷ at_shard shard xs ≡ y ∷ at_shard shard ys = sym (at_shard-here shard x xs here) ∙ same shard ∙ at_shard-here shard y ys (sym e ∙ here) in cc)
    (λ other. sym (at_shard-other shard x xs other) ∙ same shard ∙ at_shard-other shard y ys (λ f. other (e ∙ f))) in
    λ i. head i ∷ same_sorted xs ys a.1 b.1 rest i)
    (λ ne.
    let in_ys : at_shard x.shard ys ≡ x ∷ at_shard x.shard xs = sym (at_shard-other x.shard y ys (λ f. ne (sym f))) ∙ sym (same x.shard) ∙ at_shard-here x.shard x xs refl in
    let in_xs : at_shard y.shard xs ≡ y ∷ at_shard y.shard ys = sym (at_shard-other y.shard x xs ne) ∙ same y.shard ∙ at_shard-here y.shard y ys refl in
    absurd (not_both x y (first_passes (λ e. e.shard == y.shard) y x xs (at_shard y.shard ys) a.0 in_xs) (first_passes (λ e. e.shard == x.shard) x y ys (at_shard x.shard xs) b.0 in_ys)))

-- histories have one merged list at most
pub merge_is_one : (histories : List (List Entry)) (es others : List Entry) → IsMergeOf histories es → IsMergeOf histories others → es ≡ others
merge_is_one histories es others one other =
    same_sorted es others (sorted None es one.ordered) (sorted None others other.ordered) (λ shard. one.parts shard ∙ sym (other.parts shard))

-- the merged list has the calls of a connection, each once and in their order
pub merge_keeps_calls : (connection : ℕ) (histories : List (List Entry)) (es calls : List Entry)
    → IsMergeOf histories es → AreCallsOf connection histories calls → of_connection connection es ≡ calls
merge_keeps_calls connection histories es calls merge own =
    same_sorted (of_connection connection es) calls
    (sorted_filter (λ e. e.tag.conn == connection) es (sorted None es merge.ordered))
    (sorted_by_stamp 0 calls own.stamps)
    (λ shard. filter_swap (λ e. e.shard == shard) (λ e. e.tag.conn == connection) es ∙ ap (of_connection connection) (merge.parts shard) ∙ own.parts shard)

-- ---- legal

-- a list whose parts from a shard on are empty is on the shards below
pub below_of_parts : (shards : ℕ) (es : List Entry) → ((shard : ℕ) → shards ≤ shard → at_shard shard es ≡ []) → AreBelow shards es
below_of_parts shards [] none = tt
below_of_parts shards (e ∷ es) none = (
  (let beyond : shards ≤ e.shard → ⊥ = (λ past. let some : e ∷ at_shard e.shard es ≡ [] = sym (at_shard-here e.shard e es refl) ∙ none e.shard past in absurd (cc)) in omega arith),
  below_of_parts shards es (λ shard past. rest_none shard (e.shard == shard) (none shard past)),
)
  where
    rest_none : (shard : ℕ) (b : Bool) → cond b (e ∷ at_shard shard es) (at_shard shard es) ≡ [] → at_shard shard es ≡ []
    rest_none shard true is = absurd (cc)
    rest_none shard false is = is

-- there is no history past the last
pub history_of-past : (histories : List (List Entry)) (shard : ℕ) → length histories ≤ shard → history_of histories shard ≡ []
history_of-past histories shard past = ap (λ found. unwrap_or found []) (slice_get_past histories shard past)

-- the merged list of histories is legal
pub merge_is_legal : (shards : ℕ) (histories : List (List Entry)) (es : List Entry) → AreHistories shards histories → IsMergeOf histories es → IsLegal shards es
merge_is_legal shards histories es all merge =
    legal_whole shards (λ number. empty_state) es
    (below_of_parts shards es (λ shard past. merge.parts shard ∙ history_of-past histories shard (subst (λ n. n ≤ shard) (sym all.count) past)))
    (λ shard. subst (IsReplay shards shard empty_state) (sym (merge.parts shard)) (all.each shard).replay)

-- what is below a limit in each part is below it in the list
pub stamps_of_parts : (limit : ℕ) (es : List Entry) → ((shard : ℕ) → AreStampsBelow limit (at_shard shard es)) → AreStampsBelow limit es
stamps_of_parts limit [] parts = tt
stamps_of_parts limit (e ∷ es) parts = (
  (subst (AreStampsBelow limit) (at_shard-here e.shard e es refl) (parts e.shard)).0,
  stamps_of_parts limit es (λ shard. rest (e.shard == shard) (at_shard shard es) (parts shard)),
)
  where
    rest : (b : Bool) (part : List Entry) → AreStampsBelow limit (cond b (e ∷ part) part) → AreStampsBelow limit part
    rest true part below = below.1
    rest false part below = below

-- the stamps of the merged list are those of the histories
pub merge_is_below : (shards : ℕ) (histories : List (List Entry)) (es : List Entry) → AreHistories shards histories → IsMergeOf histories es → AreStampsBelow (2 ^ 60) es
merge_is_below shards histories es all merge =
    stamps_of_parts (2 ^ 60) es (λ shard. subst (AreStampsBelow (2 ^ 60)) (sym (merge.parts shard)) (all.limit shard))
