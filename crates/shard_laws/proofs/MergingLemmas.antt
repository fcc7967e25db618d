-- Histories of shards, whose stamps rise, have a merged list.
use Rattle.std.specs.Prelude.{Option, None, Some}
use Rattle.std.proofs.Common.{◌≡◌, ◌≢◌, ◌⊎◌, ℕ, zero, suc, ◌+◌, ◌<◌, ◌≤◌, List, [], ◌∷◌, refl, sym, ap, ◌∙◌, subst, inl, inr, ⊎_elim, arith}
use Rattle.std.proofs.lemmas.Bool.{cases_lt}
use mathlib.Core.Logic.{dite}
use native.Mathlib.Decide.{ℕ_discrete}
use Rattle.mc_calls.specs.declared.entry.Entry.{Entry}
use Rattle.mc_calls.specs.Order.{at_shard, AreAt, AreByShard, history_of, StampsRise, IsBefore, IsBehind, IsOrdered, IsMergeOf}
use Rattle.mc_calls.proofs.EntryLemmas.{at_shard-here, at_shard-other}

-- ---- one entry

-- an entry comes before another one or after it, unless stamp and shard are the same
before_or_behind : (x y : Entry) → IsBefore x y ⊎ (IsBefore y x ⊎ ((x.stamp ≡ y.stamp) × (x.shard ≡ y.shard)))
before_or_behind x y = ⊎_elim
    (λ (lower : x.stamp < y.stamp). inl (inl lower))
    (λ (rest : (y.stamp < x.stamp) ⊎ (x.stamp ≡ y.stamp)). ⊎_elim
    (λ (higher : y.stamp < x.stamp). inr (inl (inl higher)))
    (λ (level : x.stamp ≡ y.stamp). ⊎_elim
    (λ (lower : x.shard < y.shard). inl (inr (level, lower)))
    (λ (rest : (y.shard < x.shard) ⊎ (x.shard ≡ y.shard)). ⊎_elim
    (λ (higher : y.shard < x.shard). inr (inl (inr (sym level, higher))))
    (λ (same : x.shard ≡ y.shard). inr (inr (level, same)))
    rest)
    (three x.shard y.shard))
    rest)
    (three x.stamp y.stamp)
  where
    three : (m n : ℕ) → (m < n) ⊎ ((n < m) ⊎ (m ≡ n))
    three m n = dite (ℕ_discrete m n) (λ same. inr (inr same)) (λ other. ⊎_elim (λ (lower : m < n). inl lower) (λ (least : n ≤ m). inr (inl (omega arith))) (cases_lt m n))

-- the entry's place in a list in order: its shard's part has only stamps above
pub record Placed (before : Option Entry) (e : Entry) (ys : List Entry) : Type 0 where
  pub whole : List Entry
  pub ordered : IsOrdered before whole
  pub parts : (shard : ℕ) → at_shard shard whole ≡ at_shard shard (e ∷ ys)

-- a list that begins with another's first entry, and goes on with one that has a further entry
behind_first : (e y : Entry) (ys zs : List Entry) → e.shard ≢ y.shard → ((shard : ℕ) → at_shard shard zs ≡ at_shard shard (e ∷ ys)) → (shard : ℕ)
    → at_shard shard (y ∷ zs) ≡ at_shard shard (e ∷ y ∷ ys)
behind_first e y ys zs apart same shard = dite (ℕ_discrete y.shard shard)
    (λ is. let other : e.shard ≢ shard = λ h. apart (h ∙ sym is) in
    at_shard-here shard y zs is ∙ ap (λ l. y ∷ l) (same shard ∙ at_shard-other shard e ys other)
    ∙ sym (at_shard-other shard e (y ∷ ys) other ∙ at_shard-here shard y ys is))
    (λ other. at_shard-other shard y zs other ∙ same shard ∙ dite (ℕ_discrete e.shard shard)
    (λ is. at_shard-here shard e ys is ∙ sym (at_shard-here shard e (y ∷ ys) is ∙ ap (λ l. e ∷ l) (at_shard-other shard y ys other)))
    (λ not. at_shard-other shard e ys not ∙ sym (at_shard-other shard e (y ∷ ys) not ∙ at_shard-other shard y ys other)))

-- the entries at an entry's own shard have higher stamps
above : (e y : Entry) (ys : List Entry) → StampsRise e.stamp (at_shard e.shard (y ∷ ys)) → e.shard ≡ y.shard → e.stamp < y.stamp
above e y ys stamps same = (subst (StampsRise e.stamp) (at_shard-here e.shard y ys (sym same)) stamps).0

-- so an entry that does not come after it is at another shard
apart : (e y : Entry) → (e.shard ≡ y.shard → e.stamp < y.stamp) → IsBefore y e ⊎ ((e.stamp ≡ y.stamp) × (e.shard ≡ y.shard)) → e.shard ≢ y.shard
apart e y higher rest same = ⊎_elim
    (λ (first : IsBefore y e). ⊎_elim
    (λ (lower : y.stamp < e.stamp). let up = higher same in omega arith)
    (λ (level : (y.stamp ≡ e.stamp) × (y.shard < e.shard)). let lower = level.1 in omega arith)
    first)
    (λ (level : (e.stamp ≡ y.stamp) × (e.shard ≡ y.shard)). let up = higher same in let is = level.0 in omega arith)
    rest

place : (before : Option Entry) (e : Entry) (ys : List Entry) → IsBehind before e → IsOrdered before ys → StampsRise e.stamp (at_shard e.shard ys) → Placed before e ys
place before e [] behind ordered stamps = record { whole = e ∷ []; ordered = (behind, tt); parts = λ shard. refl }
place before e (y ∷ ys) behind ordered stamps = ⊎_elim
    (λ (first : IsBefore e y). record { whole = e ∷ y ∷ ys; ordered = (behind, (first, ordered.1)); parts = λ shard. refl })
    (λ (rest : IsBefore y e ⊎ ((e.stamp ≡ y.stamp) × (e.shard ≡ y.shard))). further (apart e y (above e y ys stamps) rest) rest (λ first. place (Some y) e ys first ordered.1))
    (before_or_behind e y)
  where
    further : e.shard ≢ y.shard → IsBefore y e ⊎ ((e.stamp ≡ y.stamp) × (e.shard ≡ y.shard)) → (IsBefore y e → StampsRise e.stamp (at_shard e.shard ys) → Placed (Some y) e ys) → Placed before e (y ∷ ys)
    further differ rest placed = ⊎_elim
        (λ (first : IsBefore y e).
        let more = placed first (subst (StampsRise e.stamp) (at_shard-other e.shard y ys (λ same. differ (sym same))) stamps) in
        record { whole = y ∷ more.whole; ordered = (ordered.0, more.ordered); parts = behind_first e y ys more.whole differ more.parts })
        (λ (level : (e.stamp ≡ y.stamp) × (e.shard ≡ y.shard)). absurd (differ level.1))
        rest

-- ---- one history

-- a list in order, with these entries of one shard and those of others
pub record Merging (shard : ℕ) (es ys : List Entry) : Type 0 where
  pub whole : List Entry
  pub ordered : IsOrdered None whole
  pub here : at_shard shard whole ≡ es
  pub others : (other : ℕ) → shard ≢ other → at_shard other whole ≡ at_shard other ys

merge_one : (shard before : ℕ) (es ys : List Entry) → AreAt shard es → StampsRise before es → IsOrdered None ys → at_shard shard ys ≡ [] → Merging shard es ys
merge_one shard before [] ys places stamps ordered none = record { whole = ys; ordered = ordered; here = none; others = λ other apart. refl }
merge_one shard before (e ∷ es) ys places stamps ordered none =
    let more = merge_one shard e.stamp es ys places.1 stamps.1 ordered none in
    let rising : StampsRise e.stamp (at_shard e.shard more.whole) = subst (StampsRise e.stamp) (sym (ap (λ s. at_shard s more.whole) places.0 ∙ more.here)) stamps.1 in
    let all = place None e more.whole tt more.ordered rising in
    record {
      whole = all.whole;
      ordered = all.ordered;
      here = all.parts shard ∙ at_shard-here shard e more.whole places.0 ∙ ap (λ l. e ∷ l) more.here;
      others = λ other apart. all.parts other ∙ at_shard-other other e more.whole (λ same. apart (sym places.0 ∙ same)) ∙ more.others other apart;
    }

-- ---- all histories

-- a list in order, with these histories as those of the shards from one on
pub record MergedFrom (first : ℕ) (histories : List (List Entry)) : Type 0 where
  pub whole : List Entry
  pub ordered : IsOrdered None whole
  pub below : (shard : ℕ) → shard < first → at_shard shard whole ≡ []
  pub parts : (i : ℕ) → at_shard (i + first) whole ≡ history_of histories i

merge_from : (first : ℕ) (histories : List (List Entry)) → ((i : ℕ) → AreAt (i + first) (history_of histories i)) → ((i : ℕ) → StampsRise 0 (history_of histories i)) → MergedFrom first histories
merge_from first [] places stamps = record { whole = []; ordered = tt; below = λ shard less. refl; parts = λ i. refl }
merge_from first (es ∷ rest) places stamps =
    let more = merge_from (first + 1) rest
    (λ i. subst (λ n. AreAt n (history_of rest i)) (omega arith) (places (suc i))) (λ i. stamps (suc i)) in
    let start : 0 + first ≡ first = omega arith in
    let all = merge_one first 0 es more.whole (subst (λ n. AreAt n es) start (places zero)) (stamps zero) more.ordered (more.below first (omega arith)) in
    record {
      whole = all.whole;
      ordered = all.ordered;
      below = λ shard less. all.others shard (λ same. omega arith) ∙ more.below shard (omega arith);
      parts = λ i. part all.whole more.whole i all.here all.others more.parts;
    }
  where
    part : (whole whole' : List Entry) (i : ℕ) → at_shard first whole ≡ es → ((other : ℕ) → first ≢ other → at_shard other whole ≡ at_shard other whole')
        → ((i : ℕ) → at_shard (i + (first + 1)) whole' ≡ history_of rest i) → at_shard (i + first) whole ≡ history_of (es ∷ rest) i
    part whole whole' zero here others parts = let same : 0 + first ≡ first = omega arith in ap (λ n. at_shard n whole) same ∙ here
    part whole whole' (suc i) here others parts =
        let same : suc i + first ≡ i + (first + 1) = omega arith in
        others (suc i + first) (λ is. omega arith) ∙ ap (λ n. at_shard n whole') same ∙ parts i

-- histories of shards have a merged list
pub merge_exists : (histories : List (List Entry)) → AreByShard histories → ((shard : ℕ) → StampsRise 0 (history_of histories shard)) → (es : List Entry) × IsMergeOf histories es
merge_exists histories places stamps =
    let all = merge_from 0 histories (λ i. subst (λ n. AreAt n (history_of histories i)) (omega arith) (places i)) stamps in
    (all.whole, record { ordered = all.ordered; parts = λ shard. let same : shard ≡ shard + 0 = omega arith in ap (λ n. at_shard n all.whole) same ∙ all.parts shard })

-- ---- two entries

-- two histories of one entry each, and a list with these parts
two : (x y : Entry) (es : List Entry) → IsOrdered None es → at_shard 0 es ≡ x ∷ [] → at_shard 1 es ≡ y ∷ [] → ((shard : ℕ) → at_shard (suc (suc shard)) es ≡ []) → IsMergeOf ((x ∷ []) ∷ (y ∷ []) ∷ []) es
two x y es ordered first second none = record { ordered = ordered; parts = part }
  where
    part : (shard : ℕ) → at_shard shard es ≡ history_of ((x ∷ []) ∷ (y ∷ []) ∷ []) shard
    part zero = first
    part (suc zero) = second
    part (suc (suc shard)) = none shard

pub merge_lower : (x y : Entry) → x.shard ≡ 0 → y.shard ≡ 1 → y.stamp < x.stamp → IsMergeOf ((x ∷ []) ∷ (y ∷ []) ∷ []) (y ∷ x ∷ [])
merge_lower x y of_x of_y lower = two x y (y ∷ x ∷ []) (tt, (inl lower, tt))
    (at_shard-other 0 y (x ∷ []) (λ is. omega arith) ∙ at_shard-here 0 x [] of_x)
    (at_shard-here 1 y (x ∷ []) of_y ∙ ap (λ l. y ∷ l) (at_shard-other 1 x [] (λ is. omega arith)))
    (λ shard. at_shard-other (suc (suc shard)) y (x ∷ []) (λ is. omega arith) ∙ at_shard-other (suc (suc shard)) x [] (λ is. omega arith))

pub merge_level : (x y : Entry) → x.shard ≡ 0 → y.shard ≡ 1 → x.stamp ≡ y.stamp → IsMergeOf ((x ∷ []) ∷ (y ∷ []) ∷ []) (x ∷ y ∷ [])
merge_level x y of_x of_y level = two x y (x ∷ y ∷ []) (tt, (inr (level, omega arith), tt))
    (at_shard-here 0 x (y ∷ []) of_x ∙ ap (λ l. x ∷ l) (at_shard-other 0 y [] (λ is. omega arith)))
    (at_shard-other 1 x (y ∷ []) (λ is. omega arith) ∙ at_shard-here 1 y [] of_y)
    (λ shard. at_shard-other (suc (suc shard)) x (y ∷ []) (λ is. omega arith) ∙ at_shard-other (suc (suc shard)) y [] (λ is. omega arith))
