-- The merged list as a function: it is the merge of the histories, and the least of their first entries is its first.
use Rattle.std.proofs.Common.{◌++◌, ◌≡◌, ◌≢◌, inl, inr, ℕ, zero, suc, ◌+◌, ◌<◌, true, false, List, [], ◌∷◌, length, refl, sym, ◌∙◌, ap, subst, arith}
use Rattle.std.specs.Prelude.{Option, None, Some, IfSome, IfNone}
use Rattle.std.specs.List.{sum_by}
use Rattle.std.proofs.lemmas.Bool.{cases_Bool}
use Rattle.std.proofs.lemmas.List.Sums.{sum_by-append}
use Rattle.std.proofs.lemmas.Bool.Decides.{nat_tests, eqb_tells}
use Rattle.mc_calls.specs.declared.entry.Entry.{Entry}
use Rattle.mc_calls.specs.Order.{at_shard, AreAt, history_of, StampsRise, IsBefore, IsBehind, IsOrdered, IsMergeOf}
use Rattle.mc_calls.proofs.EntryLemmas.{at_shard-here, at_shard-other}
use Rattle.mc_calls.proofs.MergeLemmas.{merge_is_one}
use Rattle.zy_journal.specs.Merged.{is_earlier, inserted, inserted_all, merged, AreInOrder}
use Rattle.zy_journal.specs.Walk.{first_stamp, head_of, IsLeast, IsTakenAt, IsNext}
use Rattle.zy_journal.proofs.OrderLemmas.{ordered_rising, ordered_rest}

-- ---- one entry

before_is : (x y : Entry) → is_earlier x.stamp x.shard y.stamp y.shard ≡ true → IsBefore x y
before_is x y is = elim (eqb_tells x.stamp y.stamp) [
  | inl same ↦ inr (same.1, grind (arith, nat_tests, is, same.1))
  | inr other ↦ inl (grind (arith, nat_tests, is, other.0))
]

-- what does not come after an entry comes before it, at another shard
earlier_back : (a s b t : ℕ) → s ≢ t → is_earlier a s b t ≡ false → is_earlier b t a s ≡ true
earlier_back a s b t other not = grind (arith, nat_tests, other, not)

higher : (a s b t : ℕ) → a < b → is_earlier a s b t ≡ false → ⊥
higher a s b t up not = grind (arith, nat_tests, up, not)

-- so its shard is another
apart : (e y : Entry) (ys : List Entry) → StampsRise e.stamp (at_shard e.shard (y ∷ ys)) → is_earlier e.stamp e.shard y.stamp y.shard ≡ false → y.shard ≢ e.shard
apart e y ys stamps not same = higher e.stamp e.shard y.stamp y.shard (subst (StampsRise e.stamp) (at_shard-here e.shard y ys same) stamps).0 not

put_ordered : (before : Option Entry) (e : Entry) (ys : List Entry) → IsBehind before e → IsOrdered before ys → StampsRise e.stamp (at_shard e.shard ys) → IsOrdered before (inserted e ys)
unfolding inserted
put_ordered before e [] behind ordered stamps = (behind, tt)
put_ordered before e (y ∷ ys) behind ordered stamps =
    elim (cases_Bool (is_earlier e.stamp e.shard y.stamp y.shard)) [
      | inl is ↦ rw is (behind, (before_is e y is, ordered.1))
      | inr not ↦
          let other : y.shard ≢ e.shard = apart e y ys stamps not in
          let first : IsBefore y e = before_is y e (earlier_back e.stamp e.shard y.stamp y.shard (λ same. other (sym same)) not) in
          rw not (ordered.0, put_ordered (Some y) e ys first ordered.1 (subst (StampsRise e.stamp) (at_shard-other e.shard y ys other) stamps))
    ]

put_parts : (e : Entry) (ys : List Entry) → StampsRise e.stamp (at_shard e.shard ys) → (shard : ℕ) → at_shard shard (inserted e ys) ≡ at_shard shard (e ∷ ys)
unfolding inserted
put_parts e [] stamps shard = refl
put_parts e (y ∷ ys) stamps shard =
    elim (cases_Bool (is_earlier e.stamp e.shard y.stamp y.shard)) [
      | inl is ↦ rw is refl
      | inr not ↦
          let other : y.shard ≢ e.shard = apart e y ys stamps not in
          let on : at_shard shard (inserted e ys) ≡ at_shard shard (e ∷ ys) = put_parts e ys (subst (StampsRise e.stamp) (at_shard-other e.shard y ys other) stamps) shard in
          rw not (swapped e y ys (inserted e ys) other shard on)
    ]
  where
    swapped : (e y : Entry) (ys zs : List Entry) → y.shard ≢ e.shard → (shard : ℕ) → at_shard shard zs ≡ at_shard shard (e ∷ ys) → at_shard shard (y ∷ zs) ≡ at_shard shard (e ∷ y ∷ ys)
    swapped e y ys zs other shard on =
        elim (eqb_tells y.shard shard) [
          | inl is ↦
              let not : e.shard ≢ shard = λ h. other (is.1 ∙ sym h) in
              at_shard-here shard y zs is.1 ∙ ap (λ (l : List Entry). y ∷ l) (on ∙ at_shard-other shard e ys not) ∙ sym (at_shard-other shard e (y ∷ ys) not ∙ at_shard-here shard y ys is.1)
          | inr away ↦
              at_shard-other shard y zs away.1 ∙ on ∙ elim (eqb_tells e.shard shard) [
                | inl is ↦ at_shard-here shard e ys is.1 ∙ sym (at_shard-here shard e (y ∷ ys) is.1 ∙ ap (λ (l : List Entry). e ∷ l) (at_shard-other shard y ys away.1))
                | inr not ↦ at_shard-other shard e ys not.1 ∙ sym (at_shard-other shard e (y ∷ ys) not.1 ∙ at_shard-other shard y ys away.1)
              ]
        ]

-- ---- one history

record Put (shard : ℕ) (es ys : List Entry) : Type 0 where
  pub ordered : IsOrdered None (inserted_all es ys)
  pub own : at_shard shard (inserted_all es ys) ≡ es
  pub others : (other : ℕ) → shard ≢ other → at_shard other (inserted_all es ys) ≡ at_shard other ys

put_all : (shard : ℕ) (before : Option Entry) (es ys : List Entry) → AreAt shard es → IsOrdered before es → IsOrdered None ys → at_shard shard ys ≡ [] → Put shard es ys
unfolding inserted_all
put_all shard before [] ys places own ordered none = record { ordered = ordered; own = none; others = λ other apart. refl }
put_all shard before (e ∷ es) ys places own ordered none =
    let more = put_all shard (Some e) es ys places.1 own.1 ordered none in
    let above : StampsRise e.stamp (at_shard e.shard (inserted_all es ys)) =
    subst (StampsRise e.stamp) (sym (ap (λ s. at_shard s (inserted_all es ys)) places.0 ∙ more.own)) (ordered_rising shard e es places.0 places.1 own.1) in
    record {
      ordered = put_ordered None e (inserted_all es ys) tt more.ordered above;
      own = put_parts e (inserted_all es ys) above shard ∙ at_shard-here shard e (inserted_all es ys) places.0 ∙ ap (λ (l : List Entry). e ∷ l) more.own;
      others = λ other apart. put_parts e (inserted_all es ys) above other ∙ at_shard-other other e (inserted_all es ys) (λ same. apart (sym places.0 ∙ same)) ∙ more.others other apart;
    }

-- ---- all histories

record From (first : ℕ) (histories : List (List Entry)) : Type 0 where
  pub ordered : IsOrdered None (merged histories)
  pub below : (shard : ℕ) → shard < first → at_shard shard (merged histories) ≡ []
  pub parts : (i : ℕ) → at_shard (i + first) (merged histories) ≡ history_of histories i

merged_from : (first : ℕ) (histories : List (List Entry)) → ((i : ℕ) → AreAt (i + first) (history_of histories i)) → ((i : ℕ) → IsOrdered None (history_of histories i)) → From first histories
unfolding merged
merged_from first [] places ordered = record { ordered = tt; below = λ shard less. refl; parts = λ i. refl }
merged_from first (es ∷ rest) places ordered =
    let more = merged_from (first + 1) rest (λ i. subst (λ n. AreAt n (history_of rest i)) (omega arith) (places (suc i))) (λ i. ordered (suc i)) in
    let start : 0 + first ≡ first = omega arith in
    let all = put_all first None es (merged rest) (subst (λ n. AreAt n es) start (places zero)) (ordered zero) more.ordered (more.below first (omega arith)) in
    record {
      ordered = all.ordered;
      below = λ shard less. all.others shard (λ same. omega arith) ∙ more.below shard (omega arith);
      parts = λ i. part i all.own all.others more.parts;
    }
  where
    part : (i : ℕ) → at_shard first (inserted_all es (merged rest)) ≡ es → ((other : ℕ) → first ≢ other → at_shard other (inserted_all es (merged rest)) ≡ at_shard other (merged rest))
        → ((i : ℕ) → at_shard (i + (first + 1)) (merged rest) ≡ history_of rest i) → at_shard (i + first) (inserted_all es (merged rest)) ≡ history_of (es ∷ rest) i
    part zero own others parts = let same : 0 + first ≡ first = omega arith in ap (λ n. at_shard n (inserted_all es (merged rest))) same ∙ own
    part (suc i) own others parts =
        let same : suc i + first ≡ i + (first + 1) = omega arith in
        others (suc i + first) (λ is. omega arith) ∙ ap (λ n. at_shard n (merged rest)) same ∙ parts i

-- it is the merge
pub merged_is : (histories : List (List Entry)) → AreInOrder histories → IsMergeOf histories (merged histories)
merged_is histories are =
    let all = merged_from 0 histories (λ i. subst (λ n. AreAt n (history_of histories i)) (omega arith) (are.shards i)) are.ordered in
    record { ordered = all.ordered; parts = λ shard. let same : shard ≡ shard + 0 = omega arith in ap (λ n. at_shard n (merged histories)) same ∙ all.parts shard }

-- ---- how many entries

length-inserted : (e : Entry) (ys : List Entry) → length (inserted e ys) ≡ suc (length ys)
unfolding inserted
length-inserted e [] = refl
length-inserted e (y ∷ ys) = elim (cases_Bool (is_earlier e.stamp e.shard y.stamp y.shard)) [
  | inl is ↦ rw is refl
  | inr not ↦ rw not (ap suc (length-inserted e ys))
]

length-inserted_all : (es ys : List Entry) → length (inserted_all es ys) ≡ length es + length ys
unfolding inserted_all
length-inserted_all [] ys = omega arith
length-inserted_all (e ∷ es) ys =
    let one : length (inserted e (inserted_all es ys)) ≡ suc (length (inserted_all es ys)) = length-inserted e (inserted_all es ys) in
    let more : length (inserted_all es ys) ≡ length es + length ys = length-inserted_all es ys in omega (arith, one, more)

pub length-merged : (histories : List (List Entry)) → length (merged histories) ≡ sum_by length histories
unfolding merged
length-merged [] = refl
length-merged (es ∷ rest) =
    let first : length (inserted_all es (merged rest)) ≡ length es + length (merged rest) = length-inserted_all es (merged rest) in
    let more : length (merged rest) ≡ sum_by length rest = length-merged rest in
    let all : sum_by length (es ∷ rest) ≡ (0 + length es) + sum_by length rest = sum_by-append length (es ∷ []) rest in omega (arith, first, more, all)

-- ---- the first entry

-- an entry was taken off its history, the least of the first ones
record IsTaken (histories rests : List (List Entry)) (e : Entry) : Type 0 where
  pub own : history_of histories e.shard ≡ e ∷ history_of rests e.shard
  pub above : StampsRise e.stamp (history_of rests e.shard)
  pub others : (shard : ℕ) → e.shard ≢ shard → history_of histories shard ≡ history_of rests shard
  pub least : (shard : ℕ) (f : Entry) (fs : List Entry) → e.shard ≢ shard → f.shard ≡ shard → history_of histories shard ≡ f ∷ fs → is_earlier e.stamp e.shard f.stamp f.shard ≡ true

-- it is the first of the merge, which goes on with that of what is left
taken_first : (histories rests : List (List Entry)) (e : Entry) (es : List Entry) → IsTaken histories rests e → IsMergeOf rests es → IsMergeOf histories (e ∷ es)
taken_first histories rests e es taken merge = record {
  ordered = (tt, behind es merge.ordered merge.parts);
  parts = λ shard. elim (eqb_tells e.shard shard) [
    | inl is ↦ at_shard-here shard e es is.1 ∙ ap (λ (l : List Entry). e ∷ l) (merge.parts shard) ∙ ap (λ n. e ∷ history_of rests n) (sym is.1) ∙ sym taken.own ∙ ap (λ n. history_of histories n) is.1
    | inr not ↦ at_shard-other shard e es not.1 ∙ merge.parts shard ∙ sym (taken.others shard not.1)
  ];
}
  where
    before : (f : Entry) (fs : List Entry) → at_shard f.shard (f ∷ fs) ≡ history_of rests f.shard → IsBefore e f
    before f fs part =
        let first : history_of rests f.shard ≡ f ∷ at_shard f.shard fs = sym part ∙ at_shard-here f.shard f fs refl in
        elim (eqb_tells e.shard f.shard) [
          | inl is ↦ inl (subst (StampsRise e.stamp) (ap (λ n. history_of rests n) is.1 ∙ first) taken.above).0
          | inr not ↦ before_is e f (taken.least f.shard f (at_shard f.shard fs) not.1 refl (taken.others f.shard not.1 ∙ first))
        ]

    behind : (es : List Entry) → IsOrdered None es → ((shard : ℕ) → at_shard shard es ≡ history_of rests shard) → IsOrdered (Some e) es
    behind [] ordered parts = tt
    behind (f ∷ fs) ordered parts = (before f fs (parts f.shard), ordered.1)

-- ---- the next entry

-- what is known of an entry that was taken off a list
own_shard : (old new : List (List Entry)) (at : ℕ) (e : Entry) → AreInOrder old → IsTakenAt at old new e → AreAt at (e ∷ history_of new at)
own_shard old new at e are taken = subst (AreAt at) taken.own (are.shards at)

own_order : (old new : List (List Entry)) (at : ℕ) (e : Entry) → AreInOrder old → IsTakenAt at old new e → IsOrdered None (e ∷ history_of new at)
own_order old new at e are taken = subst (IsOrdered None) taken.own (are.ordered at)

-- the histories without it are in order
in_order_taken : (old new : List (List Entry)) (at : ℕ) (e : Entry) → AreInOrder old → IsTakenAt at old new e → AreInOrder new
in_order_taken old new at e are taken = record {
  shards = λ shard. elim (eqb_tells at shard) [
    | inl is ↦ subst (λ n. AreAt n (history_of new n)) is.1 (own_shard old new at e are taken).1
    | inr not ↦ subst (AreAt shard) (taken.others shard not.1) (are.shards shard)
  ];
  ordered = λ shard. elim (eqb_tells at shard) [
    | inl is ↦ subst (λ n. IsOrdered None (history_of new n)) is.1 (ordered_rest e (history_of new at) (own_order old new at e are taken).1)
    | inr not ↦ subst (IsOrdered None) (taken.others shard not.1) (are.ordered shard)
  ];
}

same_stamp : (a b : ℕ) → Some a ≡ Some b → a ≡ b
same_stamp a b is = cc

-- the least of the first entries was taken off its history
is_taken : (old new : List (List Entry)) (at : ℕ) (e : Entry) → AreInOrder old → IsLeast old at → IsTakenAt at old new e → IsTaken old new e
is_taken old new at e are next taken =
    let places : AreAt at (e ∷ history_of new at) = own_shard old new at e are taken in
    let is : e.shard ≡ at = places.0 in
    let stamp_is : next.first ≡ e.stamp = same_stamp next.first e.stamp (sym next.is ∙ ap first_stamp taken.own) in
    record {
      own = ap (λ n. history_of old n) is ∙ taken.own ∙ ap (λ n. e ∷ history_of new n) (sym is);
      above = subst (λ n. StampsRise e.stamp (history_of new n)) (sym is) (ordered_rising at e (history_of new at) is places.1 (own_order old new at e are taken).1);
      others = λ shard not. taken.others shard (λ same. not (is ∙ same));
      least = λ shard f fs not of_f there.
          let found : is_earlier next.first at f.stamp shard ≡ true = next.least shard f.stamp (λ same. not (is ∙ sym same)) (ap first_stamp there) in
          subst (λ n. is_earlier n e.shard f.stamp f.shard ≡ true) stamp_is
          (subst (λ n. is_earlier next.first n f.stamp f.shard ≡ true) (sym is)
          (subst (λ n. is_earlier next.first at f.stamp n ≡ true) (sym of_f) found));
    }

-- an entry that is next is the first of the merged list, which goes on with what is left
next_first : (old new : List (List Entry)) (e : Entry) → AreInOrder old → IsNext old new e → merged old ≡ e ∷ merged new
next_first old new e are next =
    merge_is_one old (merged old) (e ∷ merged new) (merged_is old are)
    (taken_first old new e (merged new) (is_taken old new next.at e are next.least next.taken) (merged_is new (in_order_taken old new next.at e are next.taken)))

-- where no list has a first entry, the merged list has none
none_merged : (rests : List (List Entry)) → ((shard : ℕ) → head_of rests shard ≡ None) → merged rests ≡ []
unfolding inserted_all merged
none_merged [] none = refl
none_merged ([] ∷ rests) none = none_merged rests (λ shard. none (suc shard))
none_merged ((e ∷ es) ∷ rests) none = absurd (let no : Some e.stamp ≡ None = none zero in cc)

-- ---- a step of a walk, over a list of which nothing is left

module _ (listed all : List Entry) (old new : List (List Entry)) (none : listed ≡ []) (view : listed ++ merged old ≡ all) (are : AreInOrder old) where
  old_is : merged old ≡ all
  old_is = ap (λ l. l ++ merged old) (sym none) ∙ view

  new_is : (es : List Entry) → merged new ≡ es → listed ++ merged new ≡ es
  new_is es is = ap (λ l. l ++ merged new) none ∙ is

  pub step_keeps : (found : Option Entry) → IfSome found (λ e. IsNext old new e) → IfNone found (new ≡ old) → AreInOrder new
  step_keeps (Some e) next same = in_order_taken old new next.at e are next.taken
  step_keeps None next same = subst AreInOrder (sym same) are

  pub step_gives : (found : Option Entry) → IfSome found (λ e. IsNext old new e) → IfSome found (λ e. all ≡ e ∷ (listed ++ merged new))
  step_gives (Some e) next = sym old_is ∙ next_first old new e are next ∙ ap (λ l. e ∷ l) (sym (new_is (merged new) refl))
  step_gives None next = tt

  pub step_ends : (found : Option Entry) → IfNone found ((shard : ℕ) → head_of old shard ≡ None) → IfNone found (all ≡ [])
  step_ends (Some e) heads = tt
  step_ends None heads = sym old_is ∙ none_merged old heads

  pub step_stays : (found : Option Entry) → IfNone found ((shard : ℕ) → head_of old shard ≡ None) → IfNone found (new ≡ old) → IfNone found (listed ++ merged new ≡ [])
  step_stays (Some e) heads same = tt
  step_stays None heads same = new_is [] (ap merged same ∙ none_merged old heads)
