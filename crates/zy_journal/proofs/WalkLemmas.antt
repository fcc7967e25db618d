-- What is left of histories that are walked.
use Rattle.std.proofs.Common.{◌≡◌, ◌⊎◌, inl, inr, ℕ, zero, suc, ◌+◌, ◌-◌, ◌*◌, ◌^◌, ◌/◌, ◌%◌, ◌<◌, ◌≤◌, true, List, [], ◌∷◌, drop, length, get_or, set, replicate, refl, sym, ◌∙◌, ap, subst, arith}
use Rattle.std.specs.Prelude.{if◌then◌else◌, Bool, false, Option, None, Some, IfSome}
use Rattle.std.specs.List.{slice_get}
use Rattle.std.proofs.Math.Nat.{div-add-mod, mod-lt}
use Rattle.std.proofs.lemmas.List.{get_or-set_same, get_or-set_other}
use Rattle.std.proofs.lemmas.Bool.Decides.{nat_tests, eqb_tells}
use Rattle.mc_calls.specs.declared.entry.Entry.{Entry}
use Rattle.mc_calls.specs.Order.{history_of}
use Rattle.mc_history.proofs.WalkLemmas.{next_is}
use Rattle.zy_journal.specs.Merged.{is_earlier}
use Rattle.zy_journal.specs.declared.heads.Head.{Head}
use Rattle.zy_journal.specs.declared.heads.Least.{Least}
use Rattle.zy_journal.specs.Walk.{rests_of, first_stamp, head_of, AreHeads, AreQuads, IsFirstOf, IsBest, IsLeastIn, IsLeast, IsTakenAt}

drop_none : (n : ℕ) → drop {A = Entry} n [] ≡ []
drop_none zero = refl
drop_none (suc n) = refl

rest_is : (hs : List (List Entry)) (ns : List ℕ) (i : ℕ) → history_of (rests_of hs ns) i ≡ drop (get_or ns i 0) (history_of hs i)
unfolding rests_of
rest_is [] ns zero = sym (drop_none (get_or ns zero 0))
rest_is [] ns (suc i) = sym (drop_none (get_or ns (suc i) 0))
rest_is (h ∷ hs) [] zero = refl
rest_is (h ∷ hs) [] (suc i) = refl
rest_is (h ∷ hs) (n ∷ ns) zero = refl
rest_is (h ∷ hs) (n ∷ ns) (suc i) = rest_is hs ns i

-- ---- the first entries

-- the stamp of the entry at a place is that of the first entry from there on
pub stamp_there : (h : List Entry) (at stamp : ℕ) → at < length h → IfSome (slice_get h at) (λ e. e.stamp ≡ stamp) → Some stamp ≡ first_stamp (drop at h)
stamp_there [] at stamp less is = absurd (omega (arith, less))
stamp_there (e ∷ es) zero stamp less is = ap (λ (n : ℕ). Some n) (sym is)
stamp_there (e ∷ es) (suc at) stamp less is = stamp_there es at stamp (omega (arith, less)) is

pub first_over : (h : List Entry) (n : ℕ) → length h ≤ n → first_stamp (drop n h) ≡ None
first_over [] zero over = refl
first_over [] (suc n) over = refl
first_over (x ∷ h) zero over = absurd (omega (arith, over))
first_over (x ∷ h) (suc n) over = first_over h n (omega (arith, over))

pub own_inside : (hs : List (List Entry)) (i : ℕ) (h : List Entry) → i < length hs → history_of hs i ≡ get_or hs i h
own_inside [] i h inside = absurd (omega (arith, inside))
own_inside (x ∷ hs) zero h inside = refl
own_inside (x ∷ hs) (suc i) h inside = own_inside hs i h (omega (arith, inside))

own_over : (hs : List (List Entry)) (i : ℕ) → length hs ≤ i → history_of hs i ≡ []
own_over [] zero over = refl
own_over [] (suc i) over = refl
own_over (x ∷ hs) zero over = absurd (omega (arith, over))
own_over (x ∷ hs) (suc i) over = own_over hs i (omega (arith, over))

pub head_over : (hs : List (List Entry)) (i : ℕ) → length hs ≤ i → head_of hs i ≡ None
head_over hs i over = ap first_stamp (own_over hs i over)

length-rests : (hs : List (List Entry)) (ns : List ℕ) → length (rests_of hs ns) ≡ length hs
unfolding rests_of
length-rests [] ns = refl
length-rests (h ∷ hs) [] = refl
length-rests (h ∷ hs) (n ∷ ns) = ap suc (length-rests hs ns)

pub rest_over : (hs : List (List Entry)) (ns : List ℕ) (i : ℕ) → length hs ≤ i → head_of (rests_of hs ns) i ≡ None
rest_over hs ns i over = head_over (rests_of hs ns) i (let size = length-rests hs ns in omega (arith, size, over))

-- ---- nothing was taken

pub none_taken : (hs : List (List Entry)) (n : ℕ) → rests_of hs (replicate {A = ℕ} n 0) ≡ hs
unfolding rests_of
none_taken [] n = refl
none_taken (h ∷ hs) zero = refl
none_taken (h ∷ hs) (suc n) = ap (λ (l : List (List Entry)). h ∷ l) (none_taken hs n)

pub no_heads : (n i : ℕ) → get_or (replicate {A = Option ℕ} n None) i None ≡ None
no_heads zero zero = refl
no_heads zero (suc i) = refl
no_heads (suc n) zero = refl
no_heads (suc n) (suc i) = no_heads n i

-- the heads of the lists below a place
pub record AreHeadsBelow (hs : List (List Entry)) (place : ℕ) (heads : List (Option ℕ)) : Type 0 where
  pub below : (i : ℕ) → i < place → get_or heads i None ≡ head_of hs i
  pub above : (i : ℕ) → place ≤ i → get_or heads i None ≡ None

-- those of one list more
pub one_more : (hs : List (List Entry)) (place : ℕ) (heads : List (Option ℕ)) (h : List Entry) (head : Option ℕ) → AreHeadsBelow hs place heads → place < length heads → history_of hs place ≡ h → head ≡ first_stamp h
    → AreHeadsBelow hs (place + 1) (set heads place head)
one_more hs place heads h head are room is found = record {
  below = λ i less. elim (eqb_tells i place) [
    | inl same ↦ ap (λ n. get_or (set heads place head) n None) same.1 ∙ get_or-set_same heads place head None room ∙ found ∙ ap first_stamp (sym is) ∙ ap (head_of hs) (sym same.1)
    | inr other ↦ get_or-set_other heads place i head None other.1 ∙ are.below i (grind (arith, nat_tests, less, other.0))
  ];
  above = λ i past. get_or-set_other heads place i head None (λ same. omega (arith, past, same)) ∙ are.above i (omega (arith, past));
}

sides : (j n : ℕ) → (j < n) ⊎ (n ≤ j)
sides zero zero = inr (omega arith)
sides zero (suc n) = inl (omega arith)
sides (suc j) zero = inr (omega arith)
sides (suc j) (suc n) = elim (sides j n) [ inl inside ↦ inl (omega (arith, inside)) | inr outside ↦ inr (omega (arith, outside)) ]

pub all_heads : (hs : List (List Entry)) (place : ℕ) (heads : List (Option ℕ)) → AreHeadsBelow hs place heads → length hs ≤ place → AreHeads hs heads
all_heads hs place heads are end i = elim (sides i place) [
  | inl inside ↦ are.below i inside
  | inr outside ↦ are.above i outside ∙ sym (head_over hs i (omega (arith, end, outside)))
]

-- ---- taking an entry

-- a list with a first entry is there
pub list_there : (hs : List (List Entry)) (ns : List ℕ) (i stamp : ℕ) → head_of (rests_of hs ns) i ≡ Some stamp → i < length hs
list_there hs ns i stamp is =
    elim (sides i (length hs)) [ inl inside ↦ inside | inr over ↦ absurd (let o : Some stamp ≡ None = sym is ∙ rest_over hs ns i over in cc) ]

-- and has one at its place, whatever is read if there is no list
pub entry_there : (hs : List (List Entry)) (ns : List ℕ) (i stamp : ℕ) (none : List Entry) → head_of (rests_of hs ns) i ≡ Some stamp
    → (history_of hs i ≡ get_or hs i none) × (get_or ns i 0 < length (get_or hs i none))
entry_there hs ns i stamp none is =
    let h : List Entry = get_or hs i none in
    let own : history_of hs i ≡ h = own_inside hs i none (list_there hs ns i stamp is) in (
      own,
      elim (sides (get_or ns i 0) (length h)) [
        | inl inside ↦ inside
        | inr over ↦ absurd (let o : Some stamp ≡ None = sym is ∙ ap first_stamp (rest_is hs ns i ∙ ap (λ (l : List Entry). drop (get_or ns i 0) l) own) ∙ first_over h (get_or ns i 0) over in cc)
      ],
    )

-- one place further on, a list has lost its first entry
pub taken_at : (hs : List (List Entry)) (ns : List ℕ) (i n : ℕ) (e : Entry) → get_or ns i 0 ≡ n → i < length ns → slice_get (history_of hs i) n ≡ Some e
    → IsTakenAt i (rests_of hs ns) (rests_of hs (set ns i (n + 1))) e
taken_at hs ns i n e place room is = record {
  own = rest_is hs ns i ∙ ap (λ (m : ℕ). drop m (history_of hs i)) place ∙ next_is (history_of hs i) n e is
      ∙ ap (λ (l : List Entry). e ∷ l) (sym (rest_is hs (set ns i (n + 1)) i ∙ ap (λ (m : ℕ). drop m (history_of hs i)) (get_or-set_same ns i (n + 1) 0 room)));
  others = λ shard not. rest_is hs ns shard ∙ ap (λ (m : ℕ). drop m (history_of hs shard)) (sym (get_or-set_other ns i shard (n + 1) 0 (λ same. not (sym same)))) ∙ sym (rest_is hs (set ns i (n + 1)) shard);
}

-- and the heads are still those of the lists
pub heads_taken : (hs : List (List Entry)) (ns : List ℕ) (i n : ℕ) (heads : List (Option ℕ)) (h : List Entry) (head : Option ℕ) → AreHeads (rests_of hs ns) heads → i < length ns → i < length heads → history_of hs i ≡ h → head ≡ first_stamp (drop (n + 1) h)
    → AreHeads (rests_of hs (set ns i (n + 1))) (set heads i head)
heads_taken hs ns i n heads h head are room place is found shard = elim (eqb_tells shard i) [
  | inl same ↦
      ap (λ k. get_or (set heads i head) k None) same.1 ∙ get_or-set_same heads i head None place ∙ found ∙ ap (λ (l : List Entry). first_stamp (drop (n + 1) l)) (sym is)
      ∙ sym (ap first_stamp (rest_is hs (set ns i (n + 1)) i ∙ ap (λ (m : ℕ). drop m (history_of hs i)) (get_or-set_same ns i (n + 1) 0 room)))
      ∙ ap (head_of (rests_of hs (set ns i (n + 1)))) (sym same.1)
  | inr other ↦
      get_or-set_other heads i shard head None other.1 ∙ are shard
      ∙ ap first_stamp (rest_is hs ns shard ∙ ap (λ (m : ℕ). drop m (history_of hs shard)) (sym (get_or-set_other ns i shard (n + 1) 0 other.1)) ∙ sym (rest_is hs (set ns i (n + 1)) shard))
]

-- ---- the first of the heads

same_stamp : (a b : ℕ) → Some a ≡ Some b → a ≡ b
same_stamp a b is = cc

lower_first : (t u i n : ℕ) → t < u → is_earlier t n u i ≡ true
lower_first t u i n less = grind (arith, nat_tests, less)

lower_on : (t n b at u i : ℕ) → t < b → is_earlier b at u i ≡ true → is_earlier t n u i ≡ true
lower_on t n b at u i less is = grind (arith, nat_tests, less, is)

not_lower : (b at u i : ℕ) → b ≤ u → at < i → is_earlier b at u i ≡ true
not_lower b at u i le less = grind (arith, nat_tests, le, less)

not_higher : (b at u i : ℕ) → is_earlier b at u i ≡ true → b ≤ u
not_higher b at u i is = grind (arith, nat_tests, is)

module _ (rests : List (List Entry)) (low middle high : ℕ) (start : low ≤ middle) (within : middle ≤ high) where
  -- a lower stamp behind comes first
  pub first_lower : (head next : Head) → next.stamp < head.stamp → IsFirstOf rests low middle head → IsFirstOf rests middle high next → IsFirstOf rests low high next
  first_lower head next less before behind = record {
    from = let place = behind.from in omega (arith, place, start);
    to = behind.to;
    is = behind.is;
    first = λ shard stamp from to not is. elim (sides shard middle) [
      | inl inside ↦ elim (eqb_tells shard head.shard) [
        | inl same ↦
            let stamp_is : head.stamp ≡ stamp = same_stamp head.stamp stamp (sym before.is ∙ ap (head_of rests) (sym same.1) ∙ is) in
            subst (λ n. is_earlier next.stamp next.shard n shard ≡ true) stamp_is (lower_first next.stamp head.stamp shard next.shard less)
        | inr other ↦ lower_on next.stamp next.shard head.stamp head.shard stamp shard less (before.first shard stamp from inside other.1 is)
      ]
      | inr past ↦ behind.first shard stamp past to not is
    ];
  }

  -- and else the one before does
  pub first_stays : (head next : Head) → head.stamp ≤ next.stamp → IsFirstOf rests low middle head → IsFirstOf rests middle high next → IsFirstOf rests low high head
  first_stays head next le before behind =
      let place = before.to in record {
        from = before.from;
        to = omega (arith, place, within);
        is = before.is;
        first = λ shard stamp from to not is. elim (sides shard middle) [
          | inl inside ↦ before.first shard stamp from inside not is
          | inr past ↦ elim (eqb_tells shard next.shard) [
            | inl same ↦
                let stamp_is : next.stamp ≡ stamp = same_stamp next.stamp stamp (sym behind.is ∙ ap (head_of rests) (sym same.1) ∙ is) in
                not_lower head.stamp head.shard stamp shard (omega (arith, le, stamp_is)) (omega (arith, place, past))
            | inr other ↦
                let more : next.stamp ≤ stamp = not_higher next.stamp next.shard stamp shard (behind.first shard stamp past to other.1 is) in
                not_lower head.stamp head.shard stamp shard (omega (arith, le, more)) (omega (arith, place, past))
          ]
        ];
      }

-- none was found of no lists
pub none_yet : (rests : List (List Entry)) (low high : ℕ) → high ≤ low → IsLeastIn rests low high (record { found = false; shard = 0; stamp = 2 ^ 64 - 1 })
none_yet rests low high le = (λ shard from to. absurd (omega (arith, le, from, to)), λ no. refl)

-- the first entry of a list, alone
single : (rests : List (List Entry)) (shard stamp : ℕ) → head_of rests shard ≡ Some stamp → IsFirstOf rests shard (shard + 1) (record { shard = shard; stamp = stamp })
single rests shard stamp is = record {
  from = omega arith;
  to = omega arith;
  is = is;
  first = λ other t from to not there. absurd (not (omega (arith, from, to)));
}

-- the first entry of one list more comes first, if its stamp is not above that of the one that was found
pub first_before : (rests : List (List Entry)) (shard high stamp : ℕ) (least : Least) → shard < high → head_of rests shard ≡ Some stamp → stamp ≤ least.stamp → IsLeastIn rests (shard + 1) high least → IsFirstOf rests shard high (record { shard = shard; stamp = stamp })
first_before rests shard high stamp least less is le found = go least.found found.0
  where
    go : (there : Bool) → IsBest rests (shard + 1) high (if there then Some (record { shard = least.shard; stamp = least.stamp }) else None) → IsFirstOf rests shard high (record { shard = shard; stamp = stamp })
    go true behind =
        first_stays rests shard (shard + 1) high (omega arith) (omega (arith, less)) (record { shard = shard; stamp = stamp }) (record { shard = least.shard; stamp = least.stamp }) le (single rests shard stamp is) behind
    go false none = record {
      from = omega arith;
      to = less;
      is = is;
      first = λ other t from to not there. absurd (let o : Some t ≡ None = sym there ∙ none other (omega (arith, from, not)) to in cc);
    }

-- the best of four lists, by their bounds
pub quad_there : (rests : List (List Entry)) (quads : List (Option Head)) → AreQuads rests quads → (quad low high : ℕ) → quad < 64 → 4 * quad ≡ low → 4 * quad + 4 ≡ high → IsBest rests low high (get_or quads quad None)
quad_there rests quads are quad low high less from to =
    subst (λ n. IsBest rests low n (get_or quads quad None)) to (subst (λ n. IsBest rests n (4 * quad + 4) (get_or quads quad None)) from (are quad less))

-- ---- of all lists

-- where there is no best, no list has a first entry
pub best_none : (rests : List (List Entry)) (n : ℕ) → ((i : ℕ) → n ≤ i → head_of rests i ≡ None) → IsBest rests 0 n None → (i : ℕ) → head_of rests i ≡ None
best_none rests n over best i = elim (sides i n) [ inl inside ↦ best i (omega arith) inside | inr outside ↦ over i outside ]

-- the best of all comes next
pub best_least : (rests : List (List Entry)) (n : ℕ) (head : Head) → ((i : ℕ) → n ≤ i → head_of rests i ≡ None) → IsBest rests 0 n (Some head) → IsLeast rests head.shard
best_least rests n head over best = record {
  first = head.stamp;
  is = best.is;
  least = λ i t not is. elim (sides i n) [ inl inside ↦ best.first i t (omega arith) inside not is | inr outside ↦ absurd (let o : Some t ≡ None = sym is ∙ over i outside in cc) ];
}

-- lists that did not change have the same best
best_kept : (old new : List (List Entry)) (low high : ℕ) (best : Option Head) → ((shard : ℕ) → low ≤ shard → shard < high → head_of new shard ≡ head_of old shard) → IsBest old low high best → IsBest new low high best
best_kept old new low high None same best = λ shard from to. same shard from to ∙ best shard from to
best_kept old new low high (Some head) same best = record {
  from = best.from;
  to = best.to;
  is = same head.shard best.from best.to ∙ best.is;
  first = λ shard stamp from to not is. best.first shard stamp from to not (sym (same shard from to) ∙ is);
}

module _ (width : ℕ) where
  -- where an entry was taken off a list, the best of its group is found anew
  pub bests_taken : (count : ℕ) (old new : List (List Entry)) (at group : ℕ) (e : Entry) (bests : List (Option Head)) (best : Option Head)
      → ((g : ℕ) → g < count → IsBest old (width * g) (width * g + width) (get_or bests g None)) → IsTakenAt at old new e
      → ((g : ℕ) → width * g ≤ at → at < width * g + width → g ≡ group) → group < length bests
      → IsBest new (width * group) (width * group + width) best → (g : ℕ) → g < count → IsBest new (width * g) (width * g + width) (get_or (set bests group best) g None)
  bests_taken count old new at group e bests best are taken alone room is g within = elim (eqb_tells g group) [
    | inl same ↦
        subst (λ n. IsBest new (width * n) (width * n + width) (get_or (set bests group best) n None)) (sym same.1)
        (subst (IsBest new (width * group) (width * group + width)) (sym (get_or-set_same bests group best None room)) is)
    | inr other ↦
        subst (IsBest new (width * g) (width * g + width)) (sym (get_or-set_other bests group g best None other.1))
        (best_kept old new (width * g) (width * g + width) (get_or bests g None)
        (λ shard low high. ap first_stamp (sym (taken.others shard (λ same. other.1 (alone g (subst (λ n. width * g ≤ n) (sym same) low) (subst (λ n. n < width * g + width) (sym same) high))))))
        (are g within))
  ]

  -- with the best of one more group
  pub one_group : (rests : List (List Entry)) (bests : List (Option Head)) (group : ℕ) (best : Option Head) → group < length bests
      → ((g : ℕ) → g < group → IsBest rests (width * g) (width * g + width) (get_or bests g None)) → IsBest rests (width * group) (width * group + width) best
      → (g : ℕ) → g < group + 1 → IsBest rests (width * g) (width * g + width) (get_or (set bests group best) g None)
  one_group rests bests group best room are is g less = elim (eqb_tells g group) [
    | inl same ↦
        subst (λ n. IsBest rests (width * n) (width * n + width) (get_or (set bests group best) n None)) (sym same.1)
        (subst (IsBest rests (width * group) (width * group + width)) (sym (get_or-set_same bests group best None room)) is)
    | inr other ↦
        subst (IsBest rests (width * g) (width * g + width)) (sym (get_or-set_other bests group g best None other.1)) (are g (grind (arith, nat_tests, less, other.0)))
  ]

-- the four of a list
pub quad_of : (shard : ℕ) → (4 * (shard / 4) ≤ shard) × (shard < 4 * (shard / 4) + 4)
quad_of shard =
    let split : 4 * (shard / 4) + shard % 4 ≡ shard = div-add-mod shard 4 in
    let less : shard % 4 < 4 = mod-lt shard (omega arith) in (omega (arith, split), omega (arith, split, less))

-- the group of a list
pub group_of : (shard : ℕ) → (16 * (shard / 16) ≤ shard) × (shard < 16 * (shard / 16) + 16)
group_of shard =
    let split : 16 * (shard / 16) + shard % 16 ≡ shard = div-add-mod shard 16 in
    let less : shard % 16 < 16 = mod-lt shard (omega arith) in (omega (arith, split), omega (arith, split, less))
