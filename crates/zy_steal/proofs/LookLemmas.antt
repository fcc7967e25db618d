-- Looks that are noted over others.
use Rattle.std.proofs.Common.{◌≡◌, ◌≢◌, ◌⊎◌, ℕ, zero, suc, ◌+◌, ◌<◌, ◌==◌, ◌&&◌, Bool, true, false, List, [], ◌∷◌, length, replicate, Some, slice_get, refl, sym, ap, ◌∙◌, ⊎_elim, inl, inr, arith}
use Rattle.std.specs.Prelude.{Option, None, nat_lt, not, if◌then◌else◌}
use Rattle.std.proofs.lemmas.Bool.Decides.{nat_tests}
use Rattle.zy_table.proofs.SliceLemmas.{get_below}
use Rattle.zy_steal.specs.declared.looks.Look.{Look}
use Rattle.zy_steal.specs.Look.{look_at, IsBlank, NotesAll}
use Rattle.zy_steal.specs.Order.{other_core, number_of}
use Rattle.zy_steal.specs.Steal.{PassList, AllLooked, AllLookedOver}
use Rattle.zy_steal.specs.Range.{Ranges}
use Rattle.zy_steal.proofs.OrderLemmas.{other-number_of}
use Rattle.zy_steal.proofs.SeatLemmas.{count_same}

-- no look is noted in a list of none
pub blank_at : (n core : ℕ) → look_at (replicate {A = Option Look} n None) core ≡ None
blank_at zero core = refl
blank_at (suc n) zero = refl
blank_at (suc n) (suc core) = blank_at n core

-- ---- the looks of one turn

-- the looks at the cores from this one on that pass the test
abbrev pub looks_where : (ℕ → Bool) → ℕ → List (Option Look) → List (Option Look)
looks_where test core [] = []
looks_where test core (look ∷ looks) = (if test core then look else None) ∷ looks_where test (core + 1) looks

where_true : (test : ℕ → Bool) (core : ℕ) (looks : List (Option Look)) (k : ℕ) → test (core + k) ≡ true → look_at (looks_where test core looks) k ≡ look_at looks k
where_true test core [] k is = refl
where_true test core (x ∷ xs) zero is =
    let here : core + 0 ≡ core = omega arith in
    ap (λ (b : Bool). if b then x else None) (sym (ap test here) ∙ is)
where_true test core (x ∷ xs) (suc k) is =
    let next : core + suc k ≡ core + 1 + k = omega arith in where_true test (core + 1) xs k (sym (ap test next) ∙ is)

where_false : (test : ℕ → Bool) (core : ℕ) (looks : List (Option Look)) (k : ℕ) → test (core + k) ≡ false → look_at (looks_where test core looks) k ≡ None
where_false test core [] k is = refl
where_false test core (x ∷ xs) zero is =
    let here : core + 0 ≡ core = omega arith in
    ap (λ (b : Bool). if b then x else None) (sym (ap test here) ∙ is)
where_false test core (x ∷ xs) (suc k) is =
    let next : core + suc k ≡ core + 1 + k = omega arith in where_false test (core + 1) xs k (sym (ap test next) ∙ is)

-- another core than this one, among `others` others
abbrev pub is_other : ℕ → ℕ → ℕ → Bool
is_other core others k = nat_lt k (others + 1) && not (k == core)

other_is : (core others at : ℕ) → at < others → is_other core others (0 + other_core core at) ≡ true
other_is core others at lt = grind (arith, nat_tests)

number_is : (core others k : ℕ) → is_other core others (0 + k) ≡ true → core < others + 1 → (number_of core k < others) × (core ≢ k)
number_is core others k is lt = (grind (arith, nat_tests), (λ e. grind (arith, nat_tests)))

true_or_false : (b : Bool) → (b ≡ true) ⊎ (b ≡ false)
true_or_false true = inl refl
true_or_false false = inr refl

some_apart : {A B : Type 0} (x : A) → Some x ≡ None → B
some_apart x e = absurd (cc)

-- a whole turn made a claim at each other core, and its looks were noted over those that there were
pub all_looked_over : {T : Type 0} (p q : PassList T) (a b : List (Option Look)) → p.core < length p.items + 1 → Ranges p.core p.items q.items a b 0 (length p.items) → AllLookedOver p q a b
all_looked_over p q a b near r = record { made = made; looked = looked; notes = notes }
  where
    others : ℕ
    others = length p.items

    test : ℕ → Bool
    test = is_other p.core others

    made : List (Option Look)
    made = looks_where test 0 b

    looked : AllLooked p q made
    looked = record {
      seats = r.seats;
      looked = λ at v w ev ew.
          let lt = get_below p.items at v ev in
          let look = r.looked at (omega arith) lt v w ev ew in
          (look.0, where_true test 0 b (other_core p.core at) (other_is p.core others at lt) ∙ look.1, look.2);
      others = λ core free. ⊎_elim
          (λ is. let n = number_is p.core others core is near in absurd (free (number_of p.core core) n.0 (other-number_of p.core core n.1)))
          (λ is. where_false test 0 b core is)
          (true_or_false (test (0 + core)));
    }

    member : {A : Type 0} (l : List A) (i : ℕ) → i < length l → (x : A) × (slice_get l i ≡ Some x)
    member [] i lt = absurd (omega arith)
    member (x ∷ xs) zero lt = (x, refl)
    member (x ∷ xs) (suc i) lt = member xs i (omega arith)

    -- at each other core a look was made
    there : (core : ℕ) → test (0 + core) ≡ true → look_at b core ≡ None → ⊥
    there core is none =
        let n = number_is p.core others core is near in
        let at : ℕ = number_of p.core core in
        let v = member p.items at n.0 in
        let w = member q.items at (let same = count_same p.items q.items r.seats in omega (arith, n.0)) in
        let look = looked.looked at v.0 w.0 v.1 w.1 in
        some_apart look.0 (sym look.1 ∙ ap (look_at made) (other-number_of p.core core n.1) ∙ where_true test 0 b core is ∙ none)

    notes : NotesAll made a b
    notes = record {
      newest = λ core look e. ⊎_elim
          (λ is. sym (where_true test 0 b core is) ∙ e)
          (λ is. some_apart look (sym e ∙ where_false test 0 b core is))
          (true_or_false (test (0 + core)));
      others = λ core e. ⊎_elim
          (λ is. absurd (there core is (sym (where_true test 0 b core is) ∙ e)))
          (λ is. r.others core (λ at _ lt same. true_apart (sym (other_is p.core others at lt) ∙ ap (λ k. test (0 + k)) same ∙ is)))
          (true_or_false (test (0 + core)));
    }
      where
        true_apart : true ≡ false → ⊥
        true_apart e = absurd (cc)

-- ---- a table that was blank

-- the looks that were noted over none are those that are there
pub noted_alone : {T : Type 0} (p q : PassList T) (a b : List (Option Look)) → IsBlank a → AllLookedOver p q a b → AllLooked p q b
noted_alone p q a b blank l = record {
  seats = l.looked.seats;
  looked = λ at v w ev ew. let look = l.looked.looked at v w ev ew in (look.0, l.notes.newest (other_core p.core at) look.0 look.1, look.2);
  others = λ core free. l.notes.others core (l.looked.others core free) ∙ blank core;
}
