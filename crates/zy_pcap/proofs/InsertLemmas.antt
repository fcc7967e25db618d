-- Runs after a further one was put among them.
use Rattle.std.proofs.Common.{◌≡◌, ℕ, ◌+◌, ◌-◌, ◌<◌, ◌≤◌, List, [], ◌∷◌, length, get_or, refl, sym, ap, ◌∙◌, subst, inl, inr, arith}
use Rattle.std.specs.Prelude.{Option, Some, None, Bool, true, false, cond, nat_lt, ◌==◌}
use Rattle.std.specs.List.{AllByRecursion}
use Rattle.std.specs.List.Sorted.{IsStrictlySortedBy}
use Rattle.std.specs.BTreeMap.{is_at, insert_entry}
use Rattle.std.specs.BTreeMap.Range.{range_contains, entries_between}
use Rattle.std.specs.Map.{lookup, keys_of}
use Rattle.std.specs.Ordering.{nat_cmp}
use Rattle.std.specs.declared.cmp.Ordering.TheVariants.{Less, Equal, Greater}
use Rattle.std.specs.declared.ops.Bound.TheVariants.{Included, Excluded}
use Rattle.std.proofs.lemmas.Bool.{cases_lt, cases_eq}
use Rattle.std.proofs.lemmas.Bool.Decides.{nat_tests}
use Rattle.zy_pcap.specs.Session.{byte_or_other}
use Rattle.zy_pcap.specs.Held.{Run, Rise, covered, runs_at, woven_at, has_run, is_long, AreAll}
use Rattle.zy_pcap.proofs.CoverLemmas.{covered_in, covered_above, covered_below, first_none, first_assoc}
use Rattle.zy_pcap.proofs.WeaveLemmas.{all_at, all_long}

-- ---- the order of runs

less_is : (x y : ℕ) → nat_cmp x y ≡ Less → x < y
less_is x y less =
    elim (cases_lt x y) [
      | inl low ↦ low
      | inr not_low ↦ (let test : nat_lt x y ≡ false = grind (arith, nat_tests) in
          let is : nat_cmp x y ≡ cond (x == y) Equal Greater = rw test refl in
          absurd (not_less (x == y) (sym is ∙ less)))
    ]
  where
    not_less : (test : Bool) → cond test Equal Greater ≡ Less → ⊥
    not_less true is = cc
    not_less false is = cc

later_of : (n : ℕ) (runs : List Run) → AllByRecursion (λ y. nat_cmp n y ≡ Less) (keys_of runs) → AllByRecursion (λ (other : Run). n ≤ other.0) runs
later_of n [] later = tt
later_of n (run ∷ runs) later = (omega (arith, less_is n run.0 later.0), later_of n runs later.1)

-- runs with rising keys rise
pub rise_of : (runs : List Run) → IsStrictlySortedBy nat_cmp (keys_of runs) → Rise runs
unfolding IsStrictlySortedBy
rise_of [] sorted = tt
rise_of (run ∷ runs) sorted = (later_of run.0 runs sorted.0, rise_of runs sorted.1)

later_on : (n m : ℕ) (runs : List Run) → n ≤ m → AllByRecursion (λ (other : Run). m ≤ other.0) runs → AllByRecursion (λ (other : Run). n ≤ other.0) runs
later_on n m [] low later = tt
later_on n m (run ∷ runs) low later = (omega (arith, low, later.0), later_on n m runs low later.1)

-- ---- runs within a range

-- the runs that begin from one offset on and before another
abbrev pub between : ℕ → ℕ → List Run → List Run
between from end runs = entries_between nat_cmp (Included from) (Excluded end) runs

abbrev is_between : ℕ → ℕ → ℕ → Bool
is_between from end key = range_contains nat_cmp (Included from) (Excluded end) key

kept_all : (P : Run → Type 0) (test : Bool) (run : Run) (runs : List Run) → P run → AllByRecursion P runs → AllByRecursion P (cond test (run ∷ runs) runs)
kept_all P true run runs one all = (one, all)
kept_all P false run runs one all = all

between_all : (P : Run → Type 0) (from end : ℕ) (runs : List Run) → AllByRecursion P runs → AllByRecursion P (between from end runs)
between_all P from end [] all = tt
between_all P from end (run ∷ runs) all = kept_all P (is_between from end run.0) run (between from end runs) all.0 (between_all P from end runs all.1)

kept_rise : (test : Bool) (run : Run) (runs : List Run) → AllByRecursion (λ (other : Run). run.0 ≤ other.0) runs → Rise runs → Rise (cond test (run ∷ runs) runs)
kept_rise true run runs later rise = (later, rise)
kept_rise false run runs later rise = rise

pub between_rise : (from end : ℕ) (runs : List Run) → Rise runs → Rise (between from end runs)
between_rise from end [] rise = tt
between_rise from end (run ∷ runs) rise =
    kept_rise (is_between from end run.0) run (between from end runs) (between_all (λ (other : Run). run.0 ≤ other.0) from end runs rise.0) (between_rise from end runs rise.1)

-- what a map finds within a range rises
pub range_rise : (runs found : List Run) (from end : ℕ) → found ≡ between from end runs → IsStrictlySortedBy nat_cmp (keys_of runs) → Rise found
range_rise runs found from end is sorted = rw is (between_rise from end runs (rise_of runs sorted))

inside : (from end key : ℕ) → from ≤ key → key < end → is_between from end key ≡ true
inside from end key low high = grind (arith, nat_tests)

before : (from end key : ℕ) → key < from → is_between from end key ≡ false
before from end key low = grind (arith, nat_tests)

beyond : (from end key : ℕ) → end ≤ key → is_between from end key ≡ false
beyond from end key high = grind (arith, nat_tests)

-- those from the end on have no byte before it
pub between_at : (from end at : ℕ) (runs : List Run) → AllByRecursion (λ (run : Run). from ≤ run.0) runs → at < end → runs_at (between from end runs) at ≡ runs_at runs at
between_at from end at [] later low = refl
between_at from end at (run ∷ runs) later low =
    elim (cases_lt run.0 end) [
      | inl within ↦ rw (inside from end run.0 later.0 within) (ap (byte_or_other (covered run.1 run.0 at)) (between_at from end at runs later.1 low))
      | inr above ↦ rw (beyond from end run.0 above, covered_below run.1 run.0 at (omega (arith, above, low))) (between_at from end at runs later.1 low)
    ]

-- ---- one more run

at_self : (key : ℕ) → is_at (nat_cmp key) key ≡ true
at_self key = grind (arith, nat_tests)

at_other : (key other : ℕ) → (other ≡ key → ⊥) → is_at (nat_cmp key) other ≡ false
at_other key other apart = grind (arith, nat_tests)

-- the bytes that come are all there, if a run that begins with them is as long
pub had_already : (runs : List Run) (bytes : List ℕ) (from at : ℕ) → has_run runs from (length bytes) ≡ true → runs_at runs at ≡ byte_or_other (runs_at runs at) (covered bytes from at)
had_already [] bytes from at has = cc
had_already (run ∷ runs) bytes from at has =
    elim (cases_eq run.0 from) [
      | inl here ↦ (let long : length bytes ≤ length run.1 = grind (arith, nat_tests, has, here, at_self from) in
          elim (cases_lt at from) [
            | inl below ↦ rw (covered_below bytes from at below) (sym (first_none (runs_at (run ∷ runs) at)))
            | inr low ↦ elim (cases_lt at (from + length bytes)) [
              | inl high ↦ rw (covered_in run.1 run.0 at (omega (arith, here, low)) (omega (arith, here, high, long))) refl
              | inr above ↦ rw (covered_above bytes from at above) (sym (first_none (runs_at (run ∷ runs) at)))
            ]
          ])
      | inr other ↦ (let rest : has_run runs from (length bytes) ≡ true = subst (λ (b : Bool). is_long (cond b (Some run.1) (lookup (is_at (nat_cmp from)) runs)) (length bytes) ≡ true) (at_other from run.0 other) has in
          ap (byte_or_other (covered run.1 run.0 at)) (had_already runs bytes from at rest) ∙ sym (first_assoc (covered run.1 run.0 at) (runs_at runs at) (covered bytes from at)))
    ]

cmp_less : (x y : ℕ) → x < y → nat_cmp x y ≡ Less
cmp_less x y low = grind (arith, nat_tests)

cmp_equal : (x y : ℕ) → y ≡ x → nat_cmp x y ≡ Equal
cmp_equal x y same = grind (arith, nat_tests)

cmp_greater : (x y : ℕ) → y < x → nat_cmp x y ≡ Greater
cmp_greater x y high = grind (arith, nat_tests)

-- what is there at any rate comes before others
some_first : (a b c : Option ℕ) (byte : ℕ) → b ≡ Some byte → byte_or_other (byte_or_other a b) c ≡ byte_or_other a b
some_first None b c byte is = rw is refl
some_first (Some a) b c byte is = refl

module _ (bytes run : List ℕ) (from end at : ℕ) where
  -- where the further run has a byte
  put_in : (runs : List Run) (byte : ℕ) → Rise runs → at < end → covered bytes from at ≡ Some byte → covered run from at ≡ woven_at (between from end runs) bytes from at
      → runs_at (insert_entry nat_cmp runs from run) at ≡ woven_at runs bytes from at
  put_in [] byte rise low there is = first_none (covered run from at) ∙ is
  put_in (other ∷ runs) byte rise low there is =
      elim (cases_lt other.0 from) [
        | inl earlier ↦ (let rest : covered run from at ≡ woven_at (between from end runs) bytes from at = is ∙ rw (before from end other.0 earlier) refl in
            rw (cmp_greater from other.0 earlier)
            (ap (byte_or_other (covered other.1 other.0 at)) (put_in runs byte rise.1 low there rest) ∙ sym (first_assoc (covered other.1 other.0 at) (runs_at runs at) (covered bytes from at))))
        | inr not_earlier ↦ (let later : AllByRecursion (λ (o : Run). from ≤ o.0) (other ∷ runs) = (omega (arith, not_earlier), later_on from other.0 runs (omega (arith, not_earlier)) rise.0) in
            let all : covered run from at ≡ woven_at (other ∷ runs) bytes from at = is ∙ ap (λ (b : Option ℕ). byte_or_other b (covered bytes from at)) (between_at from end at (other ∷ runs) later low) in
            elim (cases_eq other.0 from) [
              | inl here ↦ rw (cmp_equal from other.0 here)
                  (ap (λ (n : ℕ). byte_or_other (covered run n at) (runs_at runs at)) here
                  ∙ ap (λ (b : Option ℕ). byte_or_other b (runs_at runs at)) all
                  ∙ some_first (runs_at (other ∷ runs) at) (covered bytes from at) (runs_at runs at) byte there)
              | inr apart ↦ rw (cmp_less from other.0 (omega (arith, not_earlier, apart)))
                  (ap (λ (b : Option ℕ). byte_or_other b (runs_at (other ∷ runs) at)) all
                  ∙ some_first (runs_at (other ∷ runs) at) (covered bytes from at) (runs_at (other ∷ runs) at) byte there)
            ])
      ]

  -- where it has none, nor the run that it replaces
  put_out : (runs : List Run) → covered run from at ≡ None → ((other : List ℕ) → lookup (is_at (nat_cmp from)) runs ≡ Some other → covered other from at ≡ None)
      → runs_at (insert_entry nat_cmp runs from run) at ≡ runs_at runs at
  put_out [] none gone = rw none refl
  put_out (other ∷ runs) none gone =
      elim (cases_lt other.0 from) [
        | inl earlier ↦ (let miss : is_at (nat_cmp from) other.0 ≡ false = at_other from other.0 (λ same. omega (arith, earlier, same)) in
            rw (cmp_greater from other.0 earlier)
            (ap (byte_or_other (covered other.1 other.0 at)) (put_out runs none (λ o found. gone o (rw miss found)))))
        | inr not_earlier ↦ elim (cases_eq other.0 from) [
          | inl here ↦ (let was : covered other.1 from at ≡ None = gone other.1 (rw (here, at_self from) refl) in
              rw (cmp_equal from other.0 here, here, none, was) refl)
          | inr apart ↦ rw (cmp_less from other.0 (omega (arith, not_earlier, apart)), none) refl
        ]
      ]

-- a run that has a byte less than others do
shorter_none : (found : Option (List ℕ)) (other : List ℕ) (size from at : ℕ) → is_long found size ≡ false → found ≡ Some other → from + size ≤ at → covered other from at ≡ None
shorter_none None other size from at short is out = cc
shorter_none (Some run) other size from at short is out =
    let same : run ≡ other = cc in
    let few : length run < size = grind (arith, nat_tests, short) in
    rw (← same) (covered_above run from at (omega (arith, few, out)))

-- a run was put among others that has all bytes that come, or those of the others that were there
pub put_among : (runs : List Run) (bytes run : List ℕ) (from end at : ℕ) → Rise runs → has_run runs from (length bytes) ≡ false → end ≡ from + length bytes → AreAll (woven_at (between from end runs) bytes from) from end run
    → runs_at (insert_entry nat_cmp runs from run) at ≡ woven_at runs bytes from at
put_among runs bytes run from end at rise short is all =
    let long : length bytes ≤ length run = all_long (between from end runs) bytes run from end (omega (arith, is)) all in
    elim (cases_lt at from) [
      | inl below ↦ put_out bytes run from end at runs (covered_below run from at below) (λ other found. covered_below other from at below)
          ∙ rw (covered_below bytes from at below) (sym (first_none (runs_at runs at)))
      | inr low ↦ elim (cases_lt at end) [
        | inl high ↦ put_in bytes run from end at runs (get_or bytes (at - from) 0) rise high (covered_in bytes from at low (omega (arith, high, is))) (sym (all_at (woven_at (between from end runs) bytes from) from end at run all low (omega (arith, high, is, long))))
        | inr above ↦ put_out bytes run from end at runs (covered_above run from at (omega (arith, above, all.within))) (λ other found. shorter_none (lookup (is_at (nat_cmp from)) runs) other (length bytes) from at short found (omega (arith, above, is)))
            ∙ rw (covered_above bytes from at (omega (arith, above, is))) (sym (first_none (runs_at runs at)))
      ]
    ]
