-- The calls at a key, and what refutes the key.
use Rattle.std.specs.Prelude.{nat_eq}
use Rattle.std.specs.List.{IsDistinct}
use Rattle.std.specs.List.Sorted.{IsPermutation}
use Rattle.std.proofs.Common.{◌≡◌, ℕ, ◌<◌, ◌&&◌, Bool, true, false, List, length, filter, get_or, All, AllPairs, Contains, Option, None, Some, refl, sym, ap, ◌∙◌, subst}
use Rattle.std.proofs.lemmas.Bool.{and_parts, and_from, eqb-true, eq-eqb, false_from_ne_true, cases_Bool}
use Rattle.std.proofs.lemmas.List.Elements.{All-filter, All-contains_itself, filter_passes}
use Rattle.std.proofs.lemmas.List.Kept.{AllPairs-filter}
use Rattle.std.proofs.lemmas.List.Sorted.{All-permutation, Contains-permutation}
use Rattle.std.proofs.lemmas.Map.Keys.{apart_from_distinct, IsDistinct-from_apart, IsDistinct-IsPermutation}
use Rattle.mc_allows.specs.declared.call_name.CallName.{CallName}
use Rattle.zy_refute.specs.declared.observed.Observed.{Observed}
use Rattle.zy_refute.specs.declared.store.Store.{Store}
use Rattle.zy_refute.specs.Observed.{is_one_session, is_same_name}
use Rattle.zy_refute.specs.Courses.{HaveNoOrder}
use Rattle.zy_verdict.specs.Recorded.{Recorded}
use Rattle.zy_verdict.specs.Course.{HasCourse}
use Rattle.zy_verdict.proofs.ListLemmas.{contains_kept}
use Rattle.zy_refute.specs.Shared.{HaveOtherNames, IsRefutationOfApart}
use Rattle.zy_observed.specs.Shown.{AreShown}
use Rattle.zy_observed.specs.AtKey.{is_call_at_key, IsOneAtKey, AreCallsAt, IsStoreAt, HasNoCourse}
use Rattle.zy_observed.proofs.OrderLemmas.{order_of}

-- ---- names

abbrev named : ℕ → ℕ → ℕ → ℕ → CallName
named index session conn part = record { index = index; session = session; conn = conn; part = part }

same_name : (one other : CallName) → one ≡ other → is_same_name one other ≡ true
same_name one other is = subst (λ (n : CallName). is_same_name one n ≡ true) is
    (and_from (is_one_session one one) (nat_eq one.index one.index && nat_eq one.part one.part) (and_from (nat_eq one.conn one.conn) (nat_eq one.session one.session) (eq-eqb one.conn one.conn refl) (eq-eqb one.session one.session refl))
    (and_from (nat_eq one.index one.index) (nat_eq one.part one.part) (eq-eqb one.index one.index refl) (eq-eqb one.part one.part refl)))

equal_name : (one other : CallName) → is_same_name one other ≡ true → one ≡ other
equal_name one other is =
    let both = and_parts (is_one_session one other) (nat_eq one.index other.index && nat_eq one.part other.part) is in
    let session = and_parts (nat_eq one.conn other.conn) (nat_eq one.session other.session) both.0 in
    let command = and_parts (nat_eq one.index other.index) (nat_eq one.part other.part) both.1 in
    ap (λ (n : ℕ). named n one.session one.conn one.part) (eqb-true one.index other.index command.0)
    ∙ ap (λ (n : ℕ). named other.index n one.conn one.part) (eqb-true one.session other.session session.1)
    ∙ ap (λ (n : ℕ). named other.index other.session n one.part) (eqb-true one.conn other.conn session.0)
    ∙ ap (λ (n : ℕ). named other.index other.session other.conn n) (eqb-true one.part other.part command.1)

-- two calls have one name
abbrev have_one_name : Observed → Observed → Bool
have_one_name one other = is_same_name one.name other.name

flips : (one other : Observed) → have_one_name one other ≡ have_one_name other one
flips one other = go (have_one_name one other) refl (have_one_name other one) refl
  where
    go : (b : Bool) → have_one_name one other ≡ b → (c : Bool) → have_one_name other one ≡ c → b ≡ c
    go true is true back = refl
    go false is false back = refl
    go true is false back = let both : true ≡ false = sym (same_name other.name one.name (sym (equal_name one.name other.name is))) ∙ back in both
    go false is true back = let both : true ≡ false = sym (same_name one.name other.name (sym (equal_name other.name one.name back))) ∙ is in sym both

differ : (calls : List Observed) → AllPairs HaveOtherNames calls → IsDistinct have_one_name calls
differ calls others = IsDistinct-from_apart have_one_name calls
    (λ i j d before within. false_from_ne_true (have_one_name (get_or calls i d) (get_or calls j d)) (λ same. others i j d before within (equal_name (get_or calls i d).name (get_or calls j d).name same)))

others_of : (calls : List Observed) → IsDistinct have_one_name calls → AllPairs HaveOtherNames calls
others_of calls distinct i j d before within same =
    let both : true ≡ false = sym (same_name (get_or calls i d).name (get_or calls j d).name same) ∙ apart_from_distinct have_one_name calls i j d distinct before within in
    absurd (cc)

-- ---- the calls at a key

-- a list in another order has the calls that it had
pub sorted_at : (shards : ℕ) (key : List ℕ) (calls own : List Observed) → IsPermutation (filter (is_call_at_key shards key) calls) own → AreCallsAt shards key calls own
sorted_at shards key calls own moved =
    let at = is_call_at_key shards key in
    let kept = filter at calls in
    let there = All-filter at (Contains calls) calls (All-contains_itself calls) in
    let passes = filter_passes at calls in
    record {
      each = All-permutation (IsOneAtKey shards key calls) kept own moved (λ k d within. record { there = there k d within; about = passes k d within });
      all = λ x here about. Contains-permutation kept own x moved (contains_kept at calls x here about);
      once = λ others. others_of own (IsDistinct-IsPermutation have_one_name flips kept own moved (differ kept (AllPairs-filter HaveOtherNames at calls others)));
    }

-- ---- refuted keys

-- calls without an order refute their key
pub refuted_by : (shards : ℕ) (store : Store) (calls own : List Observed) (key : List ℕ) → AreCallsAt shards key calls own → HaveNoOrder store own → HasNoCourse shards store calls key
refuted_by shards store calls own key at none r same shown may course =
    none course.first course.course.steps
    (order_of r calls shown course.cuts course.cut key own (subst (λ (n : ℕ). AreCallsAt n key calls own) (sym same) at) course.first course.course.entries course.course.steps course.course.course store may course.cold)

-- the same, if they have none because their names differ
pub refuted_apart : (shards : ℕ) (store : Store) (calls own : List Observed) (key : List ℕ) (at : ℕ) → AreCallsAt shards key calls own → IsRefutationOfApart store own (Some at) → HasNoCourse shards store calls key
refuted_apart shards store calls own key at are none r same shown may course =
    refuted_by shards store calls own key are (none (are.once shown.once)).1 r same shown may course
