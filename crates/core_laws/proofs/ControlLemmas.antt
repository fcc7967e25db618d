-- What the rule of the control words says of the count of done cores, and of the bits of sleepers.
use Rattle.zy_control.proofs.MoveLemmas.{all_counted}
use Rattle.std.proofs.Common.{◌≡◌, ℕ, ◌≤◌, get_or, refl, sym, ◌∙◌, arith, ◌≢◌, zero, suc, ◌==◌, Bool, List, [], ◌∷◌}
use Rattle.std.proofs.Common.{true, false, ◌↔◌, set, ap, subst}
use Rattle.atomic_table.specs.Table.{State}
use Rattle.zy_control.specs.declared.view.View.{View}
use Rattle.zy_control.specs.View.{MustHaveCounted}
use Rattle.zy_control.specs.ControlRule.{ControlRule, one_if, is_asleep, asleep_in}
use Rattle.zy_control.proofs.CountLemmas.{counted_le}
use Rattle.zy_control.specs.declared.view.Role.{Role}
use Rattle.zy_control.specs.declared.view.Role.TheVariants.{Root, Core, Watcher}
use Rattle.zy_control.proofs.SleepLemmas.{IsNumbered, own_bit}
use Rattle.std.specs.Int.{bit_at}
use Rattle.zy_control.proofs.RestLemmas.{one_same, one_other}
use mathlib.Core.Option.{some}
use lib.ListN.{get_elem?}
use mathlib.Core.Logic.{dite}
use native.Mathlib.Decide.{ℕ_discrete}

-- ---- the steps

pub where_all_counted : (n : ℕ) (s : State ℕ View) (id : ℕ) (v : View) → ControlRule n s → get_elem? s.views id ≡ some v → get_or s.words 0 0 ≡ n → MustHaveCounted v.role
where_all_counted n s id v r at found = all_counted n s id v v.role refl r at (found ∙ sym (r.each id v at).cores_are)

-- done is never above the number of cores
pub at_most_all : (n : ℕ) (s : State ℕ View) → ControlRule n s → get_or s.words 0 0 ≤ n
at_most_all n s r = let a = counted_le s.views in let d = r.done in let f = r.few in omega arith

-- ---- a seat among all

-- where the count is not 0, there is such a seat
pub asleep_there : (i : ℕ) (vs : List View) → 1 ≤ asleep_in i vs → (j : ℕ) × (v : View) × (get_elem? vs j ≡ some v) × (is_asleep i v.role ≡ 1)
asleep_there i [] more = absurd (omega arith)
asleep_there i (x ∷ xs) more = dite (ℕ_discrete (is_asleep i x.role) 0)
    (λ (none : is_asleep i x.role ≡ 0). let r = asleep_there i xs (omega arith) in (suc r.0, r.1, r.2, r.3))
    (λ (one : is_asleep i x.role ≢ 0). (zero, x, refl, at_most_one i x.role one))
  where
    one_at_most : (b : Bool) → one_if b ≢ 0 → one_if b ≡ 1
    one_at_most true ne = refl
    one_at_most false ne = absurd (ne refl)

    at_most_one : (i : ℕ) (r : Role) → is_asleep i r ≢ 0 → is_asleep i r ≡ 1
    at_most_one i (Root given) ne = absurd (ne refl)
    at_most_one i (Core number has true) ne = one_at_most (number == i) ne
    at_most_one i (Core number has false) ne = absurd (ne refl)
    at_most_one i Watcher ne = absurd (ne refl)

-- ---- what the rule says of a bit

bit_is : (number : ℕ) (r : Role) (n : ℕ) (has announced : Bool) → r ≡ Core n has announced → number ≡ n → (is_asleep number r ≡ 1) ↔ (announced ≡ true)
bit_is number r n has true is e = ((λ one. refl), λ yes. rw is (one_same n number (sym e)))
bit_is number r n has false is e = ((λ one. absurd (let z : is_asleep number r ≡ 0 = rw is refl in omega arith)), λ yes. absurd (cc))

pub bit_of_a_core : (cores : ℕ) (s : State ℕ View) (j number : ℕ) (v : View) (has announced : Bool) → ControlRule cores s → get_elem? s.views j ≡ some v
    → v.role ≡ Core number has announced → (bit_at (get_or s.words 2 0) number ≡ 1) ↔ (announced ≡ true)
bit_of_a_core cores s j number v has announced r at is =
    let own = own_bit cores s j number v r at (subst (IsNumbered number) (sym is) refl) in
    let b = bit_is number v.role number has announced is refl in
    ((λ set. b.0 (sym own ∙ set)), λ yes. own ∙ b.1 yes)

-- a seat that counts as asleep is that of the core
asleep_is : (number : ℕ) (r : Role) → is_asleep number r ≡ 1 → (has : Bool) × (r ≡ Core number has true)
asleep_is number (Root given) one = absurd (omega arith)
asleep_is number (Core n has true) one = dite (ℕ_discrete n number)
    (λ (same : n ≡ number). (has, ap (λ m. Core m has true) same))
    (λ (ne : n ≢ number). absurd (let z = one_other n number ne in omega arith))
asleep_is number (Core n has false) one = absurd (omega arith)
asleep_is number Watcher one = absurd (omega arith)

pub only_bits_of_cores : (cores : ℕ) (s : State ℕ View) (number : ℕ) → ControlRule cores s → bit_at (get_or s.words 2 0) number ≡ 1
    → (j : ℕ) × (v : View) × (has : Bool) × (get_elem? s.views j ≡ some v) × (v.role ≡ Core number has true)
only_bits_of_cores cores s number r set =
    let e = r.sleepers number in
    let found = asleep_there number s.views (omega arith) in
    let is = asleep_is number found.1.role found.3 in
    (found.0, found.1, is.0, found.2, is.1)
