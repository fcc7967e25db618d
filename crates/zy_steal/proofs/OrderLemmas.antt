-- The order of victims goes once round the numbers of the other cores.
use Rattle.std.proofs.Common.{add-one, length-append, zero, suc, List, [], ◌∷◌, ◌++◌, length, ◌≡◌, ◌≢◌, ℕ, ◌+◌, ◌-◌, ◌%◌, ◌<◌, ◌≤◌, cond, refl, sym, ap, ◌∙◌, arith}
use Rattle.std.specs.Prelude.{nat_lt}
use Rattle.std.proofs.lemmas.Bool.Decides.{nat_tests}
use Rattle.std.proofs.Math.Nat.{add-mod-mod, mod-add-mod, add-mod_right, mod-eq_of_lt}
use mathlib.Core.Logic.{dite}
use native.Mathlib.Decide.{dec_lt}
use Rattle.zy_steal.specs.Order.{victim, first_victims, other_core, number_of}
use Rattle.zy_steal.specs.Steal.{Thief, thief}
use Rattle.zy_steal.specs.Range.{turned}

-- ---- other cores and their numbers

-- another core below this one has its own number
pub other-below : (core at : ℕ) → at < core → other_core core at ≡ at
other-below core at lt = grind (arith, nat_tests)

-- another core above this one has the number one below
pub other-above : (core at : ℕ) → core ≤ at → other_core core at ≡ at + 1
other-above core at le = grind (arith, nat_tests)

-- the core with a number among the others has that number
pub number_of-other : (core at : ℕ) → number_of core (other_core core at) ≡ at
number_of-other core at = grind (arith, nat_tests)

-- the number of another core is that of this core
pub other-number_of : (core other : ℕ) → core ≢ other → other_core core (number_of core other) ≡ other
other-number_of core other ne = grind (arith, nat_tests)

-- different numbers belong to different cores
pub others-apart : (core a b : ℕ) → a ≢ b → other_core core a ≢ other_core core b
others-apart core a b ne e = ne (sym (number_of-other core a) ∙ ap (number_of core) e ∙ number_of-other core b)

-- ---- turns

-- a number below twice the modulus
mod_turn : (n k : ℕ) → k < n + n → k % n ≡ cond (nat_lt k n) k (k - n)
mod_turn n k lt = dite (dec_lt k n)
    (λ below. let a : k % n ≡ k = mod-eq_of_lt below in grind (arith, nat_tests))
    (λ not. let a : k % n ≡ k - n = (let b : k ≡ (k - n) + n = omega arith in ap (λ x. x % n) b ∙ add-mod_right (k - n) n ∙ mod-eq_of_lt {n = k - n} {m = n} (omega arith)) in grind (arith, nat_tests))

-- the number of the t-th victim among the others
pub victim_is : (cores core m start t : ℕ) → core < cores → t + 1 < cores → start ≡ (core + m) % (cores - 1) → victim cores core m t ≡ other_core core (turned start (cores - 1) t)
victim_is cores core m start t near few is =
    let count : ℕ = cores - 1 in
    let r : ℕ = (m + t) % count in
    let low : r < count = omega arith in
    let low' : start < count = omega arith in
    let both : (core + r) % count ≡ (start + t) % count =
    add-mod-mod core (m + t) count ∙ ap (λ x. x % count) (let e : core + (m + t) ≡ (core + m) + t = omega arith in e) ∙ sym (mod-add-mod (core + m) count t) ∙ ap (λ x. (x + t) % count) (sym is) in
    let left = mod_turn count (core + r) (omega arith) in
    let right = mod_turn count (start + t) (omega arith) in
    let whole = mod_turn cores (core + 1 + r) (omega arith) in
    grind (arith, nat_tests)

-- ---- the order as a list

-- one further victim
pub first_victims-more : (cores core m t : ℕ) → first_victims cores core m (t + 1) ≡ first_victims cores core m t ++ victim cores core m t ∷ []
first_victims-more cores core m t = rw add-one refl

-- there is a victim for each turn
pub length-first_victims : (cores core m t : ℕ) → length (first_victims cores core m t) ≡ t
length-first_victims cores core m zero = refl
length-first_victims cores core m (suc t) = let a = length-first_victims cores core m t in length-append (first_victims cores core m t) (victim cores core m t ∷ []) ∙ omega arith

-- the victim of a turn, by the number of calls modulo that of the others
pub victim-mod : (cores core m t : ℕ) → (core + 1 + (m % (cores - 1) + t) % (cores - 1)) % cores ≡ victim cores core m t
victim-mod cores core m t = ap (λ x. (core + 1 + x) % cores) (mod-add-mod m (cores - 1) t)

-- the order with the victim of the next turn
pub order_more : (h : Thief) (cores core calls t : ℕ) (order longer : List ℕ) → thief core cores calls ≡ h → order ≡ first_victims h.cores h.core h.calls t → longer ≡ order ++ (core + 1 + (calls % (cores - 1) + t) % (cores - 1)) % cores ∷ [] → longer ≡ first_victims h.cores h.core h.calls (t + 1)
order_more h cores core calls t order longer is before after =
    let next = ap (λ (x : Thief). (x.core + 1 + (x.calls % (x.cores - 1) + t) % (x.cores - 1)) % x.cores) is ∙ victim-mod h.cores h.core h.calls t in
    after ∙ (λ i. before i ++ next i ∷ []) ∙ sym (first_victims-more h.cores h.core h.calls t)
