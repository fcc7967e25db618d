-- A round gives each core one turn, and so each has one turn more after it.
use Rattle.std.proofs.Common.{◌≡◌, ◌⊎◌, ℕ, zero, suc, ◌+◌, ◌-◌, ◌%◌, ◌<◌, ◌≤◌, List, [], ◌∷◌, map, length, set, Some, slice_get, refl, sym, ap, subst, ◌∙◌, ⊎_elim, inl, inr, arith}
use Rattle.std.proofs.Math.Nat.{add-mod_right, mod-eq_of_lt, mod-lt}
use Rattle.zy_table.proofs.SliceLemmas.{get_set_there, get_set_else}
use Rattle.zy_core.proofs.ListLemmas.{get_map}
use Rattle.zy_rounds.specs.Order.{turn_of, HasOneTurn}
use Rattle.zy_core.specs.Core.{Cored}
use Rattle.zy_rounds.specs.Turns.{next_turn, turns_of, HaveTurned}
use Rattle.std.proofs.lemmas.List.{length-map, map-set}
use mathlib.Core.Logic.{dite}
use native.Mathlib.Decide.{dec_lt, ℕ_discrete}

-- a turn that doesn't come round
straight : (n a k : ℕ) → a + k < n → turn_of n a k ≡ a + k
straight n a k lt = mod-eq_of_lt lt

-- a turn that comes round
past : (n a k : ℕ) → a < n → k < n → n ≤ a + k → turn_of n a k + n ≡ a + k
past n a k la lk le =
    let rest : ℕ = a + k - n in
    let is : a + k ≡ rest + n = omega arith in
    let back : turn_of n a k ≡ rest = ap (λ x. x % n) is ∙ add-mod_right rest n ∙ mod-eq_of_lt (omega arith) in
    omega arith

-- a turn is one or the other
turn_is : (n a k : ℕ) → a < n → k < n → (turn_of n a k ≡ a + k) ⊎ (turn_of n a k + n ≡ a + k)
turn_is n a k la lk = dite (dec_lt (a + k) n) (λ lt. inl (straight n a k lt)) (λ not. inr (past n a k la lk (omega arith)))

pub one_turn_each : (n a c : ℕ) → a < n → c < n → HasOneTurn n a c
one_turn_each n a c la lc = dite (dec_lt c a)
    (λ lt. record { turn = c + n - a; within = omega arith; is = at (c + n - a) (omega arith) (inr (omega arith)); only = λ k lk e. only k (c + n - a) lk (omega arith) e (inr (omega arith)) })
    (λ not. record { turn = c - a; within = omega arith; is = at (c - a) (omega arith) (inl (omega arith)); only = λ k lk e. only k (c - a) lk (omega arith) e (inl (omega arith)) })
  where
    at : (k : ℕ) → k < n → (c ≡ a + k) ⊎ (c + n ≡ a + k) → turn_of n a k ≡ c
    at k lk is = ⊎_elim
        (λ x. straight n a k (omega arith) ∙ sym x)
        (λ x. let p = past n a k la lk (omega arith) in omega arith)
        is

    only : (k j : ℕ) → k < n → j < n → turn_of n a k ≡ c → (c ≡ a + j) ⊎ (c + n ≡ a + j) → k ≡ j
    only k j lk lj e is = ⊎_elim
        (λ x. ⊎_elim (λ y. omega arith) (λ y. omega arith) is)
        (λ x. ⊎_elim (λ y. omega arith) (λ y. omega arith) is)
        (turn_is n a k la lk)

-- two turns of one core are the same
same_turn : (n a t u : ℕ) → a < n → t < n → u < n → turn_of n a t ≡ turn_of n a u → t ≡ u
same_turn n a t u la lt lu e =
    let one = one_turn_each n a (turn_of n a u) la (mod-lt (a + u) (omega arith)) in one.only t lt e ∙ sym (one.only u lu refl)

-- ---- the turns of a round so far

-- the first k turns of a round that begins with `first` were taken, and no others: by the numbers of the cores' turns
-- before the round and now
pub record TurnedSoFar (n first k : ℕ) (before now : List ℕ) : Type 0 where
  pub done : (t : ℕ) → t < k → slice_get now (turn_of n first t) ≡ slice_get (map next_turn before) (turn_of n first t)
  pub rest : (t : ℕ) → k ≤ t → t < n → slice_get now (turn_of n first t) ≡ slice_get before (turn_of n first t)

-- none was taken
pub none_so_far : (n first : ℕ) (xs : List ℕ) → TurnedSoFar n first 0 xs xs
none_so_far n first xs = record { done = λ t lt. absurd (omega arith); rest = λ t le lt. refl }

-- one more was taken
one_so_far : (n first k : ℕ) (xs ys : List ℕ) (was is : ℕ) → first < n → k < n → slice_get ys (turn_of n first k) ≡ Some was → is ≡ next_turn was → TurnedSoFar n first k xs ys
    → TurnedSoFar n first (k + 1) xs (set ys (turn_of n first k) is)
one_so_far n first k xs ys was is la lk there next so = record {
  done = λ t lt. dite (ℕ_discrete t k)
      (λ e.
      let here : slice_get (set ys (turn_of n first k) is) (turn_of n first k) ≡ Some is = get_set_there ys (turn_of n first k) is was there in
      let due : slice_get (map next_turn xs) (turn_of n first k) ≡ Some (next_turn was) = get_map next_turn xs (turn_of n first k) was (sym (so.rest k (omega arith) lk) ∙ there) in
      rw e (here ∙ ap Some next ∙ sym due))
      (λ ne. get_set_else ys (turn_of n first k) (turn_of n first t) is (λ e. ne (same_turn n first t k la (omega arith) lk e)) ∙ so.done t (omega arith));
  rest = λ t le lt. get_set_else ys (turn_of n first k) (turn_of n first t) is (λ e. let same = same_turn n first t k la lt lk e in absurd (omega arith)) ∙ so.rest t (omega arith) lt;
}

-- a core took one more
pub turn_so_far : (n first k at : ℕ) (cs ds : List Cored) (c d : Cored) → first < n → k < n → at ≡ turn_of n first k → slice_get ds at ≡ Some c → d.turns ≡ next_turn c.turns
    → TurnedSoFar n first k (turns_of cs) (turns_of ds) → TurnedSoFar n first (k + 1) (turns_of cs) (turns_of (set ds at d))
turn_so_far n first k at cs ds c d la lk is there next so =
    let turns : Cored → ℕ = λ x. x.turns in
    let moved : turns_of (set ds at d) ≡ set (turns_of ds) (turn_of n first k) d.turns = map-set turns ds at d ∙ ap (λ j. set (turns_of ds) j d.turns) is in
    subst (TurnedSoFar n first (k + 1) (turns_of cs)) (sym moved)
    (one_so_far n first k (turns_of cs) (turns_of ds) c.turns d.turns la lk (ap (slice_get (turns_of ds)) (sym is) ∙ get_map turns ds at c there) next so)

-- lists that agree at each index
same_lists : {A : Type 0} (xs ys : List A) → length xs ≡ length ys → ((i : ℕ) → i < length xs → slice_get xs i ≡ slice_get ys i) → xs ≡ ys
same_lists [] [] len each = refl
same_lists [] (y ∷ ys) len each = absurd (omega arith)
same_lists (x ∷ xs) [] len each = absurd (omega arith)
same_lists (x ∷ xs) (y ∷ ys) len each =
    let here : Some x ≡ Some y = each 0 (omega arith) in let is : x ≡ y = cc in
    λ i. is i ∷ same_lists xs ys (omega arith) (λ j lt. each (suc j) (omega arith)) i

-- all were taken
pub all_so_far : (n first k : ℕ) (cs ds : List Cored) → first < n → n ≤ k → length cs ≡ n → length ds ≡ n → TurnedSoFar n first k (turns_of cs) (turns_of ds) → HaveTurned cs ds
all_so_far n first k cs ds la le len len' so = same_lists (turns_of ds) (map next_turn (turns_of cs)) (long ds ∙ len' ∙ sym len ∙ sym (long cs) ∙ sym (length-map (turns_of cs) next_turn))
    (λ i lt.
    let within : i < length ds = rw (← long ds) lt in
    let one = one_turn_each n first i la (omega arith) in
    ap (slice_get (turns_of ds)) (sym one.is) ∙ so.done one.turn (let near = one.within in omega arith) ∙ ap (slice_get (map next_turn (turns_of cs))) one.is)
  where
    long : (cs : List Cored) → length (turns_of cs) ≡ length cs
    long cs = length-map cs (λ (c : Cored). c.turns)
