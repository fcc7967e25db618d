-- The uniques given on one shard rise, and those of two shards differ.
use Rattle.std.proofs.Common.{◌≡◌, ℕ, ◌+◌, ◌%◌, ◌<◌, ◌≤◌, Bool, true, false, cond, List, [], ◌∷◌, ◌++◌, refl, sym, ap, subst, ◌∙◌, ⊎_elim, arith}
use Rattle.std.specs.Prelude.{◌==◌}
use Rattle.std.proofs.lemmas.Bool.{eqb-true, eqb-false, eq-eqb, ne_eqb}
use Rattle.std.proofs.lemmas.Nat.{mod-mul-add}
use Rattle.std.proofs.Math.Nat.{mul_comm}
use Rattle.std.specs.Prelude.{Some}
use Rattle.std.specs.Ordering.{is_eq}
use Rattle.std.specs.Cmp.Lexicographic.{nat_list_cmp_total}
use Rattle.std.specs.FinMap.{get, insert, get-insert}
use Rattle.std.proofs.lemmas.Cmp.{tied_itself}
use Rattle.mc_calls.specs.declared.item.Item.{Item}
use Rattle.mc_calls.specs.declared.entry.Entry.{Entry}
use Rattle.mc_calls.specs.Shard.{Items, State, empty_state, Effect, keeps, stores, removes, empties, unique_of, outcome_on, state_with, state_after}
use Rattle.mc_calls.specs.History.{IsLegal, IsLegalFrom, states_after}
use Rattle.shard_laws.specs.Uniques.{unique_in, given_by, given, uniques_from, uniques_at, AreRising, IsIn}

-- ---- the uniques given

-- the unique that an effect gives, where the next one is this
abbrev pub next_by : ℕ → Effect → List ℕ
next_by unique keeps = []
next_by unique (stores key flags value) = unique ∷ []
next_by unique (removes key) = []
next_by unique empties = []

-- the unique that an entry's call gives is the next of its shard
abbrev next_given : ℕ → (ℕ → State) → Entry → List ℕ
next_given shards states e =
    next_by (unique_of shards e.shard ((states e.shard).count + 1)) (outcome_on (states e.shard) e.call).effect

-- what is put at a key is found there
found_there : (items : Items) (key : List ℕ) (item : Item) → get (insert items key item) key ≡ Some item
found_there items key item =
    get-insert nat_list_cmp_total items key item key ∙ ap (λ order. cond (is_eq order) (Some item) (get items key)) (tied_itself nat_list_cmp_total key)

given_is : (shards number : ℕ) (state : State) (effect : Effect) → given_by (state_with shards number state effect).items effect ≡ next_by (unique_of shards number (state.count + 1)) effect
given_is shards number state keeps = refl
given_is shards number state (stores key flags value) =
    ap unique_in (found_there state.items key (record { flags = flags; value = value; unique = unique_of shards number (state.count + 1) }))
given_is shards number state (removes key) = refl
given_is shards number state empties = refl

given_is_next : (shards : ℕ) (states : ℕ → State) (e : Entry) → given shards states e ≡ next_given shards states e
given_is_next shards states e = given_is shards e.shard (states e.shard) (outcome_on (states e.shard) e.call).effect

-- ---- on one shard

-- the next unique is above this one
next_above : (shards number count : ℕ) → 1 ≤ shards → unique_of shards number (count + 1) < unique_of shards number (count + 1 + 1)
next_above shards number count some = grind arith

-- the unique that an effect gives comes before those that follow
rise_after : (shards number before : ℕ) (state : State) (effect : Effect) (rest : List ℕ) → 1 ≤ shards → before < unique_of shards number (state.count + 1)
    → ((before' : ℕ) → before' < unique_of shards number ((state_with shards number state effect).count + 1) → AreRising before' rest)
    → AreRising before (next_by (unique_of shards number (state.count + 1)) effect ++ rest)
rise_after shards number before state keeps rest some above more = more before above
rise_after shards number before state (stores key flags value) rest some above more = (above, more _ (next_above shards number state.count some))
rise_after shards number before state (removes key) rest some above more = more before above
rise_after shards number before state empties rest some above more = more before above

-- ---- along a list

chosen : {A : Type 0} (b : Bool) (x y : A) → b ≡ true → cond b x y ≡ x
chosen true x y is = refl
chosen false x y is = cc

other : {A : Type 0} (b : Bool) (x y : A) → b ≡ false → cond b x y ≡ y
other true x y is = cc
other false x y is = refl

-- the state of an entry's shard after it
state_here : (shards : ℕ) (states : ℕ → State) (e : Entry) → states_after shards states e e.shard ≡ state_after shards e.shard (states e.shard) e.call
state_here shards states e = chosen (e.shard == e.shard) _ _ (eq-eqb e.shard e.shard refl)

-- the state of another shard after an entry
state_elsewhere : (shards number : ℕ) (states : ℕ → State) (e : Entry) → (number == e.shard) ≡ false → states_after shards states e number ≡ states number
state_elsewhere shards number states e is = other (number == e.shard) _ _ is

-- the next unique of a shard is above this number
abbrev IsBelowNext : ℕ → ℕ → State → ℕ → Type 0
IsBelowNext shards number state before = before < unique_of shards number (state.count + 1)

rise_here : (shards before : ℕ) (states : ℕ → State) (e : Entry) (rest : List ℕ) → 1 ≤ shards → IsBelowNext shards e.shard (states e.shard) before
    → ((before' : ℕ) → IsBelowNext shards e.shard (states_after shards states e e.shard) before' → AreRising before' rest)
    → AreRising before (given shards states e ++ rest)
rise_here shards before states e rest some above more =
    subst (λ unique. AreRising before (unique ++ rest)) (sym (given_is_next shards states e)) (rise_after shards e.shard before (states e.shard) (outcome_on (states e.shard) e.call).effect rest some above
    (λ before' above'. more before' (subst (λ s. IsBelowNext shards e.shard s before') (sym (state_here shards states e)) above')))

rise_step : (shards number before : ℕ) (states : ℕ → State) (e : Entry) (rest : List ℕ) (b : Bool) → (e.shard == number) ≡ b → 1 ≤ shards → IsBelowNext shards number (states number) before
    → ((before' : ℕ) → IsBelowNext shards number (states_after shards states e number) before' → AreRising before' rest)
    → AreRising before (cond b (given shards states e) [] ++ rest)
rise_step shards number before states e rest true is some above more =
    let here : e.shard ≡ number = eqb-true e.shard number is in
    rise_here shards before states e rest some (subst (λ n. IsBelowNext shards n (states n) before) (sym here) above)
    (λ before' above'. more before' (subst (λ n. IsBelowNext shards n (states_after shards states e n) before') here above'))
rise_step shards number before states e rest false is some above more =
    more before (subst (λ s. IsBelowNext shards number s before) (sym (state_elsewhere shards number states e (ne_eqb number e.shard (λ same. eqb-false e.shard number is (sym same))))) above)

pub uniques_rise : (shards number before : ℕ) (states : ℕ → State) (es : List Entry) → IsLegalFrom shards states es → IsBelowNext shards number (states number) before
    → AreRising before (uniques_from shards number states es)
uniques_rise shards number before states [] legal above = tt
uniques_rise shards number before states (e ∷ es) legal above =
    rise_step shards number before states e (uniques_from shards number (states_after shards states e) es) (e.shard == number) refl (let below = legal.0 in omega arith) above
    (λ before' above'. uniques_rise shards number before' (states_after shards states e) es legal.2 above')

-- the first unique is above the shard's number
first_above : (shards number : ℕ) → 1 ≤ shards → number < unique_of shards number (0 + 1)
first_above shards number some = grind arith

-- the uniques of a shard that was empty rise from its number
pub uniques_rise_from_empty : (shards number : ℕ) (es : List Entry) → IsLegal shards es → AreRising number (uniques_at shards number es)
uniques_rise_from_empty shards number [] legal = tt
uniques_rise_from_empty shards number (e ∷ es) legal =
    uniques_rise shards number number (λ _. empty_state) (e ∷ es) legal (first_above shards number (let below = legal.0 in omega arith))

-- ---- two shards

-- a unique of the shard with this number, among `shards` shards
pub record IsOf (shards number unique : ℕ) : Type 0 where
  pub within : number < shards
  pub count : ℕ
  pub is : unique ≡ unique_of shards number count

of_effect : (shards number count unique : ℕ) (effect : Effect) (rest : List ℕ) → number < shards → (IsIn rest unique → IsOf shards number unique)
    → IsIn (next_by (unique_of shards number count) effect ++ rest) unique → IsOf shards number unique
of_effect shards number count unique keeps rest within more among = more among
of_effect shards number count unique (stores key flags value) rest within more among = ⊎_elim (λ is. record { within = within; count = count; is = is }) more among
of_effect shards number count unique (removes key) rest within more among = more among
of_effect shards number count unique empties rest within more among = more among

of_step : (shards number unique : ℕ) (states : ℕ → State) (e : Entry) (rest : List ℕ) (b : Bool) → (e.shard == number) ≡ b → e.shard < shards → (IsIn rest unique → IsOf shards number unique)
    → IsIn (cond b (given shards states e) [] ++ rest) unique → IsOf shards number unique
of_step shards number unique states e rest true is within more among =
    let here : e.shard ≡ number = eqb-true e.shard number is in
    subst (λ n. IsOf shards n unique) here
    (of_effect shards e.shard ((states e.shard).count + 1) unique (outcome_on (states e.shard) e.call).effect rest within (λ later. subst (λ n. IsOf shards n unique) (sym here) (more later))
    (subst (λ given. IsIn (given ++ rest) unique) (given_is_next shards states e) among))
of_step shards number unique states e rest false is within more among = more among

-- a unique that is given on a shard is one of that shard
pub uniques_are_of : (shards number unique : ℕ) (states : ℕ → State) (es : List Entry) → IsLegalFrom shards states es → IsIn (uniques_from shards number states es) unique → IsOf shards number unique
uniques_are_of shards number unique states [] legal among = absurd among
uniques_are_of shards number unique states (e ∷ es) legal among =
    of_step shards number unique states e (uniques_from shards number (states_after shards states e) es) (e.shard == number) refl legal.0
    (uniques_are_of shards number unique (states_after shards states e) es legal.2) among

-- a unique belongs to one shard only
pub of_one_shard : (shards a b unique : ℕ) → IsOf shards a unique → IsOf shards b unique → a ≡ b
of_one_shard shards a b unique x y =
    sym (number_part shards a x.count x.within) ∙ ap (λ n. n % shards) (sym x.is ∙ y.is) ∙ number_part shards b y.count y.within
  where
    number_part : (shards number count : ℕ) → number < shards → unique_of shards number count % shards ≡ number
    number_part shards number count within = ap (λ m. (m + number) % shards) (mul_comm shards count) ∙ mod-mul-add count shards number within
