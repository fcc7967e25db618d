-- The CAS values that the calls of a list give.
use Rattle.std.specs.Prelude.{◌≡◌, ◌⊎◌, ℕ, ◌<◌, ◌==◌, if◌then◌else◌, List, [], ◌∷◌, ◌++◌, Option, None, Some, ⊤}
use Rattle.std.specs.FinMap.{get}
use Rattle.mc_calls.specs.declared.item.Item.{Item}
use Rattle.mc_calls.specs.declared.entry.Entry.{Entry}
use Rattle.mc_calls.specs.Shard.{Items, State, Effect, keeps, stores, removes, empties, empty_state, outcome_on}
use Rattle.mc_calls.specs.Shard.{state_after}
use Rattle.mc_calls.specs.History.{states_after}

-- the CAS value of the item that was found
abbrev pub unique_in : Option Item → List ℕ
unique_in None = []
unique_in (Some item) = item.unique ∷ []

-- the CAS value that an effect gives to the key's item; only an effect that stores gives one
abbrev pub given_by : Items → Effect → List ℕ
given_by after keeps = []
given_by after (stores key flags value) = unique_in (get after key)
given_by after (removes key) = []
given_by after empties = []

-- the CAS value that an entry's call gives when the shards are in these states
abbrev pub given : ℕ → (ℕ → State) → Entry → List ℕ
given shards states e =
    given_by (state_after shards e.shard (states e.shard) e.call).items
    (outcome_on (states e.shard) e.call).effect

-- the CAS values that the calls on one shard give, in the list's order, from these states of the shards
abbrev pub uniques_from : ℕ → ℕ → (ℕ → State) → List Entry → List ℕ
uniques_from shards number states [] = []
uniques_from shards number states (e ∷ es) =
    (if e.shard == number then given shards states e else [])
    ++ uniques_from shards number (states_after shards states e) es

-- the CAS values that the calls on one shard give, in the list's order, when all shards are empty
-- at first
abbrev pub uniques_at : ℕ → ℕ → List Entry → List ℕ
uniques_at shards number es = uniques_from shards number (λ number. empty_state) es

-- the numbers rise strictly, and are above the one before
abbrev pub AreRising : ℕ → List ℕ → Type 0
AreRising before [] = ⊤
AreRising before (x ∷ xs) = (before < x) × AreRising x xs

-- a number is in a list
abbrev pub IsIn : List ℕ → ℕ → Type 0
IsIn [] x = ⊥
IsIn (y ∷ ys) x = (x ≡ y) ⊎ IsIn ys x
