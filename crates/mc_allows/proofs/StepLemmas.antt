-- What a shard answers to a call, and what the call's key has after it, is allowed; so are all steps at a key.
use Rattle.std.specs.Prelude.{Option, None, Some, nat_lt, ◌==◌}
use Rattle.std.proofs.Common.{◌≡◌, ◌⊎◌, inl, inr, ℕ, ◌+◌, ◌-◌, ◌%◌, ◌^◌, ◌<◌, ◌≤◌, Bool, true, false, cond, List, [], ◌∷◌, ◌++◌, length, refl, sym, ap, ◌∙◌, subst, arith, eq-eqb}
use Rattle.std.specs.FinMap.{get, get-empty}
use Rattle.std.specs.Ordering.{nat_cmp}
use Rattle.std.specs.Cmp.Lexicographic.{slice_cmp}
use Rattle.std.proofs.lemmas.Bool.{ltb-true, eqb-true}
use Rattle.mc_calls.specs.declared.item.Item.{Item}
use Rattle.mc_calls.specs.declared.call.Call.{Call}
use Rattle.mc_calls.specs.declared.call.Call.TheVariants as Calls
use Rattle.mc_calls.specs.declared.call_reply.CallReply.TheVariants as Replies
use Rattle.mc_calls.specs.declared.entry.Entry.{Entry}
use Rattle.mc_calls.specs.declared.entry.Tag.{Tag}
use Rattle.mc_calls.specs.declared.tallied.Tallied.{Tallied}
use Rattle.mc_calls.specs.Shard.{State, Effect, keeps, stores, removes, empties, Outcome, value_limit, answers, stored, joined, exchanged, counted_up, counted_down, unique_of, tallied, outcome_of, outcome_on, reply_to, state_with, state_after, empty_state}
use Rattle.mc_calls.specs.History.{IsReplay, IsLegal, replayed}
use Rattle.mc_calls.specs.Order.{at_shard}
use Rattle.mc_calls.proofs.LegalLemmas.{legal_parts}
use Rattle.zy_base.specs.Number.{number_of}
use Rattle.zy_base.proofs.FilterLemmas.{filter-here, filter-other}
use Rattle.mc_allows.specs.declared.call_name.CallName.{CallName}
use Rattle.mc_allows.specs.declared.said.Said.TheVariants.{Replied}
use Rattle.mc_allows.specs.Allows.{Allows, AllowsReply, Joins, Exchanges, Counts}
use Rattle.mc_allows.specs.Steps.{KeyStep, made, AreAllowed, item_after, unique_stored, IsNoneOf, IsNewUnique, uniques_with, HaveNewUniques, is_about, entries_about, AreSteps, AreLeading}
use Rattle.mc_allows.proofs.KeyLemmas.{after_effect, finds, touched, untouched}
use Rattle.mc_allows.proofs.NumberTextLemmas.{number_kept, number_read, none_read}

-- ---- one call is allowed

-- this outcome of a call that finds this is allowed
abbrev IsAllowed : ℕ → Option Item → Call → Outcome → Type 0
IsAllowed unique found call outcome = AllowsReply found call outcome.reply (after_effect unique found outcome.effect)

joins : (unique : ℕ) (key : List ℕ) (i : Item) (value : List ℕ) → Joins i value (joined key i value).reply (after_effect unique (Some i) (joined key i value).effect)
joins unique key i value = go (nat_lt value_limit (length value)) refl
  where
    go : (b : Bool) → nat_lt value_limit (length value) ≡ b
        → Joins i value (cond b (answers Replies.TooLarge) (stored key i.flags value)).reply (after_effect unique (Some i) (cond b (answers Replies.TooLarge) (stored key i.flags value)).effect)
    go true over = let large = ltb-true value_limit (length value) over in inr (inr refl, refl, omega (arith, large))
    go false over = inl (refl, (refl, refl))

exchanges_it : (unique : ℕ) (key : List ℕ) (i : Item) (flags own : ℕ) (value : List ℕ)
    → Exchanges i own flags value (exchanged key i flags own value).reply (after_effect unique (Some i) (exchanged key i flags own value).effect)
exchanges_it unique key i flags own value = go (i.unique == own) refl
  where
    go : (b : Bool) → (i.unique == own) ≡ b
        → Exchanges i own flags value (cond b (stored key flags value) (answers Replies.Exists)).reply (after_effect unique (Some i) (cond b (stored key flags value) (answers Replies.Exists)).effect)
    go true same = inl (refl, (refl, refl), eqb-true i.unique own same)
    go false other = inr (refl, refl, λ same. let is : (i.unique == own) ≡ true = eq-eqb i.unique own same in absurd (cc))

up : (unique : ℕ) (key : List ℕ) (i : Item) (amount : ℕ) (n : Option ℕ) → number_of i.value ≡ n
    → Counts i (λ m. (m + amount) % 2 ^ 64) (counted_up key i amount n).reply (after_effect unique (Some i) (counted_up key i amount n).effect)
up unique key i amount None is = inr (refl, refl, none_read i.value is)
up unique key i amount (Some n) is = inl (n, number_read i.value n (number_kept i.value n is), refl, (refl, inl refl))

down : (unique : ℕ) (key : List ℕ) (i : Item) (amount : ℕ) (n : Option ℕ) → number_of i.value ≡ n
    → Counts i (λ m. m - amount) (counted_down key i amount n).reply (after_effect unique (Some i) (counted_down key i amount n).effect)
down unique key i amount None is = inr (refl, refl, none_read i.value is)
down unique key i amount (Some n) is = inl (n, number_read i.value n (number_kept i.value n is), refl, (refl, inl refl))

-- the table of calls is within the table of what is allowed
outcome_allowed : (counts : Tallied) (unique : ℕ) (call : Call) (found : Option Item) → IsAllowed unique found call (outcome_of counts call found)
outcome_allowed counts unique (Calls.Get key) None = (refl, refl)
outcome_allowed counts unique (Calls.Get key) (Some i) = (refl, refl)
outcome_allowed counts unique (Calls.Set key flags value) None = (refl, (refl, refl))
outcome_allowed counts unique (Calls.Set key flags value) (Some i) = (refl, (refl, refl))
outcome_allowed counts unique (Calls.Add key flags value) None = (refl, (refl, refl))
outcome_allowed counts unique (Calls.Add key flags value) (Some i) = (refl, refl)
outcome_allowed counts unique (Calls.Replace key flags value) None = (refl, refl)
outcome_allowed counts unique (Calls.Replace key flags value) (Some i) = (refl, (refl, refl))
outcome_allowed counts unique (Calls.Append key piece) None = (refl, refl)
outcome_allowed counts unique (Calls.Append key piece) (Some i) = joins unique key i (i.value ++ piece)
outcome_allowed counts unique (Calls.Prepend key piece) None = (refl, refl)
outcome_allowed counts unique (Calls.Prepend key piece) (Some i) = joins unique key i (piece ++ i.value)
outcome_allowed counts unique (Calls.Cas flags key own value) None = (refl, refl)
outcome_allowed counts unique (Calls.Cas flags key own value) (Some i) = exchanges_it unique key i flags own value
outcome_allowed counts unique (Calls.Incr key amount) None = (refl, refl)
outcome_allowed counts unique (Calls.Incr key amount) (Some i) = up unique key i amount (number_of i.value) refl
outcome_allowed counts unique (Calls.Decr key amount) None = (refl, refl)
outcome_allowed counts unique (Calls.Decr key amount) (Some i) = down unique key i amount (number_of i.value) refl
outcome_allowed counts unique (Calls.Delete key) None = (refl, refl)
outcome_allowed counts unique (Calls.Delete key) (Some i) = (refl, refl)
outcome_allowed counts unique Calls.Flush None = (refl, refl)
outcome_allowed counts unique Calls.Flush (Some i) = (refl, refl)
outcome_allowed counts unique Calls.Tally None = (counts, refl, refl)
outcome_allowed counts unique Calls.Tally (Some i) = (counts, refl, refl)

-- each step of a shard is allowed at the key of its call, and a flush's at each key
pub step_allowed : (shards number : ℕ) (state : State) (key : List ℕ) (call : Call) → is_about key call ≡ true
    → Allows (get state.items key) call (Replied (reply_to state call)) (get (state_after shards number state call).items key)
step_allowed shards number state key call about =
    let unique = unique_of shards number (state.count + 1) in
    let before = get state.items key in
    subst (AllowsReply before call (reply_to state call)) (sym (touched shards number state key call about))
    (subst (IsAllowed unique before call) (sym (finds state key call about)) (outcome_allowed (tallied state) unique call before))

-- ---- one call gives a new unique

-- an effect stores an item
abbrev is_store : Effect → Bool
is_store (stores key flags value) = true
is_store effect = false

-- the unique that the outcome of a call on this gives is the next one, and it gives one only if it stores an item
abbrev GivesNext : ℕ → Option Item → Outcome → Type 0
GivesNext unique found outcome =
    (unique_stored (Replied outcome.reply) (after_effect unique found outcome.effect) ≡ None)
    ⊎ ((unique_stored (Replied outcome.reply) (after_effect unique found outcome.effect) ≡ Some unique) × (is_store outcome.effect ≡ true))

joins_next : (unique : ℕ) (key : List ℕ) (i : Item) (value : List ℕ) → GivesNext unique (Some i) (joined key i value)
joins_next unique key i value = go (nat_lt value_limit (length value))
  where
    go : (b : Bool) → GivesNext unique (Some i) (cond b (answers Replies.TooLarge) (stored key i.flags value))
    go true = inl refl
    go false = inr (refl, refl)

exchanges_next : (unique : ℕ) (key : List ℕ) (i : Item) (flags own : ℕ) (value : List ℕ) → GivesNext unique (Some i) (exchanged key i flags own value)
exchanges_next unique key i flags own value = go (i.unique == own)
  where
    go : (b : Bool) → GivesNext unique (Some i) (cond b (stored key flags value) (answers Replies.Exists))
    go true = inr (refl, refl)
    go false = inl refl

up_next : (unique : ℕ) (key : List ℕ) (i : Item) (amount : ℕ) (n : Option ℕ) → GivesNext unique (Some i) (counted_up key i amount n)
up_next unique key i amount None = inl refl
up_next unique key i amount (Some n) = inr (refl, refl)

down_next : (unique : ℕ) (key : List ℕ) (i : Item) (amount : ℕ) (n : Option ℕ) → GivesNext unique (Some i) (counted_down key i amount n)
down_next unique key i amount None = inl refl
down_next unique key i amount (Some n) = inr (refl, refl)

outcome_next : (counts : Tallied) (unique : ℕ) (call : Call) (found : Option Item) → GivesNext unique found (outcome_of counts call found)
outcome_next counts unique (Calls.Get key) None = inl refl
outcome_next counts unique (Calls.Get key) (Some i) = inl refl
outcome_next counts unique (Calls.Set key flags value) None = inr (refl, refl)
outcome_next counts unique (Calls.Set key flags value) (Some i) = inr (refl, refl)
outcome_next counts unique (Calls.Add key flags value) None = inr (refl, refl)
outcome_next counts unique (Calls.Add key flags value) (Some i) = inl refl
outcome_next counts unique (Calls.Replace key flags value) None = inl refl
outcome_next counts unique (Calls.Replace key flags value) (Some i) = inr (refl, refl)
outcome_next counts unique (Calls.Append key piece) None = inl refl
outcome_next counts unique (Calls.Append key piece) (Some i) = joins_next unique key i (i.value ++ piece)
outcome_next counts unique (Calls.Prepend key piece) None = inl refl
outcome_next counts unique (Calls.Prepend key piece) (Some i) = joins_next unique key i (piece ++ i.value)
outcome_next counts unique (Calls.Cas flags key own value) None = inl refl
outcome_next counts unique (Calls.Cas flags key own value) (Some i) = exchanges_next unique key i flags own value
outcome_next counts unique (Calls.Incr key amount) None = inl refl
outcome_next counts unique (Calls.Incr key amount) (Some i) = up_next unique key i amount (number_of i.value)
outcome_next counts unique (Calls.Decr key amount) None = inl refl
outcome_next counts unique (Calls.Decr key amount) (Some i) = down_next unique key i amount (number_of i.value)
outcome_next counts unique (Calls.Delete key) None = inl refl
outcome_next counts unique (Calls.Delete key) (Some i) = inl refl
outcome_next counts unique Calls.Flush None = inl refl
outcome_next counts unique Calls.Flush (Some i) = inl refl
outcome_next counts unique Calls.Tally None = inl refl
outcome_next counts unique Calls.Tally (Some i) = inl refl

-- ---- uniques below the next

-- the unique that a shard gives next
abbrev next_unique : ℕ → ℕ → State → ℕ
next_unique shards number state = unique_of shards number (state.count + 1)

-- each unique is below this number
abbrev AreUnder : ℕ → List ℕ → Type 0
AreUnder bound [] = Unit {0}
AreUnder bound (x ∷ xs) = (x < bound) × AreUnder bound xs

still_under : (bound more : ℕ) → bound ≤ more → (uniques : List ℕ) → AreUnder bound uniques → AreUnder more uniques
still_under bound more grows [] under = tt
still_under bound more grows (x ∷ xs) under = (let low = under.0 in omega (arith, grows, low), still_under bound more grows xs under.1)

is_none_of : (unique : ℕ) (uniques : List ℕ) → AreUnder unique uniques → IsNoneOf uniques unique
is_none_of unique [] under = tt
is_none_of unique (x ∷ xs) under = (λ same. let low = under.0 in absurd (omega (arith, low, same)), is_none_of unique xs under.1)

next_above : (shards number count : ℕ) → 1 ≤ shards → unique_of shards number (count + 1) < unique_of shards number (count + 1 + 1)
next_above shards number count some = grind arith

-- the next unique never falls, and rises when an item is stored
next_grows : (shards number : ℕ) (state : State) (effect : Effect) → 1 ≤ shards → unique_of shards number (state.count + 1) ≤ unique_of shards number ((state_with shards number state effect).count + 1)
next_grows shards number state keeps some = omega arith
next_grows shards number state (stores key flags value) some = let above = next_above shards number state.count some in omega (arith, above)
next_grows shards number state (removes key) some = omega arith
next_grows shards number state empties some = omega arith

next_rises : (shards number : ℕ) (state : State) (effect : Effect) → 1 ≤ shards → is_store effect ≡ true → unique_of shards number (state.count + 1) < unique_of shards number ((state_with shards number state effect).count + 1)
next_rises shards number state (stores key flags value) some is = next_above shards number state.count some
next_rises shards number state keeps some is = absurd (cc)
next_rises shards number state (removes key) some is = absurd (cc)
next_rises shards number state empties some is = absurd (cc)

-- ---- lists of calls

-- the entries' calls are allowed steps from one item to another, with uniques that are none of these
record LeadsOn (name : Tag → CallName) (before : Option Item) (uniques : List ℕ) (es : List Entry) (after : Option Item) : Type 0 where
  steps : List KeyStep
  calls : AreSteps name es steps
  allowed : AreAllowed false None before steps
  new : HaveNewUniques uniques steps
  ends : item_after before steps ≡ after

-- the unique that a call about the key gives is new, and below the next one after it
record IsFresh (shards number : ℕ) (state : State) (key : List ℕ) (call : Call) (uniques : List ℕ) : Type 0 where
  given : Option ℕ
  is : unique_stored (Replied (reply_to state call)) (get (state_after shards number state call).items key) ≡ given
  new : IsNewUnique uniques given
  under : AreUnder (next_unique shards number (state_after shards number state call)) (uniques_with uniques given)

fresh : (shards number : ℕ) (state : State) (key : List ℕ) (call : Call) (uniques : List ℕ) → 1 ≤ shards → is_about key call ≡ true → AreUnder (next_unique shards number state) uniques
    → IsFresh shards number state key call uniques
fresh shards number state key call uniques some about under = by_case (subst (GivesNext unique before) (sym (finds state key call about)) (outcome_next (tallied state) unique call before))
  where
    unique : ℕ
    unique = next_unique shards number state

    before : Option Item
    before = get state.items key

    effect : Effect
    effect = (outcome_on state call).effect

    after_is : unique_stored (Replied (reply_to state call)) (get (state_after shards number state call).items key) ≡ unique_stored (Replied (reply_to state call)) (after_effect unique before effect)
    after_is = ap (unique_stored (Replied (reply_to state call))) (touched shards number state key call about)

    by_case : GivesNext unique before (outcome_on state call) → IsFresh shards number state key call uniques
    by_case (inl none) = record { given = None; is = after_is ∙ none; new = tt; under = still_under unique _ (next_grows shards number state effect some) uniques under }
    by_case (inr next) = record {
      given = Some unique;
      is = after_is ∙ next.0;
      new = is_none_of unique uniques under;
      under = (next_rises shards number state effect some next.1, still_under unique _ (next_grows shards number state effect some) uniques under);
    }

-- the replay's entries about a key lead from the key's item before it to that after it
replay_leads : (name : Tag → CallName) (shards number : ℕ) (state : State) (key : List ℕ) (uniques : List ℕ) (es : List Entry) → 1 ≤ shards → AreUnder (next_unique shards number state) uniques
    → IsReplay shards number state es → LeadsOn name (get state.items key) uniques (entries_about key es) (get (replayed shards number state es).items key)
replay_leads name shards number state key uniques [] some under replay = record { steps = []; calls = tt; allowed = tt; new = tt; ends = refl }
replay_leads name shards number state key uniques (e ∷ es) some under replay =
    go (λ given low. replay_leads name shards number (state_after shards number state e.call) key given es some low replay.1) (is_about key e.call) refl
  where
    next : State
    next = state_after shards number state e.call

    mid : Option Item
    mid = get next.items key

    end : Option Item
    end = get (replayed shards number next es).items key

    below : ℕ
    below = next_unique shards number state

    -- the rest of the list leads on, whatever uniques were given before it
    More : Type 0
    More = (given : List ℕ) → AreUnder (next_unique shards number next) given → LeadsOn name mid given (entries_about key es) end

    here : More → is_about key e.call ≡ true → LeadsOn name (get state.items key) uniques (e ∷ entries_about key es) end
    here more about = record {
      steps = made (name e.tag) e.call (Replied e.reply) mid ∷ rest.steps;
      calls = (refl, refl, refl, rest.calls);
      allowed = (subst (λ reply. Allows (get state.items key) e.call (Replied reply) mid) (sym replay.0) (step_allowed shards number state key e.call about), rest.allowed);
      new = subst (λ given. IsNewUnique uniques given × HaveNewUniques (uniques_with uniques given) rest.steps) (sym (ap (λ reply. unique_stored (Replied reply) mid) replay.0 ∙ own.is)) (own.new, rest.new);
      ends = rest.ends;
    }
      where
        own : IsFresh shards number state key e.call uniques
        own = fresh shards number state key e.call uniques some about under

        rest : LeadsOn name mid (uniques_with uniques own.given) (entries_about key es) end
        rest = more (uniques_with uniques own.given) own.under

    go : More → (b : Bool) → is_about key e.call ≡ b → LeadsOn name (get state.items key) uniques (entries_about key (e ∷ es)) end
    go more true about =
        subst (λ list. LeadsOn name (get state.items key) uniques list end) (sym (filter-here (λ (x : Entry). is_about key x.call) e es about)) (here more about)
    go more false other =
        subst (λ list. LeadsOn name (get state.items key) uniques list end) (sym (filter-other (λ (x : Entry). is_about key x.call) e es other))
        (subst (λ found. LeadsOn name found uniques (entries_about key es) end) (untouched shards number state key e.call other)
        (more uniques (still_under below _ (next_grows shards number state (outcome_on state e.call).effect some) uniques under)))

-- in a legal list the entries at a shard that are about a key lead from no item to the one that the key has at last
pub legal_leads : (name : Tag → CallName) (shards : ℕ) (es : List Entry) → IsLegal shards es → (shard : ℕ) (key : List ℕ)
    → AreLeading name (entries_about key (at_shard shard es)) (get (replayed shards shard empty_state (at_shard shard es)).items key)
legal_leads name shards [] legal shard key =
    record { steps = []; calls = tt; chain = record { allowed = tt; new = tt }; ends = sym (get-empty (slice_cmp nat_cmp) key) }
legal_leads name shards (e ∷ es) legal shard key = whole
    (subst (λ found. LeadsOn name found [] (entries_about key own) end) (get-empty (slice_cmp nat_cmp) key)
    (replay_leads name shards shard empty_state key [] own (let below = legal.0 in omega (arith, below)) tt (legal_parts shards (λ number. empty_state) (e ∷ es) legal shard)))
  where
    own : List Entry
    own = at_shard shard (e ∷ es)

    end : Option Item
    end = get (replayed shards shard empty_state own).items key

    whole : LeadsOn name None [] (entries_about key own) end → AreLeading name (entries_about key own) end
    whole leads = record { steps = leads.steps; calls = leads.calls; chain = record { allowed = leads.allowed; new = leads.new }; ends = leads.ends }
