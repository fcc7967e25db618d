-- The entries of expected calls that are made one after another.
use Rattle.std.proofs.Common.{◌≡◌, ℕ, zero, suc, ◌+◌, ◌<◌, ◌≤◌, Bool, true, false, cond, List, [], ◌∷◌, ◌++◌, refl}
use Rattle.std.proofs.Common.{sym, ap, ◌∙◌, append-nil, eq-eqb, ne_eqb, arith}
use Rattle.std.specs.Prelude.{◌==◌, filter, flat_map}
use Rattle.std.specs.List.{AllByRecursion, range_with_len}
use Rattle.std.proofs.lemmas.List.Elements.{filter-append}
use mathlib.Core.Logic.{dite}
use native.Mathlib.Decide.{ℕ_discrete}
use Rattle.mc_calls.specs.declared.entry.Entry.{Entry}
use Rattle.mc_calls.specs.Shard.{State}
use Rattle.mc_calls.specs.History.{IsLegalFrom, states_after}
use Rattle.mc_calls.specs.Order.{of_connection}
use Rattle.mc_parse.specs.declared.command.Command.{Command}
use Rattle.mc_parse.specs.declared.shard_call.ShardCall.{ShardCall}
use Rattle.mc_parse.specs.Calls.{Due, calls_of, tagged, due, due_from, due_at, due_of, dues_of, IsDueOn}
use Rattle.zy_run.specs.Serial.{answered, made_entry, all_due}
use Rattle.mc_parse.proofs.PlainLemmas.{each-append}

-- ---- the entries

-- they are legal
pub legal-answered : (shards : ℕ) (states : ℕ → State) (stamp : ℕ) (dues : List Due) → AllByRecursion (IsDueOn shards) dues → IsLegalFrom shards states (answered shards states stamp dues)
legal-answered shards states stamp [] within = tt
legal-answered shards states stamp (due ∷ dues) within = (within.0, refl, legal-answered shards (states_after shards states (made_entry states stamp due)) (stamp + 1) dues within.1)

-- ---- the expected calls of one connection

-- the entries of a connection are those of its expected calls
pub own-answered : (conn shards : ℕ) (states : ℕ → State) (stamp : ℕ) (dues : List Due)
    → dues_of (of_connection conn (answered shards states stamp dues)) ≡ filter (λ due. due.tag.conn == conn) dues
own-answered conn shards states stamp [] = refl
own-answered conn shards states stamp (due ∷ dues) =
    let rest : List Entry = answered shards (states_after shards states (made_entry states stamp due)) (stamp + 1) dues in
    go (due.tag.conn == conn) (made_entry states stamp due) (of_connection conn rest) (filter (λ (d : Due). d.tag.conn == conn) dues)
    (own-answered conn shards (states_after shards states (made_entry states stamp due)) (stamp + 1) dues)
  where
    go : (b : Bool) (e : Entry) (es : List Entry) (dues : List Due) → dues_of es ≡ dues → dues_of (cond b (e ∷ es) es) ≡ cond b (due_of e ∷ dues) dues
    go true e es dues is = ap (λ (l : List Due). due_of e ∷ l) is
    go false e es dues is = is

tagged_of : (conn index part : ℕ) (calls : List ShardCall) → AllByRecursion (λ due. due.tag.conn ≡ conn) (tagged conn index part calls)
tagged_of conn index part [] = tt
tagged_of conn index part (call ∷ calls) = (refl, tagged_of conn index (part + 1) calls)

-- the expected calls of a connection belong to it
pub due_from_of : (shards conn index : ℕ) (commands : List Command) → AllByRecursion (λ due. due.tag.conn ≡ conn) (due_from shards conn index commands)
due_from_of shards conn index [] = tt
due_from_of shards conn index (command ∷ commands) =
    each-append (λ due. due.tag.conn ≡ conn) (due_at shards conn index command) (due_from shards conn (index + 1) commands)
    (tagged_of conn index 0 (calls_of shards command)) (due_from_of shards conn (index + 1) commands)

-- those that belong to the connection itself are all of them
filter_own : (conn : ℕ) (dues : List Due) → AllByRecursion (λ due. due.tag.conn ≡ conn) dues → filter (λ due. due.tag.conn == conn) dues ≡ dues
filter_own conn [] of = refl
filter_own conn (due ∷ dues) of =
    ap (λ b. cond b (due ∷ filter (λ d. d.tag.conn == conn) dues) (filter (λ d. d.tag.conn == conn) dues)) (eq-eqb due.tag.conn conn of.0)
    ∙ ap (λ (l : List Due). due ∷ l) (filter_own conn dues of.1)

-- those that belong to another connection are none
filter_other : (conn other : ℕ) (dues : List Due) → (other ≡ conn → ⊥) → AllByRecursion (λ due. due.tag.conn ≡ other) dues → filter (λ due. due.tag.conn == conn) dues ≡ []
filter_other conn other [] apart of = refl
filter_other conn other (due ∷ dues) apart of =
    ap (λ b. cond b (due ∷ filter (λ d. d.tag.conn == conn) dues) (filter (λ d. d.tag.conn == conn) dues)) (ne_eqb due.tag.conn conn (λ is. apart (sym of.0 ∙ is)))
    ∙ filter_other conn other dues apart of.1

module _ (shards conn : ℕ) (commands : ℕ → List Command) where
  dues_from : ℕ → ℕ → List Due
  dues_from first n = flat_map (λ c. due shards c (commands c)) (range_with_len first n)

  -- those of later connections do not belong to this one
  none_due : (first n : ℕ) → conn < first → filter (λ due. due.tag.conn == conn) (dues_from first n) ≡ []
  unfolding dues_from
  none_due first zero past = refl
  none_due first (suc n) past =
      filter-append (λ due. due.tag.conn == conn) (due shards first (commands first)) (dues_from (first + 1) n)
      ∙ ap (λ (l : List Due). l ++ filter (λ due. due.tag.conn == conn) (dues_from (first + 1) n))
      (filter_other conn first (due shards first (commands first)) (λ is. omega arith) (due_from_of shards first 0 (commands first)))
      ∙ none_due (first + 1) n (omega arith)

  -- among the expected calls of some connections, those of one are its expected calls
  own_due : (first n : ℕ) → first ≤ conn → conn < first + n → filter (λ due. due.tag.conn == conn) (dues_from first n) ≡ due shards conn (commands conn)
  unfolding dues_from
  own_due first zero low high = absurd (omega arith)
  own_due first (suc n) low high =
      filter-append (λ due. due.tag.conn == conn) (due shards first (commands first)) (dues_from (first + 1) n)
      ∙ dite (ℕ_discrete first conn)
      (λ is.
      ap (λ (l : List Due). filter (λ due. due.tag.conn == conn) (due shards first (commands first)) ++ l) (none_due (first + 1) n (omega arith))
      ∙ append-nil (filter (λ due. due.tag.conn == conn) (due shards first (commands first)))
      ∙ ap (λ c. filter (λ due. due.tag.conn == conn) (due shards c (commands c))) is
      ∙ filter_own conn (due shards conn (commands conn)) (due_from_of shards conn 0 (commands conn)))
      (λ other.
      ap (λ (l : List Due). l ++ filter (λ due. due.tag.conn == conn) (dues_from (first + 1) n))
      (filter_other conn first (due shards first (commands first)) other (due_from_of shards first 0 (commands first)))
      ∙ own_due (first + 1) n (omega arith) (omega arith))

-- among the expected calls of all connections, those of one are its expected calls
pub own-all_due : (shards count conn : ℕ) (commands : ℕ → List Command) → conn < count → filter (λ due. due.tag.conn == conn) (all_due shards count commands) ≡ due shards conn (commands conn)
unfolding dues_from
own-all_due shards count conn commands within = own_due shards conn commands 0 count (omega arith) (omega arith)
