-- A connection of commands that are apart has the outputs that it has when it is alone.
use Rattle.zy_run.proofs.SerialLemmas.{due_from_of, legal-answered}
use Rattle.std.proofs.Common.{◌≡◌, inl, ℕ, ◌+◌, ◌<◌, List, [], ◌∷◌, refl, ap, ◌∙◌, arith, ◌≤◌, sym, subst}
use Rattle.std.specs.Prelude.{Some}
use Rattle.std.specs.List.{AllByRecursion}
use Rattle.mc_calls.specs.declared.entry.Entry.{Entry}
use Rattle.mc_calls.specs.Shard.{State, empty_state}
use Rattle.mc_calls.specs.History.{states_after}
use Rattle.mc_calls.specs.Order.{of_connection, IsOrdered}
use Rattle.mc_calls.proofs.EntryLemmas.{of_connection-here}
use Rattle.mc_parse.specs.declared.command.Command.{Command}
use Rattle.mc_parse.specs.Calls.{Due, due, dues_of, due_of, IsDueOn}
use Rattle.zy_run.specs.Serial.{answered, made_entry}
use Rattle.run_laws.specs.Alone.{alone}
use Rattle.zy_run.proofs.RunLemmas.{run_told, told_anywhere}
use Rattle.std.proofs.lemmas.List.Elements.{recursion_from_All}
use Rattle.mc_parse.proofs.CallLemmas.{due_within}
use Rattle.zy_run.specs.Commands.{commands_over}
use Rattle.zy_run.specs.Run.{IsRun}
use Rattle.zy_run.specs.Output.{connection_outputs}
use Rattle.mc_parse.specs.Plain.{all_keys_of, IsDueOwn}
use Rattle.zy_run.specs.Apart.{commands_of_all, AreApart}
use Rattle.zy_run.specs.Keyed.{told_by}
use Rattle.mc_calls.specs.Told.{all_told}
use Rattle.zy_run.proofs.AloneLemmas.{told-alone}
use Rattle.mc_parse.proofs.PlainLemmas.{due_own}
use Rattle.zy_run.proofs.ApartOutputLemmas.{outputs-same}

-- ---- the entries

-- they are the entries of the expected calls
pub dues_of-answered : (shards : ℕ) (states : ℕ → State) (stamp : ℕ) (dues : List Due) → dues_of (answered shards states stamp dues) ≡ dues
dues_of-answered shards states stamp [] = refl
dues_of-answered shards states stamp (due ∷ dues) = ap (λ (l : List Due). due ∷ l) (dues_of-answered shards (states_after shards states (made_entry states stamp due)) (stamp + 1) dues)

-- they are in the order of their stamps
pub ordered-answered : (shards : ℕ) (states : ℕ → State) (stamp : ℕ) (before : Entry) (dues : List Due) → before.stamp < stamp → IsOrdered (Some before) (answered shards states stamp dues)
ordered-answered shards states stamp before [] above = tt
ordered-answered shards states stamp before (due ∷ dues) above =
    (inl above, ordered-answered shards (states_after shards states (made_entry states stamp due)) (stamp + 1) (made_entry states stamp due) dues (omega arith))

-- ---- one connection alone

answered-own : (conn shards : ℕ) (states : ℕ → State) (stamp : ℕ) (dues : List Due) → AllByRecursion (λ due. due.tag.conn ≡ conn) dues → of_connection conn (answered shards states stamp dues) ≡ answered shards states stamp dues
answered-own conn shards states stamp [] of = refl
answered-own conn shards states stamp (due ∷ dues) of =
    of_connection-here conn (made_entry states stamp due) (answered shards (states_after shards states (made_entry states stamp due)) (stamp + 1) dues) of.0
    ∙ ap (λ (l : List Entry). made_entry states stamp due ∷ l) (answered-own conn shards (states_after shards states (made_entry states stamp due)) (stamp + 1) dues of.1)

-- all entries of a connection that is alone are its own
pub own-alone : (shards conn : ℕ) (commands : List Command) → of_connection conn (alone shards conn commands) ≡ alone shards conn commands
own-alone shards conn commands = answered-own conn shards (λ number. empty_state) 1 (due shards conn commands) (due_from_of shards conn 0 commands)

-- ---- each entry

-- what holds of the expected calls that entries were made for holds of each entry
each_asked : (P : Due → Type 0) (es : List Entry) → AllByRecursion P (dues_of es) → AllByRecursion (λ e. P (due_of e)) es
each_asked P [] each = tt
each_asked P (e ∷ es) each = (each.0, each_asked P es each.1)

-- ---- the entries of one connection

module _ (count conn : ℕ) (commands : ℕ → List Command) (apart : AreApart count commands) (within : conn < count) where
  -- the same is true where it is alone
  alone_told : (shards : ℕ) → 1 ≤ shards → all_told (of_connection conn (alone shards conn (commands conn))) ≡ told_by empty_state (due shards conn (commands conn))
  alone_told shards some =
      let asked : dues_of (alone shards conn (commands conn)) ≡ due shards conn (commands conn) = dues_of-answered shards (λ number. empty_state) 1 (due shards conn (commands conn)) in
      told-alone shards count conn (λ c. all_keys_of (commands c)) (λ other key below mine its. apart.keys conn other key within below mine its) (λ number. empty_state) empty_state
      (alone shards conn (commands conn))
      (each_asked (IsDueOwn shards count (λ c. all_keys_of (commands c))) (alone shards conn (commands conn))
      (subst (AllByRecursion (IsDueOwn shards count (λ c. all_keys_of (commands c)))) (sym asked) (due_own shards count conn commands within (apart.plain conn within))))
      (legal-answered shards (λ number. empty_state) 1 (due shards conn (commands conn)) (recursion_from_All (IsDueOn shards) (due shards conn (commands conn)) (due_within shards conn (commands conn) some)))
      (λ key inside. refl)
      ∙ ap (λ l. told_by empty_state (dues_of l)) (own-alone shards conn (commands conn)) ∙ ap (told_by empty_state) asked

-- ---- outputs

-- the outputs of a connection are those that it has alone
pub outputs-alone : (shards others count conn : ℕ) (streams : ℕ → List (List ℕ)) (es : List Entry) → 1 ≤ others → conn < count → AreApart count (commands_of_all streams)
    → IsRun shards es count (commands_of_all streams) → connection_outputs conn (streams conn) es ≡ connection_outputs conn (streams conn) (alone others conn (commands_over (streams conn)))
outputs-alone shards others count conn streams es some within apart run =
    outputs-same conn (streams conn) es (alone others conn (commands_over (streams conn))) (apart.plain conn within)
    (run_told count conn (commands_of_all streams) apart within shards es run ∙ told_anywhere count conn (commands_of_all streams) apart within shards others
    ∙ sym (alone_told count conn (commands_of_all streams) apart within others some))
