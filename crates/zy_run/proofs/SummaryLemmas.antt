-- The serial run is a run, and each run has its summary.
use Rattle.std.proofs.Common.{◌≡◌, ℕ, zero, suc, ◌+◌, ◌<◌, ◌≤◌, List, [], ◌∷◌, length, ap, ◌∙◌, arith}
use Rattle.std.specs.Prelude.{flat_map}
use Rattle.std.specs.List.{AllByRecursion, range_with_len}
use Rattle.std.proofs.lemmas.List.Elements.{recursion_from_All}
use Rattle.mc_calls.specs.declared.entry.Entry.{Entry}
use Rattle.mc_calls.specs.Shard.{State, empty_state}
use Rattle.mc_calls.specs.History.{states_after}
use Rattle.mc_parse.specs.declared.command.Command.{Command}
use Rattle.mc_parse.specs.Calls.{Due, due, IsDueOn}
use Rattle.mc_parse.proofs.CallLemmas.{due_within}
use Rattle.zy_run.specs.Run.{AreOfConnections, IsRun}
use Rattle.zy_run.specs.Output.{all_outputs}
use Rattle.zy_run.specs.Apart.{commands_of_all, AreApart}
use Rattle.zy_run.specs.Serial.{answered, made_entry, all_due, serial}
use Rattle.zy_run.specs.Summary.{count_of_bytes, count_of_commands, summary, summary_of_run}
use Rattle.mc_parse.proofs.PlainLemmas.{each-append}
use Rattle.zy_run.proofs.RunLemmas.{all_outputs-same, length-run}
use Rattle.zy_run.proofs.SerialLemmas.{legal-answered, own-answered, own-all_due, due_from_of}

-- ---- the serial run

-- what holds of the expected calls of each connection holds of all expected calls
each_due : (P : Due → Type 0) (shards : ℕ) (commands : ℕ → List Command) (first n : ℕ) → ((conn : ℕ) → conn < first + n → AllByRecursion P (due shards conn (commands conn)))
    → AllByRecursion P (flat_map (λ conn. due shards conn (commands conn)) (range_with_len first n))
each_due P shards commands first zero each = tt
each_due P shards commands first (suc n) each =
    each-append P (due shards first (commands first)) (flat_map (λ conn. due shards conn (commands conn)) (range_with_len (first + 1) n))
    (each first (omega arith)) (each_due P shards commands (first + 1) n (λ conn within. each conn (omega arith)))

connections-answered : (count shards : ℕ) (states : ℕ → State) (stamp : ℕ) (dues : List Due) → AllByRecursion (λ due. due.tag.conn < count) dues → AreOfConnections count (answered shards states stamp dues)
connections-answered count shards states stamp [] of = tt
connections-answered count shards states stamp (due ∷ dues) of = (of.0, connections-answered count shards (states_after shards states (made_entry states stamp due)) (stamp + 1) dues of.1)

below_of : (count conn : ℕ) (dues : List Due) → conn < count → AllByRecursion (λ due. due.tag.conn ≡ conn) dues → AllByRecursion (λ due. due.tag.conn < count) dues
below_of count conn [] within of = tt
below_of count conn (due ∷ dues) within of = ((let is = of.0 in omega arith), below_of count conn dues within of.1)

-- the serial run is a run
pub serial_is_run : (shards count : ℕ) (commands : ℕ → List Command) → 1 ≤ shards → IsRun shards (serial shards count commands) count commands
serial_is_run shards count commands some = record {
  legal = legal-answered shards (λ number. empty_state) 1 (all_due shards count commands)
      (each_due (IsDueOn shards) shards commands 0 count (λ conn within. recursion_from_All (IsDueOn shards) (due shards conn (commands conn)) (due_within shards conn (commands conn) some)));
  connections = connections-answered count shards (λ number. empty_state) 1 (all_due shards count commands)
      (each_due (λ due. due.tag.conn < count) shards commands 0 count (λ conn within. below_of count conn (due shards conn (commands conn)) (omega arith) (due_from_of shards conn 0 (commands conn))));
  calls = λ conn within. own-answered conn shards (λ number. empty_state) 1 (all_due shards count commands) ∙ own-all_due shards count conn commands within;
}

-- ---- summaries

-- each run of commands that are apart has the summary of the serial run
pub summary-run : (shards others count : ℕ) (streams : ℕ → List (List ℕ)) (es : List Entry) → 1 ≤ others → AreApart count (commands_of_all streams) → IsRun shards es count (commands_of_all streams)
    → summary_of_run count streams es ≡ summary others count streams
summary-run shards others count streams es some apart run =
    let serials : IsRun others (serial others count (commands_of_all streams)) count (commands_of_all streams) = serial_is_run others count (commands_of_all streams) some in
    ap (λ (n : ℕ). record { commands = count_of_commands count (commands_of_all streams); calls = n; reply_bytes = count_of_bytes (all_outputs count streams es) })
    (length-run shards others count (commands_of_all streams) es (serial others count (commands_of_all streams)) apart run serials)
    ∙ ap (λ (outputs : List (List (List ℕ))). record { commands = count_of_commands count (commands_of_all streams); calls = length (serial others count (commands_of_all streams)); reply_bytes = count_of_bytes outputs })
    (all_outputs-same shards others count streams es (serial others count (commands_of_all streams)) apart run serials)
