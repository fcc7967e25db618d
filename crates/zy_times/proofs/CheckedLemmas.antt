-- What a check finds of a run is what judging needs.
use Rattle.std.specs.Prelude.{Option, IfSome}
use Rattle.std.specs.List.{slice_get, AllByRecursion}
use Rattle.std.proofs.Common.{◌≡◌, ℕ, zero, suc, ◌+◌, ◌<◌, ◌≤◌, List, [], ◌∷◌, Bool, length, take, Some, refl, ap, ◌∙◌, subst, arith}
use Rattle.std.proofs.lemmas.Option.{slice_get_within}
use Rattle.mc_calls.specs.declared.entry.Entry.{Entry}
use Rattle.mc_calls.specs.Order.{of_connection}
use Rattle.zy_capture.specs.declared.record.Record.{Record}
use Rattle.zy_capture.specs.Outputs.{AllOutputs}
use Rattle.zy_capture.proofs.AddLemmas.{streams_size}
use Rattle.zy_journal.specs.declared.journal.Journal.{Journal}
use Rattle.mc_parse.specs.declared.command.Command.{Command}
use Rattle.mc_parse.specs.declared.shard_call.ShardCall.{ShardCall}
use Rattle.mc_parse.specs.Calls.{Due, calls_of, tagged, due_at, due_from}
use Rattle.mc_parse.proofs.PlainLemmas.{each-append}
use Rattle.zy_run.specs.Commands.{commands_in, commands_held}
use Rattle.zy_run.proofs.StreamLemmas.{held_commands}
use Rattle.zy_check.specs.declared.verdict.Verdict.TheVariants.{Yes}
use Rattle.zy_check.specs.Given.{Given, due_in, IsNextCall}
use Rattle.zy_check.specs.Cause.{HasVerdict}
use Rattle.zy_check.specs.Answered.{answered_by, AreAnswered}
use Rattle.zy_check.specs.OfRun.{given_by_records}
use Rattle.zy_times.specs.declared.times.Times.{Times}
use Rattle.zy_times.specs.Recording.{Recording}
use Rattle.zy_times.specs.Line.{TimesHold}
use Rattle.zy_times.specs.Recorded.{IsOfRun, IsRecorded}

-- ---- the index of an expected call

-- the calls of a command have its index
tagged_below : (conn index part last : ℕ) (calls : List ShardCall) → index < last → AllByRecursion (λ (d : Due). d.tag.index < last) (tagged conn index part calls)
tagged_below conn index part last [] low = tt
tagged_below conn index part last (call ∷ calls) low = (low, tagged_below conn index (part + 1) last calls low)

-- an expected call is of one of the commands
due_below : (shards conn index last : ℕ) (commands : List Command) → index + length commands ≤ last → AllByRecursion (λ (d : Due). d.tag.index < last) (due_from shards conn index commands)
due_below shards conn index last [] within = tt
due_below shards conn index last (command ∷ commands) within =
    each-append (λ (d : Due). d.tag.index < last) (due_at shards conn index command) (due_from shards conn (index + 1) commands)
    (tagged_below conn index 0 last (calls_of shards command) (omega (arith, within))) (due_below shards conn (index + 1) last commands (omega (arith, within)))

due_there : (last at : ℕ) (dues : List Due) (d : Due) → AllByRecursion (λ (x : Due). x.tag.index < last) dues → slice_get dues at ≡ Some d → d.tag.index < last
due_there last at [] d all is = absurd (cc)
due_there last zero (x ∷ dues) d all is = let same : x ≡ d = cc in subst (λ (y : Due). y.tag.index < last) same all.0
due_there last (suc at) (x ∷ dues) d all is = due_there last at dues d all.1 is

-- ---- what was checked

module _ (shards count : ℕ) (records : List Record) (journal : Journal) (outputs : AllOutputs) where
  abbrev checked : Given
  checked = given_by_records shards count records journal outputs

  abbrev recorded : Recording
  recorded = record { records = records; entries = journal.entries }

  next_call : HasVerdict checked Yes → (p : ℕ) (e : Entry) → slice_get journal.entries p ≡ Some e → IsNextCall checked (take p journal.entries) e
  next_call right p e is =
      subst (λ (o : Option Entry). IfSome o (IsNextCall checked (take p journal.entries))) is (right.complete.right p (slice_get_within journal.entries p e is)).0

  within : HasVerdict checked Yes → (p : ℕ) (e : Entry) → slice_get journal.entries p ≡ Some e → e.tag.conn < count
  within right p e is =
      let low = (next_call right p e is).connection in
      let size = streams_size count records in
      omega (arith, low, size)

  -- each entry of a run is of one of its commands
  entries_of_run : HasVerdict checked Yes → IsOfRun recorded count
  entries_of_run right = record {
    connections = within right;
    commands = λ p e is.
        let conn = e.tag.conn in
        let commands = commands_held checked.streams conn in
        let low = due_there (length commands) (length (of_connection conn (take p journal.entries))) (due_in checked conn) _
        (due_below shards conn 0 (length commands) commands (omega arith)) (next_call right p e is).call in
        subst (λ (l : List Command). e.tag.index < length l) (held_commands count conn records (within right p e is)) low;
  }

  -- the flags of a run's commands are those of the recording's
  flags_of_run : (answered : List (List Bool)) → AreAnswered checked answered → (conn : ℕ) (flags : List Bool) → slice_get answered conn ≡ Some flags
      → flags ≡ answered_by (commands_in records conn) (of_connection conn journal.entries)
  flags_of_run answered are conn flags is =
      let low = slice_get_within answered conn flags is in
      let size = are.count in
      let streams = streams_size count records in
      are.each conn flags is
      ∙ ap (λ (l : List Command). answered_by l (of_connection conn journal.entries)) (held_commands count conn records (omega (arith, low, size, streams)))

  pub recorded_as_checked : (times : Times) (answered : List (List Bool)) → TimesHold times count records → HasVerdict checked Yes → AreAnswered checked answered → IsRecorded recorded count times answered journal.entries
  recorded_as_checked times answered hold right are = record {
    kept = record {
      times_hold = hold;
      size = are.count ∙ streams_size count records;
      flags = flags_of_run answered are;
    };
    of_run = entries_of_run right;
    entries_are = refl;
  }
