-- If the files for a capture's records are right, the journal and the outputs are those of a run.
use Rattle.std.specs.List.{AllByRecursion}
use Rattle.std.proofs.Common.{◌≡◌, ℕ, zero, suc, ◌<◌, ◌≤◌, List, [], ◌∷◌, length, ap, ◌∙◌, subst, arith}
use Rattle.std.proofs.lemmas.List.FromFn.{fill_by_all}
use Rattle.mc_calls.specs.declared.hold.Hold.{Hold}
use Rattle.zy_capture.specs.declared.record.Record.{Record}
use Rattle.zy_capture.specs.Outputs.{AllOutputs, HasSessions, AreOutputs}
use Rattle.zy_capture.specs.Streams.{sessions_of, no_bytes, with_records}
use Rattle.zy_capture.proofs.AddLemmas.{streams_size}
use Rattle.zy_journal.specs.declared.journal.Journal.{Journal}
use Rattle.zy_journal.specs.Journal.{IsHold, IsJournal}
use Rattle.mc_parse.specs.Calls.{due}
use Rattle.zy_run.specs.Commands.{streams_in, commands_held}
use Rattle.zy_run.specs.Run.{AreOfConnections, IsRun}
use Rattle.zy_run.specs.Output.{connection_outputs}
use Rattle.zy_run.specs.Spans.{AreHoldsOf, Spans}
use Rattle.zy_run.proofs.StreamLemmas.{streams_held, held_commands, length-streams_in}
use Rattle.zy_run.proofs.OutputLemmas.{length-outputs_of}
use Rattle.zy_check.specs.Cause.{IsRight}
use Rattle.zy_check.specs.OfRun.{AreOfRun, given_by_records}
use Rattle.zy_check.proofs.RunVerdictLemmas.{no_sessions}
use Rattle.run_laws.proofs.YesLemmas.{yes_is_run, yes_outputs, yes_spans}
use mathlib.Core.Logic.{dite}
use native.Mathlib.Decide.{dec_lt}

-- ---- all outputs

module _ (shards count : ℕ) (records : List Record) (journal : Journal) (outputs : AllOutputs) where
  abbrev kept : List (List (List ℕ))
  kept = with_records (no_bytes count) records

  size : length kept ≡ count
  size = streams_size count records

  -- ---- and the other way round

  counting : (hs : List Hold) → AllByRecursion IsHold hs → AllByRecursion (λ (h : Hold). 0 < h.count) hs
  counting [] are = tt
  counting (h ∷ hs) are = (are.0.some_commands, counting hs are.1)

  some_outputs : (version : ℕ) (all : List (List (List ℕ))) (conn : ℕ) → AllByRecursion (HasSessions version) all → conn < length all → 0 < length (sessions_of all conn)
  some_outputs version [] conn are within = absurd (omega arith)
  some_outputs version (first ∷ all) zero are within = are.0.some
  some_outputs version (first ∷ all) (suc conn) are within = some_outputs version all conn are.1 (omega arith)

  module _ (some : 1 ≤ shards) (lawful : IsJournal journal) (are : AreOutputs outputs) (right : IsRight (given_by_records shards count records journal outputs)) where
    run : IsRun shards journal.entries (length kept) (commands_held kept)
    run = yes_is_run (given_by_records shards count records journal outputs) some right

    span : Spans journal.holds (length kept) (commands_held kept)
    span = yes_spans (given_by_records shards count records journal outputs) lawful.rising (counting journal.holds lawful.holds) right

    due_outputs : (conn : ℕ) → conn < count → sessions_of outputs.sessions conn ≡ connection_outputs conn (streams_in records conn) journal.entries
    due_outputs conn within =
        yes_outputs (given_by_records shards count records journal outputs) conn right
        ∙ ap (λ (l : List (List ℕ)). connection_outputs conn l journal.entries) (streams_held count conn records within)

    -- there are no outputs of another connection
    no_more : length outputs.sessions ≤ count
    no_more = dite (dec_lt count (length outputs.sessions))
        (λ more.
        let one = some_outputs outputs.version outputs.sessions count are.sessions more in
        let none : length (sessions_of outputs.sessions count) ≡ 0 =
        ap (λ (l : List (List ℕ)). length l)
        (yes_outputs (given_by_records shards count records journal outputs) count right
        ∙ ap (λ (l : List (List ℕ)). connection_outputs count l journal.entries) (no_sessions kept count (omega (arith, size)))) in
        absurd (omega arith))
        (λ no_more_then. omega arith)

    -- and none is missing
    no_less : count ≤ length outputs.sessions
    no_less = dite (dec_lt (length outputs.sessions) count)
        (λ less.
        let conn = length outputs.sessions in
        let none : length (sessions_of outputs.sessions conn) ≡ 0 = ap (λ (l : List (List ℕ)). length l) (no_sessions outputs.sessions conn (omega arith)) in
        let one = ap (λ (l : List (List ℕ)). length l) (due_outputs conn less) in
        let many = length-outputs_of conn (streams_in records conn) journal.entries in
        let streams = length-streams_in records conn in
        absurd (omega arith))
        (λ no_less_then. omega arith)

    pub of_streams : AreOfRun shards count records journal outputs
    of_streams = record {
      run = record {
        legal = run.legal;
        connections = subst (λ (n : ℕ). AreOfConnections n journal.entries) size run.connections;
        calls = λ conn within. run.calls conn (omega (arith, size)) ∙ ap (due shards conn) (held_commands count conn records within);
      };
      replies = fill_by_all (λ conn. connection_outputs conn (streams_in records conn) journal.entries) outputs.sessions count [] (omega (arith, no_more, no_less)) due_outputs;
      holds = record {
        rising = span.rising;
        connections = subst (λ (n : ℕ). AreHoldsOf n journal.holds) size span.connections;
        counts = λ conn within. span.counts conn (omega (arith, size)) ∙ ap (λ l. length l) (held_commands count conn records within);
      };
    }
