-- What a run gives for a capture's records is what the check is given by a run.

use Rattle.std.proofs.Common.{◌≡◌, ℕ, ◌<◌, ◌≤◌, List, [], length, sym, ap, ◌∙◌, subst, arith}
use Rattle.std.proofs.lemmas.List.FromFn.{length-map-range_with_len, get_or-map-range_with_len}
use mathlib.Core.Logic.{dite}
use native.Mathlib.Decide.{dec_lt}
use Rattle.mc_calls.specs.declared.entry.Entry.{Entry}
use Rattle.zy_capture.specs.declared.record.Record.{Record}
use Rattle.zy_capture.specs.Outputs.{AllOutputs}
use Rattle.zy_capture.specs.Streams.{sessions_of, no_bytes, with_records}
use Rattle.zy_capture.proofs.AddLemmas.{streams_size}
use Rattle.zy_journal.specs.declared.journal.Journal.{Journal}
use Rattle.mc_parse.specs.Calls.{due}
use Rattle.zy_run.specs.Commands.{streams_in}
use Rattle.zy_run.specs.Run.{AreOfConnections}
use Rattle.zy_run.specs.Output.{connection_outputs, all_outputs}
use Rattle.zy_run.specs.Spans.{AreHoldsOf}
use Rattle.zy_run.proofs.StreamLemmas.{streams_held, held_commands}
use Rattle.zy_check.specs.OfRun.{IsGivenByRun, AreOfRun, given_by_records}
use Rattle.zy_check.proofs.RunVerdictLemmas.{no_sessions}

-- ---- all outputs

module _ (count : ℕ) (streams : ℕ → List (List ℕ)) (es : List Entry) where
  -- each connection has its own
  all_outputs-at : (conn : ℕ) → conn < count → sessions_of (all_outputs count streams es) conn ≡ connection_outputs conn (streams conn) es
  all_outputs-at conn within = get_or-map-range_with_len (λ k. connection_outputs k (streams k) es) 0 count conn conn [] within (omega arith)

  -- and no other has one
  all_outputs-past : (conn : ℕ) → count ≤ conn → sessions_of (all_outputs count streams es) conn ≡ []
  all_outputs-past conn past =
      let size = length-map-range_with_len (λ k. connection_outputs k (streams k) es) 0 count in
      no_sessions (all_outputs count streams es) conn (omega arith)

module _ (shards count : ℕ) (records : List Record) (journal : Journal) (outputs : AllOutputs) where
  abbrev pub kept : List (List (List ℕ))
  kept = with_records (no_bytes count) records

  pub size : length kept ≡ count
  size = streams_size count records

  -- ---- a run of the records is one of the streams

  module _ (are : AreOfRun shards count records journal outputs) where
    own_outputs : (conn : ℕ) → sessions_of outputs.sessions conn ≡ connection_outputs conn (sessions_of kept conn) journal.entries
    own_outputs conn =
        ap (λ (l : List (List (List ℕ))). sessions_of l conn) are.replies
        ∙ dite (dec_lt conn count)
        (λ within.
        all_outputs-at count (streams_in records) journal.entries conn within
        ∙ ap (λ (l : List (List ℕ)). connection_outputs conn l journal.entries) (sym (streams_held count conn records within)))
        (λ past.
        all_outputs-past count (streams_in records) journal.entries conn (omega arith)
        ∙ ap (λ (l : List (List ℕ)). connection_outputs conn l journal.entries) (sym (no_sessions kept conn (omega (arith, size)))))

    pub of_records : IsGivenByRun (given_by_records shards count records journal outputs)
    of_records = record {
      run = record {
        legal = are.run.legal;
        connections = subst (λ (n : ℕ). AreOfConnections n journal.entries) (sym size) are.run.connections;
        calls = λ conn within.
            let inside : conn < count = omega (arith, size) in
            are.run.calls conn inside ∙ ap (due shards conn) (sym (held_commands count conn records inside));
      };
      outputs = own_outputs;
      holds = record {
        rising = are.holds.rising;
        connections = subst (λ (n : ℕ). AreHoldsOf n journal.holds) (sym size) are.holds.connections;
        counts = λ conn within.
            let inside : conn < count = omega (arith, size) in
            are.holds.counts conn inside ∙ ap (λ l. length l) (sym (held_commands count conn records inside));
      };
    }
