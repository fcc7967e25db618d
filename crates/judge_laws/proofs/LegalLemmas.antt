-- A run in time explains its recording, and its calls lie within their commands if these have ended.
use Rattle.std.specs.List.{slice_get}
use Rattle.std.proofs.Common.{◌≡◌, ℕ, zero, suc, ◌<◌, Bool, List, [], ◌∷◌, length, Some, refl, subst}
use Rattle.mc_calls.specs.declared.entry.Entry.{Entry}
use Rattle.mc_calls.specs.Shard.{empty_state}
use Rattle.zy_capture.specs.declared.record.Record.{Record}
use Rattle.zy_capture.specs.Capture.{IsCapture}
use Rattle.zy_capture.specs.Outputs.{AllOutputs}
use Rattle.zy_journal.specs.declared.journal.Journal.{Journal}
use Rattle.zy_journal_reader.specs.Verdict.{IsReadable}
use Rattle.zy_run.specs.Commands.{commands_in}
use Rattle.zy_run.specs.Run.{AreOfConnections, IsRun}
use Rattle.zy_check.specs.OfRun.{AreOfRun}
use Rattle.zy_times.specs.Recording.{MarksFit}
use Rattle.zy_times.specs.InTime.{IsInTime, EndedOfAll, commands_of_all}
use Rattle.zy_verdict.specs.Explained.{IsExplained}
use Rattle.zy_verdict.proofs.ListLemmas.{all_at}
use Rattle.judge_laws.specs.Recorded.{recorded_with, run_recording}
use Rattle.judge_laws.specs.Within.{AllLieWithin}
use Rattle.judge_laws.proofs.BoundsLemmas.{entries_said}
use Rattle.judge_laws.proofs.ExplainLemmas.{all_within, explained}
use Rattle.judge_laws.proofs.BridgeLemmas.{timed_by_session}
use Rattle.judge_laws.proofs.EndedLemmas.{all_ended}

-- the connection of each entry is one of the first `count`
connections_below : (count : ℕ) (es : List Entry) → AreOfConnections count es → (p : ℕ) (e : Entry) → slice_get es p ≡ Some e → e.tag.conn < count
connections_below count [] are p e is = absurd (cc)
connections_below count (x ∷ es) are zero e is = let same : x ≡ e = cc in subst (λ (y : Entry). y.tag.conn < count) same are.0
connections_below count (x ∷ es) are (suc p) e is = connections_below count es are.1 p e is

-- each entry of a run is of one of its connection's commands
run_within : (shards version count : ℕ) (records : List Record) (es : List Entry) → IsCapture version count records → IsRun shards es count (commands_in records) → (p : ℕ) (e : Entry) → slice_get es p ≡ Some e
    → e.tag.index < length (commands_in records e.tag.conn)
run_within shards version count records es capture run p e is =
    all_at (λ (x : Entry). x.tag.conn ≡ e.tag.conn → x.tag.index < length (commands_in records e.tag.conn)) es p e (all_within shards version count records es capture.lawful run e.tag.conn) is refl

-- a run whose marks fit, and which is in time, explains its recording
pub run_explained : (warm forget : Bool) (shards version count : ℕ) (records : List Record) (journal : Journal) (outputs : AllOutputs) → IsCapture version count records → IsReadable journal → AreOfRun shards count records journal outputs
    → MarksFit (run_recording records journal) → IsInTime (run_recording records journal) → IsExplained (recorded_with warm forget shards count records outputs.sessions)
run_explained warm forget shards version count records journal outputs capture readable are fit in_time =
    explained shards version count records journal.entries capture.lawful are.run warm forget outputs.sessions in_time.moment are.replies
    (entries_said shards (λ number. empty_state) journal.entries are.run.legal readable.valid.entries readable.fits)
    (timed_by_session records journal.entries (run_within shards version count records journal.entries capture are.run) fit in_time)

-- if some mark ends each command of a run in time, each call lies within its command
pub run_within_commands : (shards version count : ℕ) (records : List Record) (journal : Journal) (outputs : AllOutputs) → IsCapture version count records → AreOfRun shards count records journal outputs
    → IsInTime (run_recording records journal) → EndedOfAll (run_recording records journal) count (commands_of_all (run_recording records journal) count) → AllLieWithin (run_recording records journal)
run_within_commands shards version count records journal outputs capture are in_time ended p e is = record {
  moment = in_time.moment p;
  sent = in_time.sent p e is;
  unended = in_time.unended p e is;
  ended = all_ended (run_recording records journal) count (commands_of_all (run_recording records journal) count) ended refl e
      (connections_below count journal.entries are.run.connections p e is) (run_within shards version count records journal.entries capture are.run p e is);
}
