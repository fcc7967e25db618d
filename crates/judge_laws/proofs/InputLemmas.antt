-- What `linear` certifies of an input is explained, and its calls lie within their commands if these have ended.
use Rattle.std.proofs.Common.{◌≡◌, ℕ, ◌≤◌, Bool, List, ◌++◌, subst}
use Rattle.zy_read.specs.Bytes.{AreBytes}
use Rattle.zy_read.proofs.ByteLemmas.{bytes_front, bytes_back}
use Rattle.zy_capture.specs.declared.record.Record.{Record}
use Rattle.zy_capture.specs.Capture.{IsCapture}
use Rattle.zy_capture.specs.Outputs.{AllOutputs}
use Rattle.zy_capture.proofs.WholeLemmas.{good_spells as capture_spells}
use Rattle.zy_journal.specs.declared.journal.Journal.{Journal}
use Rattle.zy_journal_reader.specs.Verdict.{IsReadable}
use Rattle.zy_journal_reader.proofs.WholeLemmas.{good_spells as journal_spells}
use Rattle.zy_check.specs.declared.verdict.Verdict.TheVariants.{Yes}
use Rattle.zy_check.specs.Given.{all_given}
use Rattle.zy_check.specs.Cause.{HasVerdict}
use Rattle.zy_check.specs.OfRun.{AreOfRun}
use Rattle.run_laws.proofs.FileVerdictLemmas.{of_streams}
use Rattle.zy_times.specs.InTime.{EndedOfAll}
use Rattle.zy_verdict.specs.Explained.{IsExplained}
use Rattle.zygos_linear.specs.Finding.{IsLinearizable, OfRecording, recording_of}
use Rattle.judge_laws.specs.Recorded.{recorded_with}
use Rattle.judge_laws.specs.Within.{AllLieWithin}
use Rattle.judge_laws.proofs.LegalLemmas.{run_explained, run_within_commands}

-- the capture and the journal of an input, and their run
record HasRun (shards : ℕ) (bytes : List ℕ) (count : ℕ) (records : List Record) (journal : Journal) (outputs : AllOutputs) : Type 0 where
  version : ℕ
  capture : IsCapture version count records
  readable : IsReadable journal
  are : AreOfRun shards count records journal outputs

module _ (shards : ℕ) (bytes : List ℕ) (commands ended : ℕ) (some : 1 ≤ shards) (small : AreBytes bytes) (x : OfRecording shards bytes (λ g r count. IsLinearizable g r count commands ended)) where
  of_input : HasRun shards bytes x.parts.of_capture.count x.parts.of_capture.records x.journal x.outputs
  of_input =
      let p = x.parts in
      let c = p.of_capture in
      let all : AreBytes (p.capture_text ++ (p.journal_text ++ p.replies_text)) = subst AreBytes p.whole small in
      let rest : AreBytes (p.journal_text ++ p.replies_text) = bytes_back p.capture_text (p.journal_text ++ p.replies_text) all in
      let journal = journal_spells p.journal_text x.journal (bytes_front p.journal_text p.replies_text rest) p.of_journal in
      record {
        version = c.version;
        capture = (capture_spells p.capture_text c.version c.count c.records (bytes_front p.capture_text (p.journal_text ++ p.replies_text) all) c.good).valid;
        readable = journal.readable;
        are = of_streams shards c.count c.records x.journal x.outputs some journal.readable.valid x.lawful
            (subst (λ (s : List (List (List ℕ))). HasVerdict (all_given shards s x.journal x.outputs) Yes) c.joined x.holds.run);
      }

  -- its recording is explained
  pub input_explained : (warm forget : Bool) → OfRecording shards bytes (λ g r count. IsExplained (recorded_with warm forget shards count r.records g.outputs))
  input_explained warm forget =
      let run = of_input in record {
        streams = x.streams;
        journal = x.journal;
        outputs = x.outputs;
        parts = x.parts;
        lawful = x.lawful;
        holds = run_explained warm forget shards run.version x.parts.of_capture.count x.parts.of_capture.records x.journal x.outputs run.capture run.readable run.are x.holds.marks x.holds.in_time;
      }

-- if some mark ends each command, each call lies within its command
pub input_within : (shards : ℕ) (bytes : List ℕ) (number : ℕ) → 1 ≤ shards → AreBytes bytes → OfRecording shards bytes (λ g r count. IsLinearizable g r count number number)
    → OfRecording shards bytes (λ g r count. AllLieWithin r)
input_within shards bytes number some small x =
    let run = of_input shards bytes number number some small x in record {
      streams = x.streams;
      journal = x.journal;
      outputs = x.outputs;
      parts = x.parts;
      lawful = x.lawful;
      holds = run_within_commands shards run.version x.parts.of_capture.count x.parts.of_capture.records x.journal x.outputs run.capture run.are x.holds.in_time
          (subst (EndedOfAll (recording_of x.parts.of_capture.records x.journal.entries) x.parts.of_capture.count) x.holds.commands_are x.holds.ended_are);
    }
