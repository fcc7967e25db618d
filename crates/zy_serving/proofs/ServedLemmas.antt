-- What a run leaves of a capture that was fed whole is the served run of its bytes.
use Rattle.std.proofs.Common.{◌≡◌, ℕ, List, ap₂}
use Rattle.zy_capture.specs.declared.record.Record.{Record}
use Rattle.zy_capture.specs.Outputs.{AllOutputs}
use Rattle.zy_capture.specs.Verdict.{verdict}
use Rattle.zy_capture.specs.Verdict.Verdict.{Good}
use Rattle.zy_journal.specs.declared.journal.Journal.{Journal}
use Rattle.zy_finish.specs.declared.finishing.Finished.{Finished}
use Rattle.std.specs.Prelude.{Option, Ok, ◌↔◌}
use Rattle.zy_read.specs.Bytes.{AreBytes}
use Rattle.zy_capture.specs.Capture.{IsCapture, Spells}
use Rattle.zy_rx.specs.declared.rx.Rx.{Rx}
use Rattle.zy_feed.specs.declared.intake.Header.{Header}
use Rattle.zy_feed.specs.Feeding.{HasFedAll}
use Rattle.zy_finish.specs.Received.{AllSent}
use Rattle.std.specs.List.{AllByRecursion}
use Rattle.zy_command_line.specs.declared.request.Run.{Run}
use Rattle.zy_finish.specs.Finish.{IsResultOfRun, IsHoldBy}
use Rattle.zy_serving.specs.Headline.{IsServed, outputs_of_records}
use Rattle.zy_read.specs.Seen.{side}
use Rattle.zy_serving.specs.Runs.{RunsTo}

pub served_of : (asked : Run) (version count : ℕ) (records : List Record) (bytes : List ℕ) (done : Finished)
    → ((text : List ℕ) (version count : ℕ) (items : List Record) → AreBytes text → verdict text ≡ Good version count items ↔ Spells text version count items)
    → verdict bytes ≡ Good version count records → AreBytes bytes → IsResultOfRun asked.shards version count records done
    → AllByRecursion (IsHoldBy asked.cores) done.journal.holds → IsServed asked bytes done.journal done.outputs
served_of asked version count records bytes done exactly good small is held = record {
  version = version;
  count = count;
  records = records;
  capture = good;
  spelled = (exactly bytes version count records small).0 good;
  run = is.run;
  order = is.order;
  holds = is.spans;
  held = held;
  replies = ap₂ (λ v s. record { version = v; sessions = s }) is.version_is is.outputs;
  readable = record { valid = is.journal; fits = is.fits };
  lawful = is.lawful;
}

-- a capture that was fed whole to cores, of which this is left
pub runs_to : {S : Type 0} (rest : S → Option (List ℕ)) (faults : S → ℕ) (asked : Run) (source source' : S) (header : Header) (sents : List (List Rx)) (done : Finished)
    → ((text : List ℕ) (version count : ℕ) (items : List Record) → AreBytes text → verdict text ≡ Good version count items ↔ Spells text version count items)
    → HasFedAll rest faults source source' header sents
    → ((records : List Record) → IsCapture header.version header.count records → AllSent sents records → IsResultOfRun asked.shards header.version header.count records done)
    → AllByRecursion (IsHoldBy asked.cores) done.journal.holds → RunsTo asked (side rest faults source source') (Ok done)
runs_to rest faults asked source source' header sents done exactly fed finished held =
    let is = finished fed.records fed.lawful fed.sent in
    (fed.bytes, (fed.source, fed.end, fed.small), served_of asked header.version header.count fed.records fed.bytes done exactly fed.good fed.small is held)
