-- The input of the program `judge`: a capture and a replies file, one after the other. The end of the capture is known
-- from its own bytes, the replies file ends with the source, and the first fault of the input counts.
use Rattle.std.specs.Prelude.{◌≡◌, ℕ, List, ◌++◌, Option, Result, Ok, Err, IfSome, ⊤}
use Rattle.zy_base.specs.declared.file_fault.FileFault.{FileFault}
use Rattle.zy_base.specs.Outside.{Rose}
use Rattle.zy_capture.specs.declared.record.Record.{Record}
use Rattle.zy_capture.specs.Outputs.{AllOutputs, AreOutputs}
use Rattle.zy_capture.specs.Replies.{items_of}
use Rattle.zy_capture.specs.RepliesVerdict as Replies
use Rattle.zy_input.specs.declared.recording.NotedRecording.{NotedRecording}
use Rattle.zy_input.specs.declared.stop.Refusal.{Refusal}
use Rattle.zy_input.specs.declared.stop.Refusal.TheVariants.{Capture, Journal, Replies as OfReplies, Items, Pcap}
use Rattle.zy_input.specs.Parts.{IsCaptureText, HasStreams, HasCaptureFault}
use Rattle.zy_read.specs.Bytes.{ReadsAll}
use Rattle.zy_read.specs.declared.stop.Stop.{Stop}
use Rattle.zy_read.specs.declared.stop.Stop.TheVariants.{Refused, ReadFault, NoMemory}

-- ---- recordings

-- the text is a capture with these streams, and then a replies file with these outputs
pub record IsMadeOfRecording (text : List ℕ) (streams : List (List (List ℕ))) (outputs : AllOutputs) : Type 0 where
  pub capture_text : List ℕ
  pub replies_text : List ℕ
  pub whole : text ≡ capture_text ++ replies_text
  pub of_capture : HasStreams capture_text streams
  pub of_replies : Replies.verdict replies_text ≡ Replies.Verdict.Good outputs.version (items_of outputs)

-- the same, and these are notes on the records of the capture
pub record IsMadeOfNotedRecording {N : Type 0} (Holds : N → ℕ → List Record → Type 0) (text : List ℕ)
    (streams : List (List (List ℕ))) (notes : N) (outputs : AllOutputs) : Type 0 where
  pub recording : IsMadeOfRecording text streams outputs
  pub noted : Holds notes recording.of_capture.count recording.of_capture.records

-- ---- faults

-- the text is a capture, and then a text that has this fault as a replies file
pub record HasLastFault (text : List ℕ) (fault : FileFault) : Type 0 where
  pub capture_text : List ℕ
  pub rest : List ℕ
  pub whole : text ≡ capture_text ++ rest
  pub of_capture : IsCaptureText capture_text
  pub bad : Replies.verdict rest ≡ Replies.Verdict.Bad fault

-- the first fault of the text; its place counts from the start of its part
abbrev pub HasRecordingFault : List ℕ → Refusal → Type 0
HasRecordingFault text (Capture fault) = HasCaptureFault text fault
HasRecordingFault text (OfReplies fault) = HasLastFault text fault
HasRecordingFault text (Journal fault) = ⊥
HasRecordingFault text (Items fault) = ⊥
HasRecordingFault text (Pcap fault) = ⊥

-- a recording can have this fault
abbrev pub IsRecordingFault : Refusal → Type 0
IsRecordingFault refusal = (text : List ℕ) × HasRecordingFault text refusal

-- ---- reading

-- the recording is that of all that the source gave; or some recording has this fault, and the source's text has it, if
-- that is known; or the count of faults rose, or is at its largest value; `NoMemory` needs no cause
abbrev pub HasReadRecording : {N S : Type 0} → (N → ℕ → List Record → Type 0) → (S → Option (List ℕ)) → (S → ℕ) → S → S
    → Result (NotedRecording N) (Stop Refusal) → Type 0
HasReadRecording Holds rest faults first now (Ok recording) =
    (text : List ℕ) × ReadsAll (rest first) (rest now) text
    × IsMadeOfNotedRecording Holds text recording.capture.streams recording.capture.notes recording.outputs
    × AreOutputs recording.outputs
HasReadRecording Holds rest faults first now (Err (Refused refusal)) =
    IsRecordingFault refusal × IfSome (rest first) (λ text. HasRecordingFault text refusal)
HasReadRecording Holds rest faults first now (Err ReadFault) = Rose (faults first) (faults now)
HasReadRecording Holds rest faults first now (Err NoMemory) = ⊤
