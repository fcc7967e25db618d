-- A capture and a replies file: how they are read, and that they have no fault, or one.
use Rattle.std.proofs.Common.{◌≡◌, ℕ, List, [], ◌++◌, refl, sym, ap, subst, true≢false}
use Rattle.std.specs.Prelude.{Option, Result, Ok, Err, IfSome}
use Rattle.zy_base.specs.declared.file_fault.FileFault.{FileFault}
use Rattle.zy_capture.specs.declared.capture_fault.CaptureFault.{CaptureFault}
use Rattle.zy_capture.specs.declared.record.Record.{Record}
use Rattle.zy_capture.specs.Outputs.{AllOutputs}
use Rattle.zy_capture.specs.RepliesVerdict as Texts
use Rattle.zy_read.specs.declared.stop.Stop.{Stop}
use Rattle.zy_read.specs.declared.stop.Stop.TheVariants.{Refused, ReadFault, NoMemory}
use Rattle.zy_input.specs.declared.recording.NotedRecording.{NotedRecording}
use Rattle.zy_input.specs.declared.stop.Refusal.{Refusal}
use Rattle.zy_input.specs.declared.stop.Refusal.TheVariants.{Capture, Journal, Replies as OfReplies, Items, Pcap}
use Rattle.zy_input.specs.Parts.{IsCaptureText, HasNotes}
use Rattle.zy_input.specs.Recording.{IsMadeOfRecording, HasLastFault, HasRecordingFault, HasReadRecording}
use Rattle.zy_input.specs.Reading.{Kind, HasFaultBehind, HasReadPart, StopsPartBy, never}
use Rattle.zy_input.specs.Kinds.{capture_kind, replies_kind, StandsForRepliesPart, HasOutputs}
use Rattle.zy_input.proofs.FaultLemmas.{after_capture, captures_differ, replies_differ, good_bad, not_later}
use Rattle.zy_input.proofs.FormatLemmas.{ends_faulty}
use Rattle.zy_input.proofs.PartLemmas.{if_some, read_all}
use Rattle.zy_input.proofs.WholeLemmas.{is_capture, begins_faulty}

-- ---- stops

-- a fault of the capture
pub first_fault : {N : Type 0} (Holds : N → ℕ → List Record → Type 0) (text : List ℕ) (refusal : Refusal) → HasFaultBehind (capture_kind Holds) [] text refusal → HasRecordingFault text refusal
first_fault Holds text refusal behind =
    let met = begins_faulty Holds text refusal behind in
    subst (λ (r : Refusal). HasRecordingFault text r) (sym met.1) met.2

-- a fault of the replies file
pub last_fault : (bytes text : List ℕ) (refusal : Refusal) → IsCaptureText bytes → HasFaultBehind replies_kind bytes text refusal → HasRecordingFault text refusal
last_fault bytes text refusal good behind =
    let met = ends_faulty Texts.replies never (λ (f : FileFault). OfReplies f) StandsForRepliesPart HasOutputs bytes text refusal behind in
    subst (λ (r : Refusal). HasRecordingFault text r) (sym met.1) (record {
      capture_text = bytes;
      rest = met.2.text;
      whole = met.2.whole;
      of_capture = good;
      bad = met.2.bad;
    })

-- reading stops for a fault of the part that is read
pub recording_stopped : {P T N S : Type 0} (Holds : N → ℕ → List Record → Type 0) (kind : Kind P T) (rest : S → Option (List ℕ)) (faults : S → ℕ) (first now : S) (before : List ℕ) (stop : Stop Refusal) → ((text : List ℕ) (refusal : Refusal) → HasFaultBehind kind before text refusal → HasRecordingFault text refusal)
    → StopsPartBy kind rest faults first now before stop → HasReadRecording Holds rest faults first now (Err stop)
recording_stopped Holds kind rest faults first now before (Refused refusal) fault stops = (
  (before ++ stops.0.0, fault (before ++ stops.0.0) refusal (record { rest = stops.0.0; whole = refl; faulty = stops.0.1 })),
  if_some (rest first) (λ text. HasFaultBehind kind before text refusal) (λ text. HasRecordingFault text refusal) (λ text. fault text refusal) stops.1,
)
recording_stopped Holds kind rest faults first now before ReadFault fault stops = stops
recording_stopped Holds kind rest faults first now before NoMemory fault stops = tt

-- ---- both parts

pub both_parts : {N S : Type 0} (Holds : N → ℕ → List Record → Type 0) (rest : S → Option (List ℕ)) (faults : S → ℕ) (first now : S) (left bytes : List ℕ) (recording : NotedRecording N) → HasNotes Holds bytes recording.capture.streams recording.capture.notes
    → HasReadPart replies_kind rest faults first now left bytes recording.outputs → HasReadRecording Holds rest faults first now (Ok recording)
both_parts Holds rest faults first now left bytes recording noted has = (
  bytes ++ has.bytes,
  read_all replies_kind rest faults first now left bytes recording.outputs (λ text whole. true≢false (sym whole)) has,
  record {
    recording = record {
      capture_text = bytes;
      replies_text = has.bytes;
      whole = refl;
      of_capture = noted.capture;
      of_replies = has.gives.0;
    };
    noted = noted.noted;
  },
  has.gives.1,
)

-- ---- a recording or a fault

pub no_fault : (text : List ℕ) (streams : List (List (List ℕ))) (outputs : AllOutputs) (refusal : Refusal) → IsMadeOfRecording text streams outputs → HasRecordingFault text refusal → ⊥
no_fault text streams outputs (Capture fault) parts has = has.none parts.capture_text parts.replies_text parts.whole (is_capture parts.capture_text streams parts.of_capture)
no_fault text streams outputs (Journal fault) parts has = has
no_fault text streams outputs (Items fault) parts has = has
no_fault text streams outputs (Pcap fault) parts has = has
no_fault text streams outputs (OfReplies fault) parts has =
    let rest : has.rest ≡ parts.replies_text = after_capture text has.capture_text has.rest parts.capture_text parts.replies_text has.whole parts.whole has.of_capture (is_capture parts.capture_text streams parts.of_capture) in
    good_bad parts.replies_text outputs.version outputs fault parts.of_replies (subst (λ (l : List ℕ). Texts.verdict l ≡ Texts.Verdict.Bad fault) rest has.bad)

one_last : (text : List ℕ) (first second : FileFault) → HasLastFault text first → HasLastFault text second → first ≡ second
one_last text first second one two =
    let rest : one.rest ≡ two.rest = after_capture text one.capture_text one.rest two.capture_text two.rest one.whole two.whole one.of_capture two.of_capture in
    replies_differ two.rest first second (subst (λ (l : List ℕ). Texts.verdict l ≡ Texts.Verdict.Bad first) rest one.bad) two.bad

pub one_fault : (text : List ℕ) (first second : Refusal) → HasRecordingFault text first → HasRecordingFault text second → first ≡ second
one_fault text (Capture first) (Capture second) one two = ap (λ (f : CaptureFault). Capture f) (captures_differ text first second one.bad two.bad)
one_fault text (Capture first) (OfReplies second) one two = absurd (not_later text two.capture_text two.rest first one two.whole two.of_capture)
one_fault text (Capture first) (Journal second) one two = absurd two
one_fault text (Capture first) (Items second) one two = absurd two
one_fault text (Capture first) (Pcap second) one two = absurd two
one_fault text (OfReplies first) (Capture second) one two = absurd (not_later text one.capture_text one.rest second two one.whole one.of_capture)
one_fault text (OfReplies first) (OfReplies second) one two = ap (λ (f : FileFault). OfReplies f) (one_last text first second one two)
one_fault text (OfReplies first) (Journal second) one two = absurd two
one_fault text (OfReplies first) (Items second) one two = absurd two
one_fault text (OfReplies first) (Pcap second) one two = absurd two
one_fault text (Journal first) second one two = absurd one
one_fault text (Items first) second one two = absurd one
one_fault text (Pcap first) second one two = absurd one
