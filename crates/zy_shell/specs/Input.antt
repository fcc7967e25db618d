-- The inputs of programs, and the faults that these may have.
use Rattle.std.specs.Prelude.{◌≡◌, ℕ, List, Option, ⊤, IfSome}
use Rattle.zy_capture.specs.Verdict as Captures
use Rattle.zy_input.specs.declared.stop.Refusal.{Refusal}
use Rattle.zy_input.specs.declared.stop.Refusal.TheVariants.{Capture, Journal, Pcap}
use Rattle.zy_input.specs.Parts.{HasPartFault, IsPartFault}
use Rattle.zy_input.specs.Recording.{HasRecordingFault, IsRecordingFault}
use Rattle.zy_input.specs.Window.{HasWindowFault, IsWindowFault}
use Rattle.zy_journal_reader.specs.Verdict as Journals
use Rattle.zy_pcap.specs.Packets as Recorded

-- a kind of input: a capture; a capture, a journal and a replies file, one after the other; a capture and a replies
-- file; a capture, an items file and a replies file; recorded packets, of which those to a port count; or a journal
pub data Input : Type 0 where
  CaptureInput : Input
  CheckInput : Input
  JudgeInput : Input
  WindowInput : Input
  PacketsInput : ℕ → Input
  JournalInput : Input

-- an input of this kind may have such a fault
abbrev pub MayHaveFault : Input → Refusal → Type 0
MayHaveFault CaptureInput (Capture fault) = ⊤
MayHaveFault CheckInput refusal = IsPartFault refusal
MayHaveFault JudgeInput refusal = IsRecordingFault refusal
MayHaveFault WindowInput refusal = IsWindowFault refusal
MayHaveFault (PacketsInput port) (Pcap fault) = ⊤
MayHaveFault JournalInput (Journal fault) = ⊤
MayHaveFault input refusal = ⊥

-- the bytes have this fault as an input of this kind
abbrev pub HasInputFault : Input → Refusal → List ℕ → Type 0
HasInputFault CaptureInput (Capture fault) bytes = Captures.verdict bytes ≡ Captures.Verdict.Bad fault
HasInputFault CheckInput refusal bytes = HasPartFault bytes refusal
HasInputFault JudgeInput refusal bytes = HasRecordingFault bytes refusal
HasInputFault WindowInput refusal bytes = HasWindowFault bytes refusal
HasInputFault (PacketsInput port) (Pcap fault) bytes = Recorded.packets port bytes ≡ Recorded.FoundPackets.Bad fault
HasInputFault JournalInput (Journal fault) bytes = Journals.journal_verdict bytes ≡ Journals.JournalVerdict.Bad fault
HasInputFault input refusal bytes = ⊥

-- an input of this kind is rejected for this fault: it may have the fault, and the bytes have it if
-- they are reported
abbrev pub IsRefusedFor : Input → Option (List ℕ) → Refusal → Type 0
IsRefusedFor input reported refusal =
    MayHaveFault input refusal × IfSome reported (λ bytes. HasInputFault input refusal bytes)

-- the bytes have no fault as an input of this kind
abbrev pub IsFaultless : Input → List ℕ → Type 0
IsFaultless input bytes = (refusal : Refusal) → HasInputFault input refusal bytes → ⊥
