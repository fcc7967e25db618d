-- An input has at most one fault.
use Rattle.std.proofs.Common.{◌≡◌, ℕ, List, sym, ◌∙◌, ap}
use Rattle.zy_capture.specs.Outputs.{AllOutputs}
use Rattle.zy_capture.specs.Verdict as Captures
use Rattle.zy_journal.specs.declared.journal.Journal.{Journal as OneJournal}
use Rattle.zy_journal_reader.specs.Verdict as Journals
use Rattle.zy_pcap.specs.Packets as Recorded
use Rattle.zy_input.specs.declared.stop.Refusal.{Refusal}
use Rattle.zy_input.specs.declared.stop.Refusal.TheVariants.{Capture, Journal, Pcap}
use Rattle.zy_input.specs.Parts.{IsMadeOfParts, HasPartFault}
use Rattle.zy_input.proofs.RecordingLemmas as Recordings
use Rattle.zy_input.proofs.WindowLemmas as Windows
use Rattle.zy_shell.specs.Input.{Input, HasInputFault}
use Rattle.zy_shell.specs.Input.Input.{CaptureInput, CheckInput, JudgeInput, WindowInput, PacketsInput, JournalInput}

-- parts of a check's input have no fault
abbrev pub PartsHaveNone : Type 0
PartsHaveNone = (text : List ℕ) (streams : List (List (List ℕ))) (journal : OneJournal) (outputs : AllOutputs) (refusal : Refusal) → IsMadeOfParts text streams journal outputs → HasPartFault text refusal → ⊥

-- a check's input has one fault at most
abbrev pub PartsHaveOne : Type 0
PartsHaveOne = (text : List ℕ) (first second : Refusal) → HasPartFault text first → HasPartFault text second → first ≡ second

-- so has any input
pub one_fault : PartsHaveOne → (input : Input) (bytes : List ℕ) (first second : Refusal) → HasInputFault input first bytes → HasInputFault input second bytes → first ≡ second
one_fault one CaptureInput bytes (Capture f) (Capture g) x y =
    let both : Captures.Verdict.Bad f ≡ Captures.Verdict.Bad g = sym x ∙ y in
    let same : f ≡ g = cc in ap (λ h. Capture h) same
one_fault one CaptureInput bytes (Capture f) second x y = absurd y
one_fault one CaptureInput bytes first second x y = absurd x
one_fault one CheckInput bytes first second x y = one bytes first second x y
one_fault one JudgeInput bytes first second x y = Recordings.one_fault bytes first second x y
one_fault one WindowInput bytes first second x y = Windows.one_fault bytes first second x y
one_fault one (PacketsInput port) bytes (Pcap f) (Pcap g) x y =
    let both : Recorded.FoundPackets.Bad f ≡ Recorded.FoundPackets.Bad g = sym x ∙ y in
    let same : f ≡ g = cc in ap (λ h. Pcap h) same
one_fault one (PacketsInput port) bytes (Pcap f) second x y = absurd y
one_fault one (PacketsInput port) bytes first second x y = absurd x
one_fault one JournalInput bytes (Journal f) (Journal g) x y =
    let both : Journals.JournalVerdict.Bad f ≡ Journals.JournalVerdict.Bad g = sym x ∙ y in
    let same : f ≡ g = cc in ap (λ h. Journal h) same
one_fault one JournalInput bytes (Journal f) second x y = absurd y
one_fault one JournalInput bytes first second x y = absurd x
