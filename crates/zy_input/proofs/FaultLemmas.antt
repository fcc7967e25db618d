-- An input has parts or a fault, and not both, and it has one first fault.
use Rattle.std.proofs.Common.{◌≡◌, ℕ, List, ◌++◌, sym, ◌∙◌, ap, subst}
use Rattle.zy_base.specs.declared.file_fault.FileFault.{FileFault}
use Rattle.zy_capture.specs.declared.capture_fault.CaptureFault.{CaptureFault}
use Rattle.zy_capture.specs.Outputs.{AllOutputs}
use Rattle.zy_capture.specs.Replies.{items_of}
use Rattle.zy_capture.specs.Verdict as Captures
use Rattle.zy_capture.specs.RepliesVerdict as Replies
use Rattle.zy_journal.specs.declared.journal.Journal.{Journal}
use Rattle.zy_journal_reader.specs.Verdict as Journals
use Rattle.zy_input.specs.declared.stop.Refusal.{Refusal}
use Rattle.zy_input.specs.declared.stop.Refusal.TheVariants.{Capture, Journal as OfJournal, Replies as OfReplies, Items, Pcap}
use Rattle.zy_input.specs.Parts.{IsCaptureText, IsJournalText, IsMadeOfParts, HasCaptureFault, HasJournalFault, HasRepliesFault, HasPartFault}
use Rattle.zy_input.proofs.FormatLemmas.{one_rest}
use Rattle.zy_input.proofs.CaptureLemmas as OfCapture
use Rattle.zy_input.proofs.JournalLemmas as InJournal
use Rattle.zy_input.proofs.WholeLemmas.{is_capture, is_journal}

-- ---- one division

-- what follows the capture of a text is one
pub after_capture : (text a x c y : List ℕ) → text ≡ a ++ x → text ≡ c ++ y → IsCaptureText a → IsCaptureText c → x ≡ y
after_capture text a x c y first second one two = one_rest Captures.captures Captures.is_good OfCapture.once a x c y (sym first ∙ second) one two

pub after_journal : (a x c y : List ℕ) → a ++ x ≡ c ++ y → IsJournalText a → IsJournalText c → x ≡ y
after_journal a x c y is one two = one_rest Journals.journals Journals.is_good_journal InJournal.once a x c y is one two

-- ---- parts or a fault

pub good_bad : (text : List ℕ) (version : ℕ) (outputs : AllOutputs) (fault : FileFault) → Replies.verdict text ≡ Replies.Verdict.Good version (items_of outputs) → Replies.verdict text ≡ Replies.Verdict.Bad fault → ⊥
good_bad text version outputs fault good bad = let is : Replies.Verdict.Good version (items_of outputs) ≡ Replies.Verdict.Bad fault = sym good ∙ bad in cc

pub no_fault : (text : List ℕ) (streams : List (List (List ℕ))) (journal : Journal) (outputs : AllOutputs) (refusal : Refusal) → IsMadeOfParts text streams journal outputs → HasPartFault text refusal → ⊥
no_fault text streams journal outputs (Capture fault) parts has = has.none parts.capture_text (parts.journal_text ++ parts.replies_text) parts.whole (is_capture parts.capture_text streams parts.of_capture)
no_fault text streams journal outputs (OfJournal fault) parts has =
    let rest : has.rest ≡ parts.journal_text ++ parts.replies_text = after_capture text has.capture_text has.rest parts.capture_text (parts.journal_text ++ parts.replies_text) has.whole parts.whole has.of_capture (is_capture parts.capture_text streams parts.of_capture) in
    has.none parts.journal_text parts.replies_text rest (is_journal parts.journal_text journal parts.of_journal)
no_fault text streams journal outputs (Items fault) parts has = absurd has
no_fault text streams journal outputs (Pcap fault) parts has = absurd has
no_fault text streams journal outputs (OfReplies fault) parts has =
    let behind : has.journal_text ++ has.rest ≡ parts.journal_text ++ parts.replies_text = after_capture text has.capture_text (has.journal_text ++ has.rest) parts.capture_text (parts.journal_text ++ parts.replies_text) has.whole parts.whole has.of_capture (is_capture parts.capture_text streams parts.of_capture) in
    let rest : has.rest ≡ parts.replies_text = after_journal has.journal_text has.rest parts.journal_text parts.replies_text behind has.of_journal (is_journal parts.journal_text journal parts.of_journal) in
    good_bad parts.replies_text outputs.version outputs fault parts.of_replies (subst (λ (l : List ℕ). Replies.verdict l ≡ Replies.Verdict.Bad fault) rest has.bad)

-- ---- one fault

pub captures_differ : (text : List ℕ) (first second : CaptureFault) → Captures.verdict text ≡ Captures.Verdict.Bad first → Captures.verdict text ≡ Captures.Verdict.Bad second → first ≡ second
captures_differ text first second one two = let is : Captures.Verdict.Bad first ≡ Captures.Verdict.Bad second = sym one ∙ two in cc

journals_differ : (text : List ℕ) (first second : FileFault) → Journals.journal_verdict text ≡ Journals.JournalVerdict.Bad first → Journals.journal_verdict text ≡ Journals.JournalVerdict.Bad second → first ≡ second
journals_differ text first second one two = let is : Journals.JournalVerdict.Bad first ≡ Journals.JournalVerdict.Bad second = sym one ∙ two in cc

pub replies_differ : (text : List ℕ) (first second : FileFault) → Replies.verdict text ≡ Replies.Verdict.Bad first → Replies.verdict text ≡ Replies.Verdict.Bad second → first ≡ second
replies_differ text first second one two = let is : Replies.Verdict.Bad first ≡ Replies.Verdict.Bad second = sym one ∙ two in cc

-- a fault of the capture is not one of a later part
pub not_later : (text front back : List ℕ) (fault : CaptureFault) → HasCaptureFault text fault → text ≡ front ++ back → IsCaptureText front → ⊥
not_later text front back fault has is whole = has.none front back is whole

-- a fault of the journal is not one of the replies file
not_last : (text : List ℕ) (fault other : FileFault) → HasJournalFault text fault → HasRepliesFault text other → ⊥
not_last text fault other has later =
    has.none later.journal_text later.rest (after_capture text has.capture_text has.rest later.capture_text (later.journal_text ++ later.rest) has.whole later.whole has.of_capture later.of_capture) later.of_journal

one_journal : (text : List ℕ) (first second : FileFault) → HasJournalFault text first → HasJournalFault text second → first ≡ second
one_journal text first second one two =
    let rest : one.rest ≡ two.rest = after_capture text one.capture_text one.rest two.capture_text two.rest one.whole two.whole one.of_capture two.of_capture in
    journals_differ two.rest first second (subst (λ (l : List ℕ). Journals.journal_verdict l ≡ Journals.JournalVerdict.Bad first) rest one.bad) two.bad

one_replies : (text : List ℕ) (first second : FileFault) → HasRepliesFault text first → HasRepliesFault text second → first ≡ second
one_replies text first second one two =
    let behind : one.journal_text ++ one.rest ≡ two.journal_text ++ two.rest = after_capture text one.capture_text (one.journal_text ++ one.rest) two.capture_text (two.journal_text ++ two.rest) one.whole two.whole one.of_capture two.of_capture in
    let rest : one.rest ≡ two.rest = after_journal one.journal_text one.rest two.journal_text two.rest behind one.of_journal two.of_journal in
    replies_differ two.rest first second (subst (λ (l : List ℕ). Replies.verdict l ≡ Replies.Verdict.Bad first) rest one.bad) two.bad

pub one_fault : (text : List ℕ) (first second : Refusal) → HasPartFault text first → HasPartFault text second → first ≡ second
one_fault text (Capture first) (Capture second) one two = ap (λ (f : CaptureFault). Capture f) (captures_differ text first second one.bad two.bad)
one_fault text (Capture first) (OfJournal second) one two = absurd (not_later text two.capture_text two.rest first one two.whole two.of_capture)
one_fault text (Capture first) (OfReplies second) one two = absurd (not_later text two.capture_text (two.journal_text ++ two.rest) first one two.whole two.of_capture)
one_fault text (OfJournal first) (Capture second) one two = absurd (not_later text one.capture_text one.rest second two one.whole one.of_capture)
one_fault text (OfJournal first) (OfJournal second) one two = ap (λ (f : FileFault). OfJournal f) (one_journal text first second one two)
one_fault text (OfJournal first) (OfReplies second) one two = absurd (not_last text first second one two)
one_fault text (OfReplies first) (Capture second) one two = absurd (not_later text one.capture_text (one.journal_text ++ one.rest) second two one.whole one.of_capture)
one_fault text (OfReplies first) (OfJournal second) one two = absurd (not_last text second first two one)
one_fault text (OfReplies first) (OfReplies second) one two = ap (λ (f : FileFault). OfReplies f) (one_replies text first second one two)
one_fault text (Capture first) (Pcap second) one two = absurd two
one_fault text (OfJournal first) (Pcap second) one two = absurd two
one_fault text (OfReplies first) (Pcap second) one two = absurd two
one_fault text (Pcap first) second one two = absurd one
one_fault text (Capture first) (Items second) one two = absurd two
one_fault text (OfJournal first) (Items second) one two = absurd two
one_fault text (OfReplies first) (Items second) one two = absurd two
one_fault text (Items first) second one two = absurd one
