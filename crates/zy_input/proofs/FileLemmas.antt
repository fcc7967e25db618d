-- A journal that is all that a source gives.
use Rattle.std.proofs.Common.{◌≡◌, ℕ, List, [], refl, sym, ◌∙◌, ap, subst, true≢false}
use Rattle.std.specs.Prelude.{Option, Result, Ok, Err}
use Rattle.zy_base.specs.declared.file_fault.FileFault.{FileFault}
use Rattle.zy_read.specs.declared.stop.Stop.{Stop}
use Rattle.zy_read.specs.declared.stop.Stop.TheVariants.{Refused, ReadFault, NoMemory}
use Rattle.zy_journal.specs.declared.journal.Journal.{Journal}
use Rattle.zy_journal_reader.specs.Verdict.{journals, journal_verdict}
use Rattle.zy_journal_reader.specs.Verdict.JournalVerdict.{Good, Bad}
use Rattle.zy_input.specs.declared.journal_part.Until.TheVariants.{SourceEnd}
use Rattle.zy_input.specs.declared.stop.Refusal.{Refusal}
use Rattle.zy_input.specs.declared.stop.Refusal.TheVariants.{Journal as OfJournal}
use Rattle.zy_input.specs.Parts.{HasReadJournal}
use Rattle.zy_input.specs.Reading.{HasFaultBehind, Reads, never}
use Rattle.zy_input.specs.Kinds.{StandsForJournalPart, journal_kind}
use Rattle.zy_input.proofs.FormatLemmas.{ends_faulty}
use Rattle.zy_input.proofs.PartLemmas.{if_some, read_all}

-- the fault of the journal
journal_faulty : (text : List ℕ) (refusal : Refusal) → HasFaultBehind (journal_kind SourceEnd) [] text refusal → (fault : FileFault) × (refusal ≡ OfJournal fault) × (journal_verdict text ≡ Bad fault)
journal_faulty text refusal behind =
    let met = ends_faulty journals never (λ (f : FileFault). OfJournal f) (StandsForJournalPart SourceEnd) (λ (journal : Journal) (t : List ℕ). journal_verdict t ≡ Good journal) [] text refusal behind in
    (met.0, met.1, ap journal_verdict met.2.whole ∙ met.2.bad)

-- is that of the refusal
same_fault : (text : List ℕ) (refusal : Refusal) (fault : FileFault) → refusal ≡ OfJournal fault → (f : FileFault) × (refusal ≡ OfJournal f) × (journal_verdict text ≡ Bad f) → journal_verdict text ≡ Bad fault
same_fault text refusal fault is met =
    let here : OfJournal met.0 ≡ OfJournal fault = sym met.1 ∙ is in
    let same : met.0 ≡ fault = cc in
    met.2 ∙ ap Bad same

pub journal_read : {S : Type 0} (rest : S → Option (List ℕ)) (faults : S → ℕ) (first now : S) (left : List ℕ) (answer : Result Journal (Stop Refusal)) → Reads (journal_kind SourceEnd) rest faults first now left [] answer → HasReadJournal rest faults first now answer
journal_read rest faults first now left (Ok journal) has = (has.bytes, read_all (journal_kind SourceEnd) rest faults first now left [] journal (λ text whole. true≢false (sym whole)) has, has.gives)
journal_read rest faults first now left (Err (Refused refusal)) stops =
    let met = journal_faulty stops.0.0 refusal (record { rest = stops.0.0; whole = refl; faulty = stops.0.1 }) in
    subst (λ (r : Refusal). HasReadJournal rest faults first now (Err (Refused r))) (sym met.1)
    (if_some (rest first) (λ text. HasFaultBehind (journal_kind SourceEnd) [] text refusal) (λ text. journal_verdict text ≡ Bad met.0)
    (λ text behind. same_fault text refusal met.0 met.1 (journal_faulty text refusal behind)) stops.1)
journal_read rest faults first now left (Err ReadFault) stops = stops
journal_read rest faults first now left (Err NoMemory) stops = tt
