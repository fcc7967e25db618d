-- Whole records that are taken at once.
use Rattle.std.proofs.Common.{◌≡◌, ℕ, ◌+◌, ◌-◌, List, [], ◌++◌, length, take, drop, take-add, sym, ◌∙◌, ap, subst, arith, length-append}
use Rattle.std.proofs.lemmas.List.{take_at}
use Rattle.mc_calls.specs.declared.entry.Entry.{Entry}
use Rattle.mc_calls.specs.declared.hold.Hold.{Hold}
use Rattle.zy_read.proofs.OverLemmas.{over_join}
use Rattle.zy_journal.specs.Journal.{entry_text, hold_text}
use Rattle.zy_journal_reader.specs.declared.draft.Draft.{Draft}
use Rattle.zy_journal_reader.specs.declared.due.Due.{Due}
use Rattle.zy_journal_reader.specs.declared.due.Due.TheVariants.{Byte}
use Rattle.zy_journal_reader.specs.declared.due.ByteField.TheVariants.{Tag}
use Rattle.zy_journal_reader.specs.Fields.{fresh}
use Rattle.zy_journal_reader.specs.Found.{IsAtRecord, HasEntry, HasHold, and_entry, and_hold}
use Rattle.zy_journal_reader.specs.Steps.{ReadState, journal_fields}
use Rattle.zy_journal_reader.proofs.PlaceLemmas.{Over, place, Goes}
use Rattle.zy_journal_reader.proofs.SpelledLemmas.{entry_goes, hold_goes}

-- between records nothing but the lists and what came last matters
at_record_is : (p : ReadState) → IsAtRecord p → p ≡ place p fresh (Byte Tag)
at_record_is p is = ap (λ (d : Due). record p { due = d }) is.due ∙ ap (λ (d : Draft). record p { due = Byte Tag; draft = d }) is.draft

-- a record at the beginning of a text
record_over : (p q : ReadState) (whole text rest : List ℕ) (size at : ℕ) → IsAtRecord p → IsAtRecord q → Goes p fresh (Byte Tag) whole q fresh (Byte Tag) → text ≡ whole ++ rest → size ≡ length text - length rest → Over p at (take size text) q []
record_over p q whole text rest size at there here goes spelled sized =
    let all : length text ≡ length whole + length rest = ap (λ (l : List ℕ). length l) spelled ∙ length-append whole rest in
    let front : take size text ≡ whole = ap (λ (l : List ℕ). take size l) spelled ∙ take_at whole rest size (omega (arith, all, sized)) in
    subst (λ (l : List ℕ). Over p at l q []) (sym front)
    (subst (λ (s : ReadState). Over s at whole q []) (sym (at_record_is p there)) (subst (λ (s : ReadState). Over (place p fresh (Byte Tag)) at whole s []) (sym (at_record_is q here)) (goes.over at)))

-- an entry that may come next
pub entry_over : (p q : ReadState) (e : Entry) (text rest : List ℕ) (size at : ℕ) → IsAtRecord p → p.holds ≡ [] → HasEntry p.past text e rest → size ≡ length text - length rest → q ≡ and_entry p e → Over p at (take size text) q []
entry_over p q e text rest size at there none has sized leads =
    subst (λ (s : ReadState). Over p at (take size text) s []) (sym leads)
    (record_over p (and_entry p e) (entry_text e) text rest size at there (record { due = there.due; draft = there.draft }) (entry_goes p e none has.within has.fits has.comes) has.spelled sized)

-- a hold that may come next
pub hold_over : (p q : ReadState) (h : Hold) (text rest : List ℕ) (size at : ℕ) → IsAtRecord p → HasHold p.past text h rest → size ≡ length text - length rest → q ≡ and_hold p h → Over p at (take size text) q []
hold_over p q h text rest size at there has sized leads =
    subst (λ (s : ReadState). Over p at (take size text) s []) (sym leads)
    (record_over p (and_hold p h) (hold_text h) text rest size at there (record { due = there.due; draft = there.draft }) (hold_goes p h has.within has.comes) has.spelled sized)

-- records after records
pub records_on : (p q r : ReadState) (bytes : List ℕ) (run size : ℕ) → ((at : ℕ) → Over p at (take run bytes) q []) → ((at : ℕ) → Over q at (take size (drop run bytes)) r []) → (at : ℕ) → Over p at (take (run + size) bytes) r []
records_on p q r bytes run size first second at =
    subst (λ (l : List ℕ). Over p at l r []) (sym (take-add run size bytes))
    (over_join journal_fields p q r at (take run bytes) (take size (drop run bytes)) [] [] (first at) (second (at + length (take run bytes))))
