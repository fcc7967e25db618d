-- A text is good if and only if it is the spelling of a capture.
use Rattle.std.proofs.Common.{◌≡◌, inl, inr, ℕ, ◌+◌, ◌<◌, ◌≤◌, true, List, [], ◌∷◌, ◌++◌, length, refl, sym, ◌∙◌, subst, arith}
use Rattle.std.specs.Prelude.{Option, None, Some, flat_map}
use Rattle.std.specs.List.{concat}
use Rattle.std.specs.Int.{to_be_bytes, w32}
use Rattle.std.proofs.lemmas.List.{append-nil}
use Rattle.zy_read.specs.Bytes.{AreBytes}
use Rattle.zy_read.specs.Format.{Reading, read_on, reading_of, fault_met}
use Rattle.zy_read.specs.Fields.{IsWrong, IsLawful, at_state, step}
use Rattle.zy_read.specs.Runs.{Begins, IsWhole, IsOutcome}
use Rattle.zy_read.proofs.ByteLemmas.{bytes_front}
use Rattle.zy_read.proofs.OverLemmas.{over_then, over_begins}
use Rattle.zy_read.proofs.RunLemmas.{runs_keep, byte_parts}
use Rattle.zy_read.proofs.OutcomeLemmas.{IsRead, text_read}
use Rattle.zy_read.proofs.VerdictLemmas.{outcome, whole_good}
use Rattle.zy_capture.specs.declared.record.Record.{Record}
use Rattle.zy_capture.specs.declared.capture_fault.CaptureFault.{CaptureFault}
use Rattle.zy_capture.specs.declared.due.Due.{Due}
use Rattle.zy_capture.specs.declared.due.Due.TheVariants.{Magic, Count, Tag, Connection, Length, Payload, Closed, Nothing}
use Rattle.zy_capture.specs.declared.capture_state.CaptureState.{CaptureState}
use Rattle.zy_capture.specs.Capture.{capture_magic, spelled, spelling, IsCapture, Spells, capture_limit}
use Rattle.zy_capture.specs.Capture.{front_text}
use Rattle.zy_capture.specs.Steps.{CaptureProgress, state, start, width, is_nothing, judged, fields}
use Rattle.zy_capture.specs.Verdict.Verdict.{Good, Bad}
use Rattle.zy_capture.specs.Verdict.{Verdict, good, verdict, fault_of}
use Rattle.zy_capture.proofs.ByteLemmas.{assoc_twice}
use Rattle.zy_capture.proofs.PlaceLemmas.{IsAt, Stands, keeps}
use Rattle.zy_capture.proofs.PartLemmas.{Over, then_over}

-- ---- the fields are lawful

width_some : (due : Due) → 0 < width due
width_some (Magic part) = omega arith
width_some Count = omega arith
width_some Tag = omega arith
width_some Connection = omega arith
width_some (Length conn) = omega arith
width_some (Payload conn more) = omega arith
width_some Closed = omega arith
width_some Nothing = omega arith

width_one : (due : Due) → is_nothing due ≡ true → width due ≡ 1
width_one Nothing is = refl
width_one due is = cc

-- after the end each byte is wrong
pub end_wrong : (due : Due) (s : CaptureState) (at : ℕ) (field : List ℕ) → is_nothing due ≡ true → IsWrong (judged due s at field)
end_wrong Nothing s at field is = tt
end_wrong due s at field is = cc

pub lawful : IsLawful fields
lawful = record {
  some = λ s. width_some s.due;
  one = λ s is. width_one s.due is;
  ends = λ s at field is full. end_wrong s.due s at field is;
}

-- ---- good texts

-- the fields with which a text begins lead to their state
pub stands_there : (text : List ℕ) (s : CaptureState) (given : List Record) (rest : List ℕ) → AreBytes text → (begins : Begins fields text s given rest) → Stands s (concat begins.parts) given
stands_there text s given rest all begins =
    runs_keep fields AreBytes Stands keeps begins.parts start s [] 0 [] given refl
    (byte_parts begins.parts (bytes_front (concat begins.parts) rest (subst AreBytes begins.text_is all))) (omega arith, tt, refl, refl) begins.runs

pub ends_spelling : (version count : ℕ) (items : List Record) → front_text version count items ++ 69 ∷ [] ≡ spelling version count items
unfolding spelling
ends_spelling version count items = assoc_twice (capture_magic version) (to_be_bytes w32 count) (flat_map spelled items) (69 ∷ [])

spells_at : (due : Due) (s : CaptureState) (text : List ℕ) (given : List Record) → is_nothing due ≡ true → IsAt due s text given → length text ≤ capture_limit → Spells text s.version s.count given
spells_at Nothing s text given ends is short = record { valid = is.valid; spelled = is.whole ∙ ends_spelling s.version s.count given; short = short }
spells_at due s text given ends is short = cc

pub whole_spells : (text : List ℕ) (s : CaptureState) (given : List Record) → AreBytes text → IsWhole fields text s given → Spells text s.version s.count given
whole_spells text s given all whole =
    let parts : List (List ℕ) = whole.begins.parts in
    let is : text ≡ concat parts = whole.begins.text_is ∙ append-nil (concat parts) in
    subst (λ (l : List ℕ). Spells l s.version s.count given) (sym is) (spells_at s.due s (concat parts) given whole.end_is (stands_there text s given [] all whole.begins) whole.begins.short)

good_by : (text : List ℕ) (version count : ℕ) (items : List Record) (found : Verdict) → AreBytes text → IsOutcome fields good Bad text found → found ≡ Good version count items → Spells text version count items
good_by text version count items found all (inl whole) is =
    let s : CaptureState = whole.0 in
    let given : List Record = whole.1.0 in
    let same : Good s.version s.count given ≡ Good version count items = sym whole.1.2 ∙ is in
    let version_is : s.version ≡ version = cc in
    let count_is : s.count ≡ count = cc in
    let items_are : given ≡ items = cc in
    rw (sym version_is, sym count_is, sym items_are) (whole_spells text s given all whole.1.1)
good_by text version count items found all (inr (inl cut)) is = let none = cut.1 in cc
good_by text version count items found all (inr (inr faulty)) is = let none = faulty.1.2 in cc

pub good_spells : (text : List ℕ) (version count : ℕ) (items : List Record) → AreBytes text → verdict text ≡ Good version count items → Spells text version count items
good_spells text version count items all is = good_by text version count items (verdict text) all (outcome fields lawful good Bad text) is

-- the fields of a spelling lead to the end
pub end_over : (version count : ℕ) (items : List Record) → IsCapture version count items → Over start 0 (spelling version count items) (state Nothing version count) items
end_over version count items valid =
    subst (λ (l : List ℕ). Over start 0 l (state Nothing version count) items) (ends_spelling version count items)
    (then_over version count items (69 ∷ []) (state Nothing version count) valid (over_then fields (state Tag version count) (state Nothing version count) (0 + length (front_text version count items)) (69 ∷ []) refl refl))

pub spells_whole : (text : List ℕ) (version count : ℕ) (items : List Record) → Spells text version count items → IsWhole fields text (state Nothing version count) items
spells_whole text version count items spells = record {
  begins = over_begins fields text (state Nothing version count) (spelling version count items) [] items (end_over version count items spells.valid)
      (subst (λ (l : List ℕ). length l ≤ capture_limit) spells.spelled spells.short) (spells.spelled ∙ sym (append-nil (spelling version count items)));
  end_is = refl;
}

pub spells_good : (text : List ℕ) (version count : ℕ) (items : List Record) → Spells text version count items → verdict text ≡ Good version count items
spells_good text version count items spells = whole_good fields lawful good Bad text (state Nothing version count) items (spells_whole text version count items spells)

-- ---- texts without a fault

-- such a text has at most the bytes of a capture
clean_by : (text : List ℕ) (p : CaptureProgress) (given : List Record) (fault : Option CaptureFault) → fault ≡ None → IsRead fields fault p given text → length text ≤ capture_limit
clean_by text p given None none read = omega (arith, read.count, read.short)
clean_by text p given (Some fault) none read = cc

pub clean_short : (text : List ℕ) → fault_of text ≡ None → length text ≤ capture_limit
unfolding fault_met reading_of
clean_short text none =
    let r : Reading CaptureProgress Record = read_on (step fields) (at_state fields.start 0) text in
    clean_by text r.last r.given r.last.fault none (text_read fields lawful text)
