-- The records of a text without a fault so far are those of a capture whose version and count were
-- read.
use Rattle.std.proofs.Common.{◌≡◌, ◌≢◌, ℕ, ◌+◌, ◌*◌, ◌^◌, ◌<◌, ◌≤◌, List, [], ◌∷◌, ◌++◌, length, refl, sym, ◌∙◌, ap}
use Rattle.std.proofs.Common.{subst, arith, append_assoc, length-append}
use Rattle.std.specs.Prelude.{Option, None, Some, flat_map, ◌==◌}
use Rattle.std.specs.List.{concat}
use Rattle.std.specs.Int.{to_be_bytes, w32}
use Rattle.std.proofs.lemmas.List.{append-nil}
use Rattle.zy_read.specs.Bytes.{AreBytes}
use Rattle.zy_read.specs.Format.{Reading, read_on, reading_of, fault_met, given_by}
use Rattle.zy_read.specs.Fields.{at_state, step}
use Rattle.zy_read.proofs.OutcomeLemmas.{IsRead, text_read}
use Rattle.zy_read.proofs.VerdictLemmas.{begins_read}
use Rattle.zy_read.specs.Magic.{version_in}
use Rattle.zy_read.proofs.MagicFieldLemmas.{known_version}
use Rattle.zy_capture.specs.declared.record.Record.{Record}
use Rattle.zy_capture.specs.declared.record.Record.TheVariants as Kinds
use Rattle.zy_capture.specs.declared.capture_fault.CaptureFault.{CaptureFault}
use Rattle.zy_capture.specs.declared.due.Due.{Due}
use Rattle.zy_capture.specs.declared.due.Due.TheVariants.{Magic, Count, Nothing}
use Rattle.zy_capture.specs.declared.capture_state.CaptureState.{CaptureState}
use Rattle.zy_capture.specs.Capture.{IsCapture, Spells, capture_magic, spelled, capture_limit}
use Rattle.zy_capture.specs.Capture.{front_text}
use Rattle.zy_capture.specs.Streams.{closes}
use Rattle.zy_capture.specs.Steps.{CaptureProgress, state, fields}
use Rattle.zy_capture.specs.Verdict.{fault_of, version_of, count_in, count_of, records_of}
use Rattle.zy_capture.specs.SoFar.{IsCaptureSoFar}
use Rattle.zy_capture.proofs.ByteLemmas.{chosen}
use Rattle.zy_capture.proofs.PlaceLemmas.{IsAt}
use Rattle.zy_capture.proofs.WholeLemmas.{lawful, stands_there, spells_whole}
use Rattle.zy_capture.proofs.TellLemmas.{IsAfterSome, after_some}

-- ---- a whole capture

-- the version, the count and the records of a capture are read
pub record Tells (text : List ℕ) (version count : ℕ) (items : List Record) : Type 0 where
  pub version_is : version_of text ≡ Some version
  pub count_is : count_of text ≡ Some count
  pub records_are : records_of text ≡ items

pub spells_tells : (text : List ℕ) (version count : ℕ) (items : List Record) → Spells text version count items → Tells text version count items
unfolding version_of count_of given_by reading_of read_on
spells_tells text version count items spells =
    let whole = spells_whole text version count items spells in
    let read = begins_read fields lawful text (state Nothing version count) items [] whole.begins in
    record {
      version_is = ap (λ (r : Reading CaptureProgress Record). version_in r.last.state.version) read ∙ known_version version spells.valid.known;
      count_is = ap (λ (r : Reading CaptureProgress Record). count_in r.last.state.due r.last.state.count) read;
      records_are = ap (λ (r : Reading CaptureProgress Record). r.given) read ∙ append-nil items;
    }

-- ---- records

-- a close record takes five bytes
closes_few : (conn : ℕ) (items : List Record) → 5 * closes conn items ≤ length (flat_map spelled items)
closes_few conn [] = omega arith
closes_few conn (Kinds.Segment s ∷ items) = omega (arith, closes_few conn items, length-append (spelled (Kinds.Segment s)) (flat_map spelled items))
closes_few conn (Kinds.Close other ∷ items) =
    let rest : 5 * closes conn items ≤ length (flat_map spelled items) = closes_few conn items in
    let one : length (flat_map spelled (Kinds.Close other ∷ items)) ≡ 5 + length (flat_map spelled items) = length-append (spelled (Kinds.Close other)) (flat_map spelled items) in
    chosen (λ (n : ℕ). 5 * n ≤ length (flat_map spelled (Kinds.Close other ∷ items))) (other == conn) (closes conn items + 1) (closes conn items)
    (λ same. omega (arith, rest, one)) (λ differs. omega (arith, rest, one))

front_few : (version count : ℕ) (given : List Record) (conn : ℕ) (tail text : List ℕ) → text ≡ front_text version count given ++ tail → 5 * closes conn given ≤ length text
front_few version count given conn tail text is =
    omega (arith, closes_few conn given, ap (λ (l : List ℕ). length l) is, length-append (front_text version count given) tail, length-append (capture_magic version) (to_be_bytes w32 count ++ flat_map spelled given), length-append (to_be_bytes w32 count) (flat_map spelled given))

-- the records of a text that was read up to a field after the count
made : (s : CaptureState) (given : List Record) (front more text : List ℕ) → IsAfterSome s front given → text ≡ front ++ more → length text ≤ capture_limit → version_of text ≡ Some s.version → count_of text ≡ Some s.count → records_of text ≡ given → IsCaptureSoFar text
made s given front more text some whole short version_is count_is records_are =
    let bytes : text ≡ front_text s.version s.count given ++ (some.tail ++ more) =
    whole ∙ ap (λ (l : List ℕ). l ++ more) some.after.whole ∙ append_assoc (front_text s.version s.count given) some.tail more in
    let spent : (conn : ℕ) → 5 * closes conn given ≤ length text = λ conn. front_few s.version s.count given conn (some.tail ++ more) text bytes in
    record {
      version = s.version;
      count = s.count;
      version_is = version_is;
      count_is = count_is;
      lawful = subst (λ (l : List Record). IsCapture s.version s.count l) (sym records_are) some.after.valid;
      spent = λ conn. subst (λ (l : List Record). 5 * closes conn l ≤ length text) (sym records_are) (spent conn);
      few = λ conn. subst (λ (l : List Record). closes conn l < 2 ^ 31) (sym records_are) (omega (arith, spent conn, short));
    }

so_far : (due : Due) (s : CaptureState) (given : List Record) (front more text : List ℕ) → IsAt due s front given → text ≡ front ++ more → length text ≤ capture_limit → version_of text ≡ version_in s.version → count_of text ≡ count_in due s.count → records_of text ≡ given → given ≢ [] → IsCaptureSoFar text
so_far (Magic part) s given front more text is whole short version_is count_is records_are some = absurd (some is.2)
so_far Count s given front more text is whole short version_is count_is records_are some = absurd (some is.1)
so_far due s given front more text is whole short version_is count_is records_are some =
    let after : IsAfterSome s front given = after_some due s front given tt is in
    made s given front more text after whole short (version_is ∙ known_version s.version after.after.valid.known) count_is records_are

read_so_far : (text : List ℕ) (p : CaptureProgress) (given : List Record) (fault : Option CaptureFault) → AreBytes text → fault ≡ None → IsRead fields fault p given text → version_of text ≡ version_in p.state.version → count_of text ≡ count_in p.state.due p.state.count → records_of text ≡ given → given ≢ [] → IsCaptureSoFar text
read_so_far text p given (Some fault) all none read version_is count_is records_are some = cc
read_so_far text p given None all none read version_is count_is records_are some =
    so_far p.state.due p.state given (concat read.begins.parts) p.seen text (stands_there text p.state given p.seen all read.begins) read.begins.text_is (omega (arith, read.count, read.short)) version_is count_is records_are some

-- the records of a text without a fault so far are those of a capture
pub records_so_far : (text : List ℕ) → AreBytes text → fault_of text ≡ None → records_of text ≢ [] → IsCaptureSoFar text
unfolding fault_met given_by reading_of version_of count_of
records_so_far text all none some =
    let r : Reading CaptureProgress Record = read_on (step fields) (at_state fields.start 0) text in
    read_so_far text r.last r.given r.last.fault all none (text_read fields lawful text) refl refl refl some
