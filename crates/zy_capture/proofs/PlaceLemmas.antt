-- The bytes up to each field of a capture: what whole fields spell that lead to it.
use Rattle.std.proofs.Common.{◌≡◌, ℕ, ◌+◌, ◌-◌, ◌<◌, ◌≤◌, List, [], ◌∷◌, ◌++◌, length, refl, sym, ◌∙◌, ap, subst}
use Rattle.std.proofs.Common.{arith, append_assoc, length-append}
use Rattle.std.specs.Prelude.{◌==◌, ◌&&◌, nat_lt, flat_map}
use Rattle.std.specs.List.{AllByRecursion}
use Rattle.std.specs.Int.{to_be_bytes, w32}
use Rattle.std.proofs.lemmas.List.{append-nil}
use Rattle.std.proofs.lemmas.Bool.{eqb-true, ltb-false, ltb-true}
use Rattle.std.proofs.lemmas.Nat.{be_bytes_4}
use Rattle.std.proofs.lemmas.Grind.{flat_map-append}
use Rattle.zy_read.specs.Bytes.{AreBytes}
use Rattle.zy_read.specs.declared.magic.MagicPart.{MagicPart}
use Rattle.zy_read.specs.declared.magic.MagicStep.{MagicStep}
use Rattle.zy_read.specs.declared.magic.MagicStep.TheVariants as Steps
use Rattle.zy_read.specs.Magic.{magic_step, IsInMagic, magic_before}
use Rattle.zy_read.proofs.ByteLemmas.{byte_at}
use Rattle.zy_read.proofs.MagicLemmas.{IsVersion, IsKnown, LeadsTo, leads}
use Rattle.zy_read.proofs.MagicFieldLemmas.{one_byte}
use Rattle.zy_read.proofs.RunLemmas.{After, Keeps}
use Rattle.zy_capture.specs.declared.record.Record.{Record}
use Rattle.zy_capture.specs.declared.record.Record.TheVariants as Kinds
use Rattle.zy_capture.specs.declared.due.Due.{Due}
use Rattle.zy_capture.specs.declared.due.Due.TheVariants.{Magic, Count, Tag, Connection, Length, Payload, Closed}
use Rattle.zy_capture.specs.declared.due.Due.TheVariants.{Nothing}
use Rattle.zy_capture.specs.declared.capture_state.CaptureState.{CaptureState}
use Rattle.zy_capture.specs.Capture.{letters, capture_magic, spelled, IsRecordOf, IsCapture, connection_limit}
use Rattle.zy_capture.specs.Capture.{segment_limit}
use Rattle.zy_capture.specs.Capture.{front_text}
use Rattle.zy_capture.specs.Steps.{width, Judgement, number, byte, segment, judge_magic, judged, fields}
use Rattle.zy_capture.proofs.ByteLemmas.{both_true, positive, chosen, assoc_twice}

-- ---- what leads to a field

-- the text is the records of a capture, with what comes before them, and then these bytes
pub record IsAfter (version count : ℕ) (given : List Record) (tail text : List ℕ) : Type 0 where
  pub valid : IsCapture version count given
  pub whole : text ≡ front_text version count given ++ tail

-- the text leads to this field of a capture
abbrev pub IsAt : Due → CaptureState → List ℕ → List Record → Type 0
IsAt (Magic part) s text given =
    IsInMagic part (length text) × IsKnown part × (given ≡ []) × (text ≡ magic_before part letters (length text))
IsAt Count s text given = IsVersion s.version × (given ≡ []) × (text ≡ capture_magic s.version)
IsAt Tag s text given = IsAfter s.version s.count given [] text
IsAt Connection s text given = IsAfter s.version s.count given (83 ∷ []) text
IsAt (Length conn) s text given = IsAfter s.version s.count given (83 ∷ to_be_bytes w32 conn) text × (conn < s.count)
IsAt (Payload conn others) s text given =
    IsAfter s.version s.count given (83 ∷ (to_be_bytes w32 conn ++ to_be_bytes w32 (others + 1))) text
    × (conn < s.count) × (others + 1 ≤ segment_limit)
IsAt Closed s text given = IsAfter s.version s.count given (67 ∷ []) text × (s.version ≡ 2)
IsAt Nothing s text given = IsAfter s.version s.count given (69 ∷ []) text

-- the same, of a state
abbrev pub Stands : CaptureState → List ℕ → List Record → Type 0
Stands s text given = IsAt s.due s text given

-- the text leads on by what a field does
abbrev Goes : List ℕ → List Record → Judgement → Type 0
Goes text given judged = After Stands text given judged

-- ---- fields

-- the bytes of a field of four
pub four_bytes : (field : List ℕ) → AreBytes field → length field ≡ 4 → to_be_bytes w32 (number field) ≡ field
four_bytes field all four = be_bytes_4 field (number field) four (byte_at field all) refl

after_on : (version count : ℕ) (given : List Record) (tail text field longer : List ℕ) → tail ++ field ≡ longer → IsAfter version count given tail text → IsAfter version count given longer (text ++ field)
after_on version count given tail text field longer is after = record {
  valid = after.valid;
  whole = ap (λ (l : List ℕ). l ++ field) after.whole ∙ append_assoc (front_text version count given) tail field ∙ ap (λ (l : List ℕ). front_text version count given ++ l) is;
}

all_on : (version count : ℕ) (given : List Record) (item : Record) → AllByRecursion (IsRecordOf version count) given → IsRecordOf version count item → AllByRecursion (IsRecordOf version count) (given ++ item ∷ [])
all_on version count [] item all one = (one, tt)
all_on version count (first ∷ given) item all one = (all.0, all_on version count given item all.1 one)

-- one further record
front_on : (version count : ℕ) (given : List Record) (item : Record) → front_text version count given ++ spelled item ≡ front_text version count (given ++ item ∷ [])
front_on version count given item =
    assoc_twice (capture_magic version) (to_be_bytes w32 count) (flat_map spelled given) (spelled item)
    ∙ ap (λ (l : List ℕ). capture_magic version ++ (to_be_bytes w32 count ++ l)) (ap (λ (l : List ℕ). flat_map spelled given ++ l) (sym (append-nil (spelled item))) ∙ sym (flat_map-append spelled given (item ∷ [])))

record_on : (version count : ℕ) (given : List Record) (item : Record) (tail text field : List ℕ) → IsRecordOf version count item → tail ++ field ≡ spelled item → IsAfter version count given tail text → IsAfter version count (given ++ item ∷ []) [] (text ++ field)
record_on version count given item tail text field one is after = record {
  valid = record { known = after.valid.known; few = after.valid.few; lawful = all_on version count given item after.valid.lawful one };
  whole = (after_on version count given tail text field (spelled item) is after).whole ∙ front_on version count given item ∙ sym (append-nil (front_text version count (given ++ item ∷ [])));
}

-- ---- a whole field

magic_goes : (s : CaptureState) (at : ℕ) (text : List ℕ) (given : List Record) (m : MagicStep) → length text ≡ at + 1 → given ≡ [] → LeadsTo letters (at + 1) text m → Goes text given (judge_magic s at m)
magic_goes s at text given (Steps.Next part) long none on =
    (subst (IsInMagic part) (sym long) on.0, on.1, none, on.2 ∙ ap (λ (n : ℕ). magic_before part letters n) (sym long))
magic_goes s at text given (Steps.Whole version) long none on = (on.0, none, on.1)
magic_goes s at text given Steps.Wrong long none on = tt

pub from_magic : (part : MagicPart) (s : CaptureState) (text field : List ℕ) (given : List Record) → IsAt (Magic part) s text given → length field ≡ 1 → Goes (text ++ field) given (judged (Magic part) s (length text) field)
from_magic part s text field given is one =
    let at : ℕ = length text in
    let grown : magic_before part letters at ++ byte field ∷ [] ≡ text ++ field = ap (λ (l : List ℕ). l ++ byte field ∷ []) (sym is.3) ∙ ap (λ (l : List ℕ). text ++ l) (sym (one_byte field one)) in
    magic_goes s at (text ++ field) given (magic_step part letters at (byte field)) (omega (arith, length-append text field, one)) is.2
    (subst (λ (l : List ℕ). LeadsTo letters (at + 1) l (magic_step part letters at (byte field))) grown (leads part letters at (byte field) refl is.0 is.1))

from_count : (s : CaptureState) (text field : List ℕ) (given : List Record) → AreBytes field → IsAt Count s text given → length field ≡ 4 → Goes (text ++ field) given (judged Count s (length text) field)
from_count s text field given all is four =
    let n : ℕ = number field in
    chosen (Goes (text ++ field) given) (nat_lt connection_limit n) _ _ (λ over. tt)
    (λ few. subst (λ (l : List Record). IsAfter s.version n l [] (text ++ field)) (sym is.1) (record {
      valid = record { known = is.0; few = ltb-false connection_limit n few; lawful = tt };
      whole = ap (λ (l : List ℕ). l ++ field) is.2 ∙ ap (λ (l : List ℕ). capture_magic s.version ++ l) (sym (four_bytes field all four))
          ∙ ap (λ (l : List ℕ). capture_magic s.version ++ l) (sym (append-nil (to_be_bytes w32 n))) ∙ sym (append-nil (front_text s.version n []));
    }))

from_tag : (s : CaptureState) (text field : List ℕ) (given : List Record) → IsAt Tag s text given → length field ≡ 1 → Goes (text ++ field) given (judged Tag s (length text) field)
from_tag s text field given is one =
    let tag : ℕ = byte field in
    let becomes : (due : ℕ) → tag ≡ due → IsAfter s.version s.count given (due ∷ []) (text ++ field) = λ due same. after_on s.version s.count given [] text field (due ∷ []) (one_byte field one ∙ ap (λ (b : ℕ). b ∷ []) same) is in
    chosen (Goes (text ++ field) given) (tag == 83) _ _ (λ same. becomes 83 (eqb-true tag 83 same))
    (λ no. chosen (Goes (text ++ field) given) (tag == 69) _ _ (λ same. becomes 69 (eqb-true tag 69 same))
    (λ neither. chosen (Goes (text ++ field) given) (tag == 67 && s.version == 2) _ _
    (λ both. let same : (tag ≡ 67) × (s.version ≡ 2) = both_true tag 67 s.version 2 both in (becomes 67 same.0, same.1))
    (λ none. tt)))

from_connection : (s : CaptureState) (text field : List ℕ) (given : List Record) → AreBytes field → IsAt Connection s text given → length field ≡ 4 → Goes (text ++ field) given (judged Connection s (length text) field)
from_connection s text field given all is four =
    let conn : ℕ = number field in
    chosen (Goes (text ++ field) given) (nat_lt conn s.count) _ _
    (λ below. (after_on s.version s.count given (83 ∷ []) text field (83 ∷ to_be_bytes w32 conn) (ap (λ (l : List ℕ). 83 ∷ l) (sym (four_bytes field all four))) is, ltb-true conn s.count below))
    (λ over. tt)

from_length : (conn : ℕ) (s : CaptureState) (text field : List ℕ) (given : List Record) → AreBytes field → IsAt (Length conn) s text given → length field ≡ 4 → Goes (text ++ field) given (judged (Length conn) s (length text) field)
from_length conn s text field given all is four =
    let size : ℕ = number field in
    let tail : List ℕ = 83 ∷ to_be_bytes w32 conn in
    let grown : tail ++ field ≡ tail ++ to_be_bytes w32 size = ap (λ (l : List ℕ). tail ++ l) (sym (four_bytes field all four)) in
    chosen (Goes (text ++ field) given) (nat_lt segment_limit size) _ _ (λ over. tt)
    (λ few. chosen (Goes (text ++ field) given) (size == 0) _ _
    (λ none. record_on s.version s.count given (segment conn []) tail text field (is.1, omega arith)
    (grown ∙ ap (λ (n : ℕ). tail ++ to_be_bytes w32 n) (eqb-true size 0 none) ∙ ap (λ (l : List ℕ). tail ++ l) (sym (append-nil (to_be_bytes w32 0)))) is.0)
    (λ some.
    let whole : size - 1 + 1 ≡ size = omega (arith, positive size some) in
    (after_on s.version s.count given tail text field (tail ++ to_be_bytes w32 (size - 1 + 1)) (grown ∙ ap (λ (n : ℕ). tail ++ to_be_bytes w32 n) (sym whole)) is.0, is.1, omega (arith, whole, ltb-false segment_limit size few))))

from_payload : (conn others : ℕ) (s : CaptureState) (text field : List ℕ) (given : List Record) → IsAt (Payload conn others) s text given → length field ≡ others + 1 → Goes (text ++ field) given (judged (Payload conn others) s (length text) field)
from_payload conn others s text field given is size =
    let tail : List ℕ = 83 ∷ (to_be_bytes w32 conn ++ to_be_bytes w32 (others + 1)) in
    record_on s.version s.count given (segment conn field) tail text field (is.1, omega (arith, size, is.2))
    (ap (λ (l : List ℕ). 83 ∷ l) (append_assoc (to_be_bytes w32 conn) (to_be_bytes w32 (others + 1)) field) ∙ ap (λ (n : ℕ). 83 ∷ (to_be_bytes w32 conn ++ (to_be_bytes w32 n ++ field))) (sym size)) is.0

from_closed : (s : CaptureState) (text field : List ℕ) (given : List Record) → AreBytes field → IsAt Closed s text given → length field ≡ 4 → Goes (text ++ field) given (judged Closed s (length text) field)
from_closed s text field given all is four =
    let conn : ℕ = number field in
    chosen (Goes (text ++ field) given) (nat_lt conn s.count) _ _
    (λ below. record_on s.version s.count given (Kinds.Close conn) (67 ∷ []) text field (is.1, ltb-true conn s.count below) (ap (λ (l : List ℕ). 67 ∷ l) (sym (four_bytes field all four))) is.0)
    (λ over. tt)

field_keeps : (due : Due) (s : CaptureState) (text field : List ℕ) (given : List Record) → AreBytes field → IsAt due s text given → length field ≡ width due → Goes (text ++ field) given (judged due s (length text) field)
field_keeps (Magic part) s text field given all is size = from_magic part s text field given is size
field_keeps Count s text field given all is size = from_count s text field given all is size
field_keeps Tag s text field given all is size = from_tag s text field given is size
field_keeps Connection s text field given all is size = from_connection s text field given all is size
field_keeps (Length conn) s text field given all is size = from_length conn s text field given all is size
field_keeps (Payload conn others) s text field given all is size = from_payload conn others s text field given is size
field_keeps Closed s text field given all is size = from_closed s text field given all is size
field_keeps Nothing s text field given all is size = tt

-- each whole field leads on
pub keeps : Keeps fields AreBytes Stands
keeps s text field given all is size = field_keeps s.due s text field given all is size
