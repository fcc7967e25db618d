-- A field of a capture that is wrong is a fault of the text.
use Rattle.std.proofs.Common.{ℕ, ◌<◌, ◌^◌, List, arith, ◌≡◌, ◌⊎◌, inl, inr, ◌+◌, ◌≤◌, true, false, [], ◌∷◌, ◌++◌}
use Rattle.std.proofs.Common.{length, refl, sym, ◌∙◌, ap, subst, append_assoc, length-append}
use Rattle.zy_read.specs.Bytes.{AreBytes}
use Rattle.zy_read.proofs.ByteLemmas.{byte_at, bytes_front, bytes_back}
use Rattle.zy_capture.specs.Steps.{number, width, is_nothing, Judgement, byte, judge_magic, judge_tag, judged, fields}
use Rattle.std.specs.Prelude.{◌==◌, ◌&&◌, nat_lt}
use Rattle.std.specs.List.{concat}
use Rattle.std.specs.Int.{to_be_bytes, w32}
use Rattle.std.proofs.lemmas.Bool.{ltb-false, ltb-true}
use Rattle.std.proofs.lemmas.Bool.Decides.{nat_tests}
use Rattle.zy_read.specs.declared.magic.MagicPart.{MagicPart}
use Rattle.zy_read.specs.declared.magic.MagicStep.{MagicStep}
use Rattle.zy_read.specs.declared.magic.MagicStep.TheVariants as Steps
use Rattle.zy_read.specs.Magic.{magic_step}
use Rattle.zy_read.specs.Fields.Judged.{Wrong}
use Rattle.zy_read.specs.Runs.{IsMisjudged}
use Rattle.zy_read.proofs.MagicFieldLemmas.{one_byte}
use Rattle.format_laws.proofs.MagicLemmas.{bad_magic}
use Rattle.zy_capture.specs.declared.record.Record.{Record}
use Rattle.zy_capture.specs.declared.capture_fault.CaptureFault.{CaptureFault}
use Rattle.zy_capture.specs.declared.capture_fault.CaptureFault.TheVariants.{BadMagic, ConnCount, BadTag, ConnRange}
use Rattle.zy_capture.specs.declared.capture_fault.CaptureFault.TheVariants.{SegmentLength, Trailing}
use Rattle.zy_capture.specs.declared.due.Due.{Due}
use Rattle.zy_capture.specs.declared.due.Due.TheVariants.{Magic, Count, Tag, Connection, Length, Payload, Closed}
use Rattle.zy_capture.specs.declared.due.Due.TheVariants.{Nothing}
use Rattle.zy_capture.specs.declared.capture_state.CaptureState.{CaptureState}
use Rattle.zy_capture.specs.Capture.{letters, capture_magic, spelling, capture_limit, connection_limit, segment_limit}
use Rattle.zy_capture.specs.Capture.{front_text}
use Rattle.format_laws.specs.CaptureFaults.{CaptureGoesOn, IsConnectionOver, IsWrongCapture}
use Rattle.zy_capture.proofs.ByteLemmas.{chosen}
use Rattle.zy_capture.proofs.PlaceLemmas.{IsAfter, IsAt, four_bytes}
use Rattle.zy_capture.proofs.WholeLemmas.{stands_there, ends_spelling}

-- ---- fields

pub small_number : (field : List ℕ) → AreBytes field → number field < 2 ^ 32
small_number field all = omega (arith, byte_at field all 0, byte_at field all 1, byte_at field all 2, byte_at field all 3)

-- ---- a field that is wrong

-- what a field does means that the text has the fault
abbrev Faults : List ℕ → CaptureFault → Judgement → Type 0
Faults text fault judged = judged ≡ Wrong fault → IsWrongCapture text fault

told : (text : List ℕ) (found fault : CaptureFault) → IsWrongCapture text found → Faults text fault (Wrong found)
told text found fault has is = let same : found ≡ fault = cc in subst (λ (f : CaptureFault). IsWrongCapture text f) same has

-- a byte of the magic that is wrong
magic_wrong : (part : MagicPart) (s : CaptureState) (front rest : List ℕ) (given : List Record) (b : ℕ) (fault : CaptureFault) (m : MagicStep) → magic_step part letters (length front) b ≡ m → IsAt (Magic part) s front given → Faults (front ++ b ∷ rest) fault (judge_magic s (length front) m)
magic_wrong part s front rest given b fault (Steps.Next next) step is = λ none. cc
magic_wrong part s front rest given b fault (Steps.Whole version) step is = λ none. cc
magic_wrong part s front rest given b fault Steps.Wrong step is =
    told (front ++ b ∷ rest) (BadMagic (length front)) fault (bad_magic part letters (front ++ b ∷ rest) front rest b refl refl is.3 is.0 is.1 step)

count_wrong : (s : CaptureState) (front field rest : List ℕ) (given : List Record) (fault : CaptureFault) → AreBytes field → IsAt Count s front given → length field ≡ 4 → Faults (front ++ (field ++ rest)) fault (judged Count s (length front) field)
count_wrong s front field rest given fault all is four =
    let n : ℕ = number field in
    chosen (Faults (front ++ (field ++ rest)) fault) (nat_lt connection_limit n) _ _
    (λ over. told (front ++ (field ++ rest)) (ConnCount n) fault (record {
      version = s.version;
      rest = rest;
      known = is.0;
      whole = ap (λ (l : List ℕ). l ++ (field ++ rest)) is.2 ∙ ap (λ (l : List ℕ). capture_magic s.version ++ (l ++ rest)) (sym (four_bytes field all four));
      over = ltb-true connection_limit n over;
      fits = small_number field all;
    }))
    (λ few none. cc)

-- a text goes on after the records of a capture
goes_on : (version count : ℕ) (given : List Record) (tail front after : List ℕ) → IsAfter version count given tail front → CaptureGoesOn (front ++ after) version count given (length (front_text version count given)) (tail ++ after)
goes_on version count given tail front after is = record {
  valid = is.valid;
  whole = ap (λ (l : List ℕ). l ++ after) is.whole ∙ append_assoc (front_text version count given) tail after;
  place = refl;
}

after_size : (version count : ℕ) (given : List Record) (tail front : List ℕ) → IsAfter version count given tail front → length front ≡ length (front_text version count given) + length tail
after_size version count given tail front is = ap (λ (l : List ℕ). length l) is.whole ∙ length-append (front_text version count given) tail

tag_wrong : (s : CaptureState) (front rest : List ℕ) (given : List Record) (b : ℕ) (fault : CaptureFault) → IsAt Tag s front given → length front + 1 ≤ capture_limit → Faults (front ++ b ∷ rest) fault (judge_tag s (length front) b)
tag_wrong s front rest given b fault is room =
    let size = after_size s.version s.count given [] front is in
    chosen (Faults (front ++ b ∷ rest) fault) (b == 83) _ _ (λ yes none. cc)
    (λ segment_not. chosen (Faults (front ++ b ∷ rest) fault) (b == 69) _ _ (λ yes none. cc)
    (λ end_not. chosen (Faults (front ++ b ∷ rest) fault) (b == 67 && s.version == 2) _ _ (λ yes none. cc)
    (λ close_not. told (front ++ b ∷ rest) (BadTag (length front) b) fault (record {
      version = s.version;
      count = s.count;
      items = given;
      rest = rest;
      front = record {
        valid = is.valid;
        whole = (goes_on s.version s.count given [] front (b ∷ rest) is).whole;
        place = omega (arith, size);
      };
      no_segment = λ e. grind (arith, nat_tests);
      no_end = λ e. grind (arith, nat_tests);
      no_close = λ e f. grind (arith, nat_tests);
      within = omega (arith, room);
    }))))

-- a connection that is not below the count
range_wrong : (s : CaptureState) (front field rest : List ℕ) (given : List Record) (tag : ℕ) → AreBytes field → IsAfter s.version s.count given (tag ∷ []) front → length field ≡ 4 → (tag ≡ 83) ⊎ ((tag ≡ 67) × (s.version ≡ 2))
    → length front + 4 ≤ capture_limit → s.count ≤ number field → IsConnectionOver (front ++ (field ++ rest)) (length front) (number field)
range_wrong s front field rest given tag all is four known room over =
    let size = after_size s.version s.count given (tag ∷ []) front is in
    record {
      version = s.version;
      count = s.count;
      items = given;
      tag_at = length (front_text s.version s.count given);
      tag = tag;
      rest = rest;
      front = subst (λ (l : List ℕ). CaptureGoesOn (front ++ (field ++ rest)) s.version s.count given (length (front_text s.version s.count given)) (tag ∷ (l ++ rest))) (sym (four_bytes field all four))
          (goes_on s.version s.count given (tag ∷ []) front (field ++ rest) is);
      known = known;
      place = size;
      over = over;
      fits = small_number field all;
      within = omega (arith, room);
    }

connection_wrong : (s : CaptureState) (front field rest : List ℕ) (given : List Record) (fault : CaptureFault) → AreBytes field → IsAt Connection s front given → length field ≡ 4 → length front + 4 ≤ capture_limit → Faults (front ++ (field ++ rest)) fault (judged Connection s (length front) field)
connection_wrong s front field rest given fault all is four room =
    let n : ℕ = number field in
    chosen (Faults (front ++ (field ++ rest)) fault) (nat_lt n s.count) _ _ (λ below none. cc)
    (λ over. told (front ++ (field ++ rest)) (ConnRange (length front) n) fault (range_wrong s front field rest given 83 all is four (inl refl) room (ltb-false n s.count over)))

closed_wrong : (s : CaptureState) (front field rest : List ℕ) (given : List Record) (fault : CaptureFault) → AreBytes field → IsAt Closed s front given → length field ≡ 4 → length front + 4 ≤ capture_limit → Faults (front ++ (field ++ rest)) fault (judged Closed s (length front) field)
closed_wrong s front field rest given fault all is four room =
    let n : ℕ = number field in
    chosen (Faults (front ++ (field ++ rest)) fault) (nat_lt n s.count) _ _ (λ below none. cc)
    (λ over. told (front ++ (field ++ rest)) (ConnRange (length front) n) fault (range_wrong s front field rest given 67 all is.0 four (inr (refl, is.1)) room (ltb-false n s.count over)))

length_wrong : (conn : ℕ) (s : CaptureState) (front field rest : List ℕ) (given : List Record) (fault : CaptureFault) → AreBytes field → IsAt (Length conn) s front given → length field ≡ 4 → length front + 4 ≤ capture_limit → Faults (front ++ (field ++ rest)) fault (judged (Length conn) s (length front) field)
length_wrong conn s front field rest given fault all is four room =
    let n : ℕ = number field in
    let text : List ℕ = front ++ (field ++ rest) in
    let size = after_size s.version s.count given (83 ∷ to_be_bytes w32 conn) front is.0 in
    chosen (Faults text fault) (nat_lt segment_limit n) _ _
    (λ over. told text (SegmentLength (length front) n) fault (record {
      version = s.version;
      count = s.count;
      items = given;
      tag_at = length (front_text s.version s.count given);
      conn = conn;
      rest = rest;
      front = subst (λ (l : List ℕ). CaptureGoesOn text s.version s.count given (length (front_text s.version s.count given)) (83 ∷ (to_be_bytes w32 conn ++ (l ++ rest)))) (sym (four_bytes field all four))
          (goes_on s.version s.count given (83 ∷ to_be_bytes w32 conn) front (field ++ rest) is.0);
      below = is.1;
      place = size;
      over = ltb-true segment_limit n over;
      fits = small_number field all;
      within = omega (arith, room);
    }))
    (λ few. chosen (Faults text fault) (n == 0) _ _ (λ zero_is none. cc) (λ some none. cc))

-- a byte after the end
end_wrong : (s : CaptureState) (front rest : List ℕ) (given : List Record) (b : ℕ) (fault : CaptureFault) → IsAt Nothing s front given → length front ≤ capture_limit → Faults (front ++ b ∷ rest) fault (Wrong (Trailing (length front)))
end_wrong s front rest given b fault is short =
    let spelt : front ≡ spelling s.version s.count given = is.whole ∙ ends_spelling s.version s.count given in
    told (front ++ b ∷ rest) (Trailing (length front)) fault (record {
      version = s.version;
      count = s.count;
      items = given;
      byte = b;
      rest = rest;
      valid = is.valid;
      whole = ap (λ (l : List ℕ). l ++ b ∷ rest) spelt;
      place = ap (λ (l : List ℕ). length l) spelt;
      within = short;
    })

-- ---- all fields

-- there is room for a field that is not the end
room_for : (due : Due) (count size : ℕ) → is_nothing due ≡ false → (is_nothing due ≡ true) ⊎ (count ≤ capture_limit) → count ≡ size → size ≤ capture_limit
room_for due count size still (inl end_is) same = cc
room_for due count size still (inr few) same = omega (arith, few, same)

-- a field of one byte, in front of the rest
one_text : (front field rest : List ℕ) → length field ≡ 1 → front ++ byte field ∷ rest ≡ front ++ (field ++ rest)
one_text front field rest one = ap (λ (l : List ℕ). front ++ (l ++ rest)) (sym (one_byte field one))

field_wrong : (due : Due) (s : CaptureState) (front field rest : List ℕ) (given : List Record) (fault : CaptureFault) → AreBytes field → IsAt due s front given → length field ≡ width due → length front ≤ capture_limit
    → (is_nothing due ≡ true) ⊎ (length front + length field ≤ capture_limit) → Faults (front ++ (field ++ rest)) fault (judged due s (length front) field)
field_wrong (Magic part) s front field rest given fault all is size short room =
    subst (λ (l : List ℕ). Faults l fault (judged (Magic part) s (length front) field)) (one_text front field rest size) (magic_wrong part s front rest given (byte field) fault (magic_step part letters (length front) (byte field)) refl is)
field_wrong Count s front field rest given fault all is size short room = count_wrong s front field rest given fault all is size
field_wrong Tag s front field rest given fault all is size short room =
    subst (λ (l : List ℕ). Faults l fault (judged Tag s (length front) field)) (one_text front field rest size) (tag_wrong s front rest given (byte field) fault is (room_for Tag (length front + length field) (length front + 1) refl room (omega (arith, size))))
field_wrong Connection s front field rest given fault all is size short room =
    connection_wrong s front field rest given fault all is size (room_for Connection (length front + length field) (length front + 4) refl room (omega (arith, size)))
field_wrong (Length conn) s front field rest given fault all is size short room =
    length_wrong conn s front field rest given fault all is size (room_for (Length conn) (length front + length field) (length front + 4) refl room (omega (arith, size)))
field_wrong (Payload conn more) s front field rest given fault all is size short room = λ none. cc
field_wrong Closed s front field rest given fault all is size short room =
    closed_wrong s front field rest given fault all is size (room_for Closed (length front + length field) (length front + 4) refl room (omega (arith, size)))
field_wrong Nothing s front field rest given fault all is size short room =
    subst (λ (l : List ℕ). Faults l fault (judged Nothing s (length front) field)) (one_text front field rest size) (end_wrong s front rest given (byte field) fault is short)

-- a text with a wrong field has its fault
pub misjudged_wrong : (text : List ℕ) (s : CaptureState) (fault : CaptureFault) → AreBytes text → IsMisjudged fields text s fault → IsWrongCapture text fault
misjudged_wrong text s fault all has =
    let front : List ℕ = concat has.begins.parts in
    let bytes : AreBytes (has.field ++ has.rest) = bytes_back front (has.field ++ has.rest) (subst AreBytes has.begins.text_is all) in
    subst (λ (l : List ℕ). IsWrongCapture l fault) (sym has.begins.text_is)
    (field_wrong s.due s front has.field has.rest has.given fault (bytes_front has.field has.rest bytes) (stands_there text s has.given (has.field ++ has.rest) all has.begins) has.size has.begins.short has.room has.wrong)
