-- The fields that spell a capture, and where they lead.
use Rattle.std.proofs.Common.{◌≡◌, ℕ, ◌+◌, ◌-◌, ◌<◌, ◌≤◌, ◌^◌, false, List, [], ◌∷◌, ◌++◌, length, refl, sym, ◌∙◌, ap, subst, arith}
use Rattle.std.specs.Prelude.{◌==◌, flat_map}
use Rattle.std.specs.List.{AllByRecursion}
use Rattle.std.specs.Int.{to_be_bytes, w32}
use Rattle.std.proofs.lemmas.List.{append-nil}
use Rattle.std.proofs.lemmas.Bool.{lt-ltb, le-ltb}
use Rattle.std.proofs.lemmas.Bool.Decides.{nat_tests}
use Rattle.std.proofs.lemmas.Nat.{from_be_bytes-to_be_bytes_4}
use Rattle.zy_read.specs.declared.magic.MagicPart.{MagicPart}
use Rattle.zy_read.specs.Magic.{ReadsMagic}
use Rattle.zy_read.specs.Fields.Judged.{Then, Gives}
use Rattle.zy_read.proofs.MagicFieldLemmas.{magic_over}
use Rattle.zy_read.specs.Runs.{RunsOver}
use Rattle.zy_read.proofs.OverLemmas.{over_none, over_then, over_gives, over_join}
use Rattle.zy_capture.specs.declared.record.Record.{Record}
use Rattle.zy_capture.specs.declared.record.Record.TheVariants as Kinds
use Rattle.zy_capture.specs.declared.capture_fault.CaptureFault.TheVariants.{BadMagic}
use Rattle.zy_capture.specs.declared.due.Due.TheVariants.{Magic, Count, Tag, Connection, Length, Payload, Closed}
use Rattle.zy_capture.specs.declared.capture_state.CaptureState.{CaptureState}
use Rattle.zy_capture.specs.Capture.{letters, capture_magic, spelled, IsRecordOf, IsCapture, connection_limit, segment_limit}
use Rattle.zy_capture.specs.Capture.{front_text}
use Rattle.zy_capture.specs.Steps.{state, start, to, number, segment, judge_count, judge_connection, judge_length, judge_closed, judged, fields}

-- whole fields of a capture lead from a state to a state, and give these records
abbrev pub Over : CaptureState → ℕ → List ℕ → CaptureState → List Record → Type 0
Over s at text last given = RunsOver fields s at text last given

-- ---- one field

pub number_is : (n : ℕ) → n < 2 ^ 32 → number (to_be_bytes w32 n) ≡ n
number_is n small = from_be_bytes-to_be_bytes_4 n small

pub connection_judged : (s : CaptureState) (at conn : ℕ) → conn < s.count → s.count ≤ connection_limit → judged Connection s at (to_be_bytes w32 conn) ≡ Then (to s (Length conn))
connection_judged s at conn below few = ap (λ (n : ℕ). judge_connection s at n) (number_is conn (omega (arith, below, few))) ∙ rw (lt-ltb conn s.count below) refl

closed_judged : (s : CaptureState) (at conn : ℕ) → conn < s.count → s.count ≤ connection_limit → judged Closed s at (to_be_bytes w32 conn) ≡ Gives (to s Tag) (Kinds.Close conn)
closed_judged s at conn below few = ap (λ (n : ℕ). judge_closed s at n) (number_is conn (omega (arith, below, few))) ∙ rw (lt-ltb conn s.count below) refl

zero_no : (n : ℕ) → 0 < n → (n == 0) ≡ false
zero_no n some = grind (arith, nat_tests)

length_judged : (s : CaptureState) (at conn size : ℕ) (sizes : List ℕ) → number sizes ≡ size → 0 < size → size ≤ segment_limit → judged (Length conn) s at sizes ≡ Then (to s (Payload conn (size - 1)))
length_judged s at conn size sizes is some few = ap (λ (n : ℕ). judge_length s conn at n) is ∙ rw (le-ltb segment_limit size few, zero_no size some) refl

count_judged : (s : CaptureState) (at count : ℕ) → count ≤ connection_limit → judged Count s at (to_be_bytes w32 count) ≡ Then (state Tag s.version count)
count_judged s at count few = ap (λ (n : ℕ). judge_count s n) (number_is count (omega (arith, few))) ∙ rw (le-ltb connection_limit count few) refl

-- ---- records

-- the length of a segment, and its bytes
pub rest_over : (version count at conn : ℕ) (sizes bytes : List ℕ) → length sizes ≡ 4 → number sizes ≡ length bytes → length bytes ≤ segment_limit
    → Over (state (Length conn) version count) at (sizes ++ bytes) (state Tag version count) (segment conn bytes ∷ [])
rest_over version count at conn sizes [] four is short =
    let l : CaptureState = state (Length conn) version count in
    subst (λ (t : List ℕ). Over l at t (state Tag version count) (segment conn [] ∷ [])) (sym (append-nil sizes))
    (over_gives fields l (state Tag version count) (segment conn []) at sizes four (ap (λ (n : ℕ). judge_length l conn at n) is))
rest_over version count at conn sizes (byte ∷ bytes) four is short =
    let size : ℕ = length (byte ∷ bytes) in
    let l : CaptureState = state (Length conn) version count in
    let p : CaptureState = state (Payload conn (size - 1)) version count in
    over_join fields l p (state Tag version count) at sizes (byte ∷ bytes) [] (segment conn (byte ∷ bytes) ∷ []) (over_then fields l p at sizes four (length_judged l at conn size sizes is (omega arith) short))
    (over_gives fields p (state Tag version count) (segment conn (byte ∷ bytes)) (at + length sizes) (byte ∷ bytes) (omega arith) refl)

-- the tag of a segment, and its connection
pub conn_over : (version count at conn : ℕ) → conn < count → count ≤ connection_limit → Over (state Tag version count) at (83 ∷ to_be_bytes w32 conn) (state (Length conn) version count) []
conn_over version count at conn below few =
    let t : CaptureState = state Tag version count in
    let c : CaptureState = state Connection version count in
    let l : CaptureState = state (Length conn) version count in
    over_join fields t c l at (83 ∷ []) (to_be_bytes w32 conn) [] [] (over_then fields t c at (83 ∷ []) refl refl) (over_then fields c l (at + 1) (to_be_bytes w32 conn) refl (connection_judged c (at + 1) conn below few))

record_over : (item : Record) (version count at : ℕ) → IsRecordOf version count item → count ≤ connection_limit → Over (state Tag version count) at (spelled item) (state Tag version count) (item ∷ [])
record_over (Kinds.Segment s) version count at is few =
    let conn : List ℕ = 83 ∷ to_be_bytes w32 s.conn in
    over_join fields (state Tag version count) (state (Length s.conn) version count) (state Tag version count) at conn (to_be_bytes w32 (length s.bytes) ++ s.bytes) [] (Kinds.Segment s ∷ [])
    (conn_over version count at s.conn is.0 few)
    (rest_over version count (at + length conn) s.conn (to_be_bytes w32 (length s.bytes)) s.bytes refl (number_is (length s.bytes) (let short = is.1 in omega arith)) is.1)
record_over (Kinds.Close conn) version count at is few =
    let t : CaptureState = state Tag version count in
    let c : CaptureState = state Closed version count in
    over_join fields t c t at (67 ∷ []) (to_be_bytes w32 conn) [] (Kinds.Close conn ∷ []) (over_then fields t c at (67 ∷ []) refl (rw is.0 refl))
    (over_gives fields c t (Kinds.Close conn) (at + 1) (to_be_bytes w32 conn) refl (closed_judged c (at + 1) conn is.1 few))

records_over : (items : List Record) (version count at : ℕ) → AllByRecursion (IsRecordOf version count) items → count ≤ connection_limit → Over (state Tag version count) at (flat_map spelled items) (state Tag version count) items
records_over [] version count at all few = over_none fields (state Tag version count) at
records_over (item ∷ items) version count at all few =
    over_join fields (state Tag version count) (state Tag version count) (state Tag version count) at (spelled item) (flat_map spelled items) (item ∷ []) items
    (record_over item version count at all.0 few) (records_over items version count (at + length (spelled item)) all.1 few)

-- ---- what comes before the records

-- the state at a part of the magic
abbrev pub part_state : MagicPart → CaptureState
part_state part = state (Magic part) 0 0

-- the state after the magic of a version
abbrev pub after_state : ℕ → CaptureState
after_state version = state Count version 0

pub reads_magic : ReadsMagic fields letters part_state after_state BadMagic
reads_magic = record { six = refl; start_is = refl; widths = λ part. refl; judges = λ part at byte. refl; room = omega arith }

pub head_over : (version count : ℕ) (items : List Record) → IsCapture version count items → Over start 0 (capture_magic version ++ to_be_bytes w32 count) (state Tag version count) []
head_over version count items valid =
    over_join fields start (after_state version) (state Tag version count) 0 (capture_magic version) (to_be_bytes w32 count) [] [] (magic_over fields letters part_state after_state BadMagic reads_magic version valid.known)
    (over_then fields (after_state version) (state Tag version count) 8 (to_be_bytes w32 count) refl (count_judged (after_state version) 8 count valid.few))

pub front_over : (version count : ℕ) (items : List Record) → IsCapture version count items → Over start 0 (front_text version count items) (state Tag version count) items
front_over version count items valid =
    over_join fields start (state Tag version count) (state Tag version count) 0 (capture_magic version ++ to_be_bytes w32 count) (flat_map spelled items) [] items
    (head_over version count items valid) (records_over items version count 12 valid.lawful valid.few)

-- the records of a capture, and further fields
pub then_over : (version count : ℕ) (items : List Record) (tail : List ℕ) (last : CaptureState) → IsCapture version count items → Over (state Tag version count) (0 + length (front_text version count items)) tail last [] → Over start 0 (front_text version count items ++ tail) last items
then_over version count items tail last valid over =
    subst (λ (l : List Record). Over start 0 (front_text version count items ++ tail) last l) (append-nil items)
    (over_join fields start (state Tag version count) last 0 (front_text version count items) tail items [] (front_over version count items valid) over)
