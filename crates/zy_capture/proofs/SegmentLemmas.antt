-- A segment that bytes hold whole, fed at once, and the records with which bytes begin.
use Rattle.std.proofs.Common.{◌≡◌, ℕ, ◌+◌, ◌<◌, ◌≤◌, ◌^◌, List, [], ◌∷◌, ◌++◌, length, take, drop, get_or, refl, sym, ◌∙◌, ap, subst, inl, inr, arith, take-add, length-append}
use Rattle.std.specs.Prelude.{◌⊎◌, Option, None}
use Rattle.std.specs.List.{concat}
use Rattle.std.proofs.lemmas.List.{append-nil, length-take-le, length-drop, take-append-drop}
use Rattle.std.proofs.lemmas.Nat.{be_bytes_4, from_be_bytes-to_be_bytes_4}
use Rattle.std.specs.Int.{to_be_bytes, w32}
use Rattle.zy_read.specs.Bytes.{AreBytes}
use Rattle.zy_read.proofs.ByteLemmas.{byte_at}
use Rattle.zy_read.specs.Format.{read_on}
use Rattle.zy_read.specs.Standing.{Feeds, MeetsFault}
use Rattle.zy_read.specs.Fields.{at_state, step}
use Rattle.zy_read.proofs.Feeding.{fed_by, met_by}
use Rattle.zy_read.proofs.FieldLemmas.{runs_read}
use Rattle.zy_read.proofs.OverLemmas.{over_join}
use Rattle.zy_capture.specs.declared.record.Record.{Record}
use Rattle.zy_capture.specs.declared.record.Record.TheVariants as Kinds
use Rattle.zy_capture.specs.declared.capture_fault.CaptureFault.{CaptureFault}
use Rattle.zy_capture.specs.declared.due.Due.{Due}
use Rattle.zy_capture.specs.declared.due.Due.TheVariants.{Tag, Length}
use Rattle.zy_capture.specs.declared.capture_state.CaptureState.{CaptureState}
use Rattle.zy_capture.specs.Capture.{spelled, capture_limit, segment_limit}
use Rattle.zy_capture.specs.Steps.{CaptureProgress, to, number, segment, fields, headed}
use Rattle.zy_capture.specs.Standing.{IsLengthEnd, IsWithinBy, seen_of}
use Rattle.zy_capture.specs.Whole.{BeginsWithRecord, HasLength, front_conn, front_size, HoldsSegment, TakesSegment}
use Rattle.zy_capture.specs.Verdict.{captures}
use Rattle.zy_capture.proofs.PartLemmas.{Over, rest_over}
use Rattle.zy_capture.proofs.WholeLemmas.{lawful}
use Rattle.zy_capture.proofs.HeadLemmas.{conn_leads, plain, head_fed}

-- ---- bytes by their places

nine : (l : List ℕ) → 9 ≤ length l → l ≡ get_or l 0 0 ∷ get_or l 1 0 ∷ get_or l 2 0 ∷ get_or l 3 0 ∷ get_or l 4 0 ∷ get_or l 5 0 ∷ get_or l 6 0 ∷ get_or l 7 0 ∷ get_or l 8 0 ∷ drop 9 l
nine (a ∷ b ∷ c ∷ d ∷ e ∷ f ∷ g ∷ h ∷ i ∷ l) long = refl
nine [] long = absurd (omega (arith, long))
nine (a ∷ []) long = absurd (omega (arith, long))
nine (a ∷ b ∷ []) long = absurd (omega (arith, long))
nine (a ∷ b ∷ c ∷ []) long = absurd (omega (arith, long))
nine (a ∷ b ∷ c ∷ d ∷ []) long = absurd (omega (arith, long))
nine (a ∷ b ∷ c ∷ d ∷ e ∷ []) long = absurd (omega (arith, long))
nine (a ∷ b ∷ c ∷ d ∷ e ∷ f ∷ []) long = absurd (omega (arith, long))
nine (a ∷ b ∷ c ∷ d ∷ e ∷ f ∷ g ∷ []) long = absurd (omega (arith, long))
nine (a ∷ b ∷ c ∷ d ∷ e ∷ f ∷ g ∷ h ∷ []) long = absurd (omega (arith, long))

-- the connection and the length of a segment with which bytes begin, as they are spelled
abbrev conn_bytes : List ℕ → List ℕ
conn_bytes bytes = get_or bytes 1 0 ∷ get_or bytes 2 0 ∷ get_or bytes 3 0 ∷ get_or bytes 4 0 ∷ []

abbrev size_bytes : List ℕ → List ℕ
size_bytes bytes = get_or bytes 5 0 ∷ get_or bytes 6 0 ∷ get_or bytes 7 0 ∷ get_or bytes 8 0 ∷ []

abbrev head_text : List ℕ → List ℕ
head_text bytes = (83 ∷ conn_bytes bytes) ++ size_bytes bytes

head_is : (bytes : List ℕ) (conn size : ℕ) → HoldsSegment bytes conn size → bytes ≡ head_text bytes ++ drop 9 bytes
head_is bytes conn size h = nine bytes (let whole = h.whole in omega arith) ∙ ap (λ (n : ℕ). n ∷ (conn_bytes bytes ++ (size_bytes bytes ++ drop 9 bytes))) h.tag

-- the bytes up to its end
held_text : (bytes : List ℕ) (conn size : ℕ) → HoldsSegment bytes conn size → take (9 + size) bytes ≡ (83 ∷ conn_bytes bytes) ++ (size_bytes bytes ++ take size (drop 9 bytes))
held_text bytes conn size h =
    take-add 9 size bytes ∙ ap (λ (l : List ℕ). take 9 l ++ take size (drop 9 bytes)) (head_is bytes conn size h)

-- ---- a lawful segment

-- its fields lead back to the tag of a record, and give it
segment_leads : (s : CaptureState) (at size : ℕ) (conn sizes payload : List ℕ) → s.due ≡ Tag → length conn ≡ 4 → length sizes ≡ 4 → number conn < s.count → number sizes ≡ size → size ≤ segment_limit → length payload ≡ size
    → Over s at ((83 ∷ conn) ++ (sizes ++ payload)) (to s Tag) (segment (number conn) payload ∷ [])
segment_leads s at size conn sizes payload is four four_more known size_is few long =
    over_join fields s (to s (Length (number conn))) (to s Tag) at (83 ∷ conn) (sizes ++ payload) [] (segment (number conn) payload ∷ []) (conn_leads s at conn is four known)
    (rest_over s.version s.count (at + length (83 ∷ conn)) (number conn) sizes payload four_more (size_is ∙ sym long) (omega (arith, long, few)))

segment_read : (s : CaptureState) (at size : ℕ) (conn sizes payload : List ℕ) → s.due ≡ Tag → length conn ≡ 4 → length sizes ≡ 4 → number conn < s.count → number sizes ≡ size → size ≤ segment_limit → length payload ≡ size → at + (9 + size) ≤ capture_limit
    → read_on (step fields) (at_state s at) ((83 ∷ conn) ++ (sizes ++ payload)) ≡ record { given = segment (number conn) payload ∷ []; last = at_state (to s Tag) (at + (9 + size)) }
unfolding read_on
segment_read s at size conn sizes payload is four four_more known size_is few long room =
    let over : Over s at ((83 ∷ conn) ++ (sizes ++ payload)) (to s Tag) (segment (number conn) payload ∷ []) = segment_leads s at size conn sizes payload is four four_more known size_is few long in
    let whole : length (concat over.parts) ≡ 9 + size = omega (arith, ap (λ (l : List ℕ). length l) over.text_is, length-append (83 ∷ conn) (sizes ++ payload), length-append sizes payload, four, four_more, long) in
    ap (λ (l : List ℕ). read_on (step fields) (at_state s at) l) (sym over.text_is ∙ sym (append-nil (concat over.parts)))
    ∙ runs_read fields lawful over.parts s (to s Tag) at (at + (9 + size)) (segment (number conn) payload ∷ []) [] (omega (arith, whole)) room over.runs

-- a reader that expects a tag, and has met no fault, keeps no byte
pub at_tag : (due : Due) (fault : Option CaptureFault) (at : ℕ) (field payload : List ℕ) (room : ℕ) → due ≡ Tag → fault ≡ None → IsWithinBy fault due at field payload room → seen_of due field payload ≡ []
at_tag due fault at field payload room is none within =
    subst (λ (d : Due). seen_of d field payload ≡ []) (sym is)
    (subst (λ (f : Option CaptureFault). IsWithinBy f Tag at field payload room) none (subst (λ (d : Due). IsWithinBy fault d at field payload room) is within))

-- the place after it
place_after : (p : CaptureProgress) (at : ℕ) → p.state.due ≡ Tag → p.fault ≡ None → p.seen ≡ [] → record p { at = at } ≡ at_state (to p.state Tag) at
place_after p at due none empty =
    ap (λ o. record { state = p.state; seen = p.seen; at = at; fault = o }) none ∙ ap (λ l. record { state = p.state; seen = l; at = at; fault = None }) empty
    ∙ ap (λ d. record { state = to p.state d; seen = []; at = at; fault = None }) due

-- it is fed
pub segment_fed : (p q : CaptureProgress) (bytes payload : List ℕ) (conn size : ℕ) → TakesSegment p bytes conn size → p.seen ≡ [] → payload ≡ take size (drop 9 bytes) → q ≡ record p { at = p.at + (9 + size) }
    → Feeds captures p q (take (9 + size) bytes) (segment conn payload ∷ [])
segment_fed p q bytes payload conn size t empty is same =
    let h = t.holds in
    let known : number (conn_bytes bytes) < p.state.count = subst (λ (n : ℕ). n < p.state.count) h.conn_is t.known in
    let long : length payload ≡ size = ap (λ (l : List ℕ). length l) is ∙ length-take-le size (drop 9 bytes) (let whole = h.whole in omega (arith, length-drop 9 bytes)) in
    let reads = segment_read p.state p.at size (conn_bytes bytes) (size_bytes bytes) payload t.due refl refl known (sym h.size_is) t.few long t.room in
    fed_by captures p q (take (9 + size) bytes) (segment conn payload ∷ [])
    (ap (λ (l : List ℕ). read_on (step fields) p l) (held_text bytes conn size h ∙ ap (λ (l : List ℕ). (83 ∷ conn_bytes bytes) ++ (size_bytes bytes ++ l)) (sym is))
    ∙ ap (λ (x : CaptureProgress). read_on (step fields) x ((83 ∷ conn_bytes bytes) ++ (size_bytes bytes ++ payload))) (plain p t.none empty)
    ∙ reads
    ∙ ap (λ (n : ℕ). record { given = segment n payload ∷ []; last = at_state (to p.state Tag) (p.at + (9 + size)) }) (sym h.conn_is)
    ∙ ap (λ (x : CaptureProgress). record { given = segment conn payload ∷ []; last = x }) (sym (place_after p (p.at + (9 + size)) t.due t.none empty) ∙ sym same))

-- and no fault is met in it
pub segment_exact : (p q : CaptureProgress) (bytes payload : List ℕ) (conn size : ℕ) → TakesSegment p bytes conn size → p.seen ≡ [] → payload ≡ take size (drop 9 bytes) → q ≡ record p { at = p.at + (9 + size) }
    → MeetsFault captures p (take (9 + size) bytes) None
segment_exact p q bytes payload conn size t empty is same =
    met_by captures p q (take (9 + size) bytes) (segment conn payload ∷ []) None (segment_fed p q bytes payload conn size t empty is same) (ap (λ (x : CaptureProgress). x.fault) same ∙ t.none)

-- ---- a segment for whose bytes memory is refused

-- the bytes before the last one of its length are fed
pub front_fed : (p q : CaptureProgress) (bytes : List ℕ) (conn size : ℕ) → TakesSegment p bytes conn size → p.seen ≡ [] → q ≡ headed p conn (get_or bytes 5 0 ∷ get_or bytes 6 0 ∷ get_or bytes 7 0 ∷ [])
    → Feeds captures p q (take 8 bytes) []
front_fed p q bytes conn size t empty same =
    let h = t.holds in
    let known : number (conn_bytes bytes) < p.state.count = subst (λ (n : ℕ). n < p.state.count) h.conn_is t.known in
    subst (λ (l : List ℕ). Feeds captures p q l []) (sym (ap (take 8) (head_is bytes conn size h)))
    (head_fed p q (get_or bytes 1 0) (get_or bytes 2 0) (get_or bytes 3 0) (get_or bytes 4 0) (get_or bytes 5 0) (get_or bytes 6 0) (get_or bytes 7 0) t.due t.none empty (let room = t.room in omega arith) known
    (same ∙ ap (λ (n : ℕ). headed p n (get_or bytes 5 0 ∷ get_or bytes 6 0 ∷ get_or bytes 7 0 ∷ [])) h.conn_is))

-- and this one is next
pub front_end : (p q : CaptureProgress) (bytes : List ℕ) (conn size : ℕ) → TakesSegment p bytes conn size → 0 < size → q ≡ headed p conn (get_or bytes 5 0 ∷ get_or bytes 6 0 ∷ get_or bytes 7 0 ∷ [])
    → IsLengthEnd q (get_or bytes 8 0)
front_end p q bytes conn size t some same = subst (λ (x : CaptureProgress). IsLengthEnd x (get_or bytes 8 0)) (sym same) (record {
  conn = conn;
  due = refl;
  none = t.none;
  last = refl;
  some = (let is = t.holds.size_is in omega (arith, some));
  lawful = (let few = t.few in let is = t.holds.size_is in omega arith);
  within = (let room = t.room in omega arith);
})

-- ---- the record with which bytes begin

four_are : (a b c d : ℕ) → a < 256 → b < 256 → c < 256 → d < 256 → to_be_bytes w32 (number (a ∷ b ∷ c ∷ d ∷ [])) ≡ a ∷ b ∷ c ∷ d ∷ []
four_are a b c d la lb lc ld = be_bytes_4 (a ∷ b ∷ c ∷ d ∷ []) (number (a ∷ b ∷ c ∷ d ∷ [])) refl (byte_at (a ∷ b ∷ c ∷ d ∷ []) (la, (lb, (lc, (ld, tt))))) refl

-- a segment
pub begins_segment : (bytes : List ℕ) (conn size : ℕ) → AreBytes bytes → HoldsSegment bytes conn size → BeginsWithRecord bytes
begins_segment bytes conn size all h =
    let at = byte_at bytes all in
    let payload : List ℕ = take size (drop 9 bytes) in
    let long : length payload ≡ size = length-take-le size (drop 9 bytes) (let whole = h.whole in omega (arith, length-drop 9 bytes)) in
    let conns : to_be_bytes w32 conn ≡ conn_bytes bytes = ap (to_be_bytes w32) h.conn_is ∙ four_are (get_or bytes 1 0) (get_or bytes 2 0) (get_or bytes 3 0) (get_or bytes 4 0) (at 1) (at 2) (at 3) (at 4) in
    let sizes : to_be_bytes w32 (length payload) ≡ size_bytes bytes = ap (to_be_bytes w32) (long ∙ h.size_is) ∙ four_are (get_or bytes 5 0) (get_or bytes 6 0) (get_or bytes 7 0) (get_or bytes 8 0) (at 5) (at 6) (at 7) (at 8) in
    let spells : spelled (segment conn payload) ≡ (83 ∷ conn_bytes bytes) ++ (size_bytes bytes ++ payload) =
    ap (λ (l : List ℕ). 83 ∷ (l ++ (to_be_bytes w32 (length payload) ++ payload))) conns ∙ ap (λ (l : List ℕ). (83 ∷ conn_bytes bytes) ++ (l ++ payload)) sizes in
    let few : size < 2 ^ 32 = (let is = h.size_is in omega (arith, at 5, at 6, at 7, at 8)) in
    (segment conn payload, (drop (9 + size) bytes, ((let l = long in omega arith), sym (take-append-drop (9 + size) bytes) ∙ ap (λ (l : List ℕ). l ++ drop (9 + size) bytes) (held_text bytes conn size h ∙ sym spells))))

-- a close of a connection
five : (l : List ℕ) → 5 ≤ length l → l ≡ get_or l 0 0 ∷ get_or l 1 0 ∷ get_or l 2 0 ∷ get_or l 3 0 ∷ get_or l 4 0 ∷ drop 5 l
five (a ∷ b ∷ c ∷ d ∷ e ∷ l) long = refl
five [] long = absurd (omega (arith, long))
five (a ∷ []) long = absurd (omega (arith, long))
five (a ∷ b ∷ []) long = absurd (omega (arith, long))
five (a ∷ b ∷ c ∷ []) long = absurd (omega (arith, long))
five (a ∷ b ∷ c ∷ d ∷ []) long = absurd (omega (arith, long))

pub begins_close : (bytes : List ℕ) → AreBytes bytes → get_or bytes 0 0 ≡ 67 → 5 ≤ length bytes → BeginsWithRecord bytes
begins_close bytes all tag long =
    let at = byte_at bytes all in
    let conn : ℕ = front_conn bytes in
    let conns : to_be_bytes w32 conn ≡ conn_bytes bytes = four_are (get_or bytes 1 0) (get_or bytes 2 0) (get_or bytes 3 0) (get_or bytes 4 0) (at 1) (at 2) (at 3) (at 4) in
    (Kinds.Close conn, (drop 5 bytes, (tt, five bytes long ∙ ap (λ (n : ℕ). n ∷ (conn_bytes bytes ++ drop 5 bytes)) tag ∙ ap (λ (l : List ℕ). 67 ∷ (l ++ drop 5 bytes)) (sym conns))))

-- bytes that begin with a record hold a segment, or have the tag of a close and four further bytes
holds_spelled : (item : Record) (rest : List ℕ) → HasLength item → (HoldsSegment (spelled item ++ rest) (front_conn (spelled item ++ rest)) (front_size (spelled item ++ rest))) ⊎ ((get_or (spelled item ++ rest) 0 0 ≡ 67) × (5 ≤ length (spelled item ++ rest)))
holds_spelled (Kinds.Segment s) rest few =
    let size : front_size (spelled (Kinds.Segment s) ++ rest) ≡ length s.bytes = from_be_bytes-to_be_bytes_4 (length s.bytes) few in
    inl (record { tag = refl; conn_is = refl; size_is = refl; whole = omega (arith, size, length-append s.bytes rest) })
holds_spelled (Kinds.Close conn) rest few = inr (refl, omega arith)

pub holds_begun : (bytes : List ℕ) → BeginsWithRecord bytes → (HoldsSegment bytes (front_conn bytes) (front_size bytes)) ⊎ ((get_or bytes 0 0 ≡ 67) × (5 ≤ length bytes))
holds_begun bytes b =
    subst (λ (l : List ℕ). (HoldsSegment l (front_conn l) (front_size l)) ⊎ ((get_or l 0 0 ≡ 67) × (5 ≤ length l))) (sym b.1.1.1) (holds_spelled b.0 b.1.0 b.1.1.0)
