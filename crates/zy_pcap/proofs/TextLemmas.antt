-- The texts of which the capture is made: segment after segment, session after session, connection after connection.
use Rattle.std.proofs.Common.{◌≡◌, ℕ, zero, suc, ◌+◌, ◌-◌, ◌<◌, ◌≤◌, List, [], ◌∷◌, ◌++◌, length, map, take, drop, add-one, refl, sym, ap, ◌∙◌, append_assoc, inl, inr, arith}
use Rattle.std.specs.Prelude.{Option, Some, None, flat_map, min, slice_range}
use Rattle.std.specs.Int.{to_be_bytes, w32}
use Rattle.std.proofs.lemmas.Grind.{flat_map-append}
use Rattle.std.proofs.lemmas.Bool.{cases_lt}
use Rattle.std.proofs.lemmas.List.{append-nil, length-drop, take_all, drop_all, drop-drop}
use Rattle.zy_capture.specs.declared.record.Record.{Record}
use Rattle.zy_capture.specs.declared.record.Record.TheVariants as Kinds
use Rattle.zy_capture.specs.Capture.{segment_limit, capture_magic, spelled, spelling}
use Rattle.zy_capture.specs.Replies.{numbered_from}
use Rattle.zy_pcap.specs.declared.kept_flow.KeptFlow.{KeptFlow}
use Rattle.zy_pcap.specs.Made.{capture_of, segments_of, session_records, connection_records, records_from}
use Rattle.zy_pcap.specs.Streams.{kept_stream, streams_by, kept_streams}
use Rattle.zy_pcap.specs.Texts.{start_text, close_text, segment_head, segment_text, stream_text, text_of_session, kept_connection}
use Rattle.zy_pcap.proofs.StreamLemmas.{streams_length}

-- ---- segments

-- how many segments there may be at most doesn't matter
enough : (conn m n : ℕ) (bytes : List ℕ) → length bytes ≤ m → length bytes ≤ n → segments_of conn m bytes ≡ segments_of conn n bytes
enough conn zero zero bytes few other = refl
enough conn zero (suc n) [] few other = refl
enough conn zero (suc n) (byte ∷ bytes) few other = absurd (omega (arith, few))
enough conn (suc m) zero [] few other = refl
enough conn (suc m) zero (byte ∷ bytes) few other = absurd (omega (arith, other))
enough conn (suc m) (suc n) [] few other = refl
enough conn (suc m) (suc n) (byte ∷ bytes) few other =
    let rest : List ℕ = drop segment_limit (byte ∷ bytes) in
    let size : length rest ≡ suc (length bytes) - segment_limit = length-drop segment_limit (byte ∷ bytes) in
    ap (λ (l : List Record). Kinds.Segment (record { conn = conn; bytes = take segment_limit (byte ∷ bytes) }) ∷ l)
    (enough conn m n rest (omega (arith, size, few)) (omega (arith, size, other)))

pub stream_more : (conn : ℕ) (bytes : List ℕ) → 0 < length bytes → stream_text conn bytes ≡ segment_text conn (take segment_limit bytes) ++ stream_text conn (drop segment_limit bytes)
unfolding stream_text segment_text
stream_more conn [] some = absurd (omega (arith, some))
stream_more conn (byte ∷ bytes) some =
    let rest : List ℕ = drop segment_limit (byte ∷ bytes) in
    let size : length rest ≡ suc (length bytes) - segment_limit = length-drop segment_limit (byte ∷ bytes) in
    ap (λ (l : List Record). segment_text conn (take segment_limit (byte ∷ bytes)) ++ flat_map spelled l)
    (enough conn (length bytes) (length rest) rest (omega (arith, size)) (omega arith))

pub stream_none : (conn : ℕ) → stream_text conn [] ≡ []
unfolding stream_text
stream_none conn = refl

-- a segment is its beginning and its bytes
pub segment_is : (conn : ℕ) (bytes : List ℕ) → segment_head conn (length bytes) ++ bytes ≡ segment_text conn bytes
unfolding segment_head segment_text
segment_is conn bytes = refl

-- ---- sessions

later : (conn number : ℕ) (session : List ℕ) (sessions : List (List ℕ))
    → flat_map spelled (Kinds.Close conn ∷ connection_records conn (session ∷ sessions)) ≡ numbered_from (text_of_session conn) (suc number) (session ∷ sessions)
unfolding stream_text close_text
later conn number session [] = sym (append-nil (spelled (Kinds.Close conn) ++ flat_map spelled (session_records conn session)))
later conn number session (next ∷ sessions) =
    let close : List ℕ = spelled (Kinds.Close conn) in
    let here : List ℕ = flat_map spelled (session_records conn session) in
    ap (λ (l : List ℕ). close ++ l) (flat_map-append spelled (session_records conn session) (Kinds.Close conn ∷ connection_records conn (next ∷ sessions))
    ∙ ap (λ (l : List ℕ). here ++ l) (later conn (suc number) next sessions))
    ∙ sym (append_assoc close here (numbered_from (text_of_session conn) (suc (suc number)) (next ∷ sessions)))
    ∙ ap (λ (n : ℕ). (close ++ here) ++ numbered_from (text_of_session conn) n (next ∷ sessions)) (sym (add-one (suc number)))

pub connection_is : (conn : ℕ) (sessions : List (List ℕ)) → flat_map spelled (connection_records conn sessions) ≡ numbered_from (text_of_session conn) 0 sessions
unfolding stream_text close_text
connection_is conn [] = refl
connection_is conn (session ∷ []) = sym (append-nil (flat_map spelled (session_records conn session)))
connection_is conn (session ∷ next ∷ sessions) =
    flat_map-append spelled (session_records conn session) (Kinds.Close conn ∷ connection_records conn (next ∷ sessions))
    ∙ ap (λ (l : List ℕ). flat_map spelled (session_records conn session) ++ l) (later conn 0 next sessions)

-- by the number of a session
pub first_session : (conn number : ℕ) (stream : List ℕ) → number ≡ 0 → text_of_session conn number stream ≡ stream_text conn stream
first_session conn zero stream is = refl
first_session conn (suc number) stream is = absurd (omega (arith, is))

pub later_session : (conn number : ℕ) (stream : List ℕ) → (number ≡ 0 → ⊥) → text_of_session conn number stream ≡ close_text conn ++ stream_text conn stream
later_session conn zero stream other = absurd (other refl)
later_session conn (suc number) stream other = refl

-- ---- connections

-- texts of numbered things that something is made of
numbered_made : {X Y : Type 0} (text : ℕ → Y → List ℕ) (made : X → Y) (number : ℕ) (xs : List X) → numbered_from (λ n x. text n (made x)) number xs ≡ numbered_from text number (map made xs)
numbered_made text made number [] = refl
numbered_made text made number (x ∷ xs) = ap (λ (l : List ℕ). text number (made x) ++ l) (numbered_made text made (number + 1) xs)

flow_is : (conn : ℕ) (flow : Option KeptFlow) → kept_connection conn flow ≡ flat_map spelled (connection_records conn (streams_by flow))
flow_is conn None = refl
flow_is conn (Some flow) =
    numbered_made (text_of_session conn) kept_stream 0 flow.sessions.items ∙ sym (connection_is conn (map kept_stream flow.sessions.items))

-- the records of all connections, as they are written
pub records_are : (number : ℕ) (flows : List (Option KeptFlow)) → numbered_from kept_connection number flows ≡ flat_map spelled (records_from number (kept_streams flows))
unfolding kept_streams
records_are number [] = refl
records_are number (flow ∷ flows) =
    ap (λ (l : List ℕ). l ++ numbered_from kept_connection (number + 1) flows) (flow_is number flow)
    ∙ ap (λ (l : List ℕ). flat_map spelled (connection_records number (streams_by flow)) ++ l) (records_are (number + 1) flows)
    ∙ sym (flat_map-append spelled (connection_records number (streams_by flow)) (records_from (number + 1) (kept_streams flows)))

-- ---- the capture

pub capture_is : (flows : List (Option KeptFlow)) → start_text (length flows) ++ (numbered_from kept_connection 0 flows ++ 69 ∷ []) ≡ capture_of (kept_streams flows)
unfolding start_text capture_of spelling
capture_is flows =
    let records : List ℕ = flat_map spelled (records_from 0 (kept_streams flows)) in
    append_assoc (capture_magic 2) (to_be_bytes w32 (length flows)) (numbered_from kept_connection 0 flows ++ 69 ∷ [])
    ∙ ap (λ (l : List ℕ). capture_magic 2 ++ to_be_bytes w32 (length flows) ++ l ++ 69 ∷ []) (records_are 0 flows)
    ∙ ap (λ (n : ℕ). capture_magic 2 ++ to_be_bytes w32 n ++ records ++ 69 ∷ []) (sym (streams_length flows))

pub capture_written : (flows : List (Option KeptFlow)) (streams : List (List (List ℕ))) (count : ℕ) → kept_streams flows ≡ streams → count ≡ length streams → start_text count ++ (numbered_from kept_connection 0 flows ++ 69 ∷ []) ≡ capture_of streams
capture_written flows streams count are is =
    ap (λ (n : ℕ). start_text n ++ (numbered_from kept_connection 0 flows ++ 69 ∷ [])) (is ∙ ap length (sym are) ∙ streams_length flows) ∙ capture_is flows ∙ ap capture_of are

-- ---- a stream, segment after segment

-- what is left of a stream from a place on
pub stream_steps : (conn at end : ℕ) (bytes : List ℕ) → at < length bytes → end ≡ min (length bytes) (at + 65535)
    → stream_text conn (drop at bytes) ≡ segment_text conn (slice_range bytes at end) ++ stream_text conn (drop end bytes)
stream_steps conn at end bytes some is =
    let rest : List ℕ = drop at bytes in
    let size : length rest ≡ length bytes - at = length-drop at bytes in
    let left : drop segment_limit rest ≡ drop (at + segment_limit) bytes = drop-drop segment_limit at bytes in
    stream_more conn rest (omega (arith, size, some))
    ∙ elim (cases_lt (length bytes) (at + 65535)) [
      | inl short ↦ (let taken : take segment_limit rest ≡ slice_range bytes at end = take_all segment_limit rest (omega (arith, size, short)) ∙ sym (take_all (end - at) rest (omega (arith, size, is, short))) in
          let none : drop segment_limit rest ≡ drop end bytes = left ∙ drop_all (at + segment_limit) bytes (omega (arith, short)) ∙ sym (drop_all end bytes (omega (arith, is, short))) in
          ap (λ (l : List ℕ). segment_text conn l ++ stream_text conn (drop segment_limit rest)) taken ∙ ap (λ (l : List ℕ). segment_text conn (slice_range bytes at end) ++ stream_text conn l) none)
      | inr full ↦ (let to : end ≡ at + 65535 = omega (arith, is, full) in
          let count : 65535 ≡ end - at = omega (arith, to) in
          ap (λ (n : ℕ). segment_text conn (take n rest) ++ stream_text conn (drop segment_limit rest)) count ∙ ap (λ (l : List ℕ). segment_text conn (slice_range bytes at end) ++ stream_text conn l) (left ∙ ap (λ (n : ℕ). drop n bytes) (sym to)))
    ]

-- nothing is left
pub stream_over : (conn at : ℕ) (bytes : List ℕ) → length bytes ≤ at → stream_text conn (drop at bytes) ≡ []
stream_over conn at bytes over = ap (stream_text conn) (drop_all at bytes over) ∙ stream_none conn
