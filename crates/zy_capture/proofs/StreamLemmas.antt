-- The sessions that are kept are the streams of the records.
use Rattle.std.proofs.Common.{◌≡◌, inl, inr, ℕ, zero, suc, ◌+◌, ◌<◌, true, false, List, [], ◌∷◌, ◌++◌, length, refl, sym, ◌∙◌, ap, arith, append_assoc}
use Rattle.std.specs.Prelude.{◌==◌, if◌then◌else◌}
use Rattle.std.specs.List.{slice_index_or, slice_set}
use Rattle.std.proofs.lemmas.List.{append-nil, length-set, get_or-set_same, get_or-set_other, length-replicate, get_or-replicate}
use Rattle.std.proofs.lemmas.Bool.Decides.{nat_tests, eqb_tells}
use Rattle.zy_capture.specs.declared.record.Record.{Record}
use Rattle.zy_capture.specs.declared.record.Record.TheVariants as Kinds
use Rattle.zy_capture.specs.Streams.{closes, stream_after, stream, sessions_of, no_bytes, last_session, last_grown, grown, closed, with_records}

-- ---- the last session

pub last_grown-append : (before : List (List ℕ)) (last bytes : List ℕ) → last_grown (before ++ last ∷ []) bytes ≡ before ++ (last ++ bytes) ∷ []
last_grown-append [] last bytes = refl
last_grown-append (x ∷ []) last bytes = refl
last_grown-append (x ∷ y ∷ before) last bytes = ap (λ (l : List (List ℕ)). x ∷ l) (last_grown-append (y ∷ before) last bytes)

pub last_of-append : (before : List (List ℕ)) (last : List ℕ) → last_session (before ++ last ∷ []) ≡ last
last_of-append [] last = refl
last_of-append (x ∷ []) last = refl
last_of-append (x ∷ y ∷ before) last = last_of-append (y ∷ before) last

-- ---- one connection

-- the sessions of a connection from one on, which has these bytes so far
abbrev sessions_from : ℕ → List ℕ → List Record → List (List ℕ)
sessions_from conn current [] = current ∷ []
sessions_from conn current (Kinds.Segment s ∷ items) =
    if s.conn == conn then sessions_from conn (current ++ s.bytes) items else sessions_from conn current items
sessions_from conn current (Kinds.Close other ∷ items) =
    if other == conn then current ∷ sessions_from conn [] items else sessions_from conn current items

-- the connections, of which one has these sessions
record Has (connections : List (List (List ℕ))) (conn : ℕ) (front : List (List ℕ)) (current : List ℕ) : Type 0 where
  within : conn < length connections
  sessions : sessions_of connections conn ≡ front ++ current ∷ []

has_grown : (connections : List (List (List ℕ))) (conn other : ℕ) (front : List (List ℕ)) (current bytes : List ℕ) → other ≡ conn → Has connections conn front current → Has (grown connections other bytes) conn front (current ++ bytes)
has_grown connections conn other front current bytes same has = record {
  within = omega (arith, length-set connections other (last_grown (sessions_of connections other) bytes), has.within);
  sessions = rw same (get_or-set_same connections conn (last_grown (sessions_of connections conn) bytes) [] has.within ∙ ap (λ (l : List (List ℕ)). last_grown l bytes) has.sessions ∙ last_grown-append front current bytes);
}

has_closed : (connections : List (List (List ℕ))) (conn other : ℕ) (front : List (List ℕ)) (current : List ℕ) → other ≡ conn → Has connections conn front current → Has (closed connections other) conn (front ++ current ∷ []) []
has_closed connections conn other front current same has = record {
  within = omega (arith, length-set connections other (sessions_of connections other ++ [] ∷ []), has.within);
  sessions = rw same (get_or-set_same connections conn (sessions_of connections conn ++ [] ∷ []) [] has.within ∙ ap (λ (l : List (List ℕ)). l ++ [] ∷ []) has.sessions);
}

has_still : (connections : List (List (List ℕ))) (conn other : ℕ) (front : List (List ℕ)) (current : List ℕ) (sessions : List (List ℕ)) → (other ≡ conn → ⊥) → Has connections conn front current → Has (slice_set connections other sessions) conn front current
has_still connections conn other front current sessions differs has = record {
  within = omega (arith, length-set connections other sessions, has.within);
  sessions = get_or-set_other connections other conn sessions [] (λ e. differs (sym e)) ∙ has.sessions;
}

kept : (items : List Record) (connections : List (List (List ℕ))) (conn : ℕ) (front : List (List ℕ)) (current : List ℕ) → Has connections conn front current
    → sessions_of (with_records connections items) conn ≡ front ++ sessions_from conn current items
kept [] connections conn front current has = has.sessions
kept (Kinds.Segment s ∷ items) connections conn front current has =
    elim (eqb_tells s.conn conn) [
      | inl same ↦ rw same.0 (kept items (grown connections s.conn s.bytes) conn front (current ++ s.bytes) (has_grown connections conn s.conn front current s.bytes same.1 has))
      | inr other_one ↦ rw other_one.0 (kept items (grown connections s.conn s.bytes) conn front current (has_still connections conn s.conn front current (last_grown (sessions_of connections s.conn) s.bytes) other_one.1 has))
    ]
kept (Kinds.Close other ∷ items) connections conn front current has =
    elim (eqb_tells other conn) [
      | inl same ↦ rw same.0 (kept items (closed connections other) conn (front ++ current ∷ []) [] (has_closed connections conn other front current same.1 has) ∙ append_assoc front (current ∷ []) (sessions_from conn [] items))
      | inr other_one ↦ rw other_one.0 (kept items (closed connections other) conn front current (has_still connections conn other front current (sessions_of connections other ++ [] ∷ []) other_one.1 has))
    ]

-- ---- the streams

length_from : (items : List Record) (conn : ℕ) (current : List ℕ) → length (sessions_from conn current items) ≡ closes conn items + 1
length_from [] conn current = refl
length_from (Kinds.Segment s ∷ items) conn current =
    elim (eqb_tells s.conn conn) [ inl same ↦ rw same.0 (length_from items conn (current ++ s.bytes)) | inr other_one ↦ rw other_one.0 (length_from items conn current) ]
length_from (Kinds.Close other ∷ items) conn current =
    elim (eqb_tells other conn) [ inl same ↦ rw same.0 (omega (arith, length_from items conn [])) | inr other_one ↦ rw other_one.0 (length_from items conn current) ]

-- no segment belongs to a session that ended before
past : (items : List Record) (before conn session : ℕ) → session < before → stream_after before conn session items ≡ []
past [] before conn session ended = refl
past (Kinds.Segment s ∷ items) before conn session ended =
    let differs : (before == session) ≡ false = grind (arith, nat_tests) in
    elim (eqb_tells s.conn conn) [ inl same ↦ rw (same.0, differs) (past items before conn session ended) | inr other_one ↦ rw other_one.0 (past items before conn session ended) ]
past (Kinds.Close other ∷ items) before conn session ended =
    elim (eqb_tells other conn) [ inl same ↦ rw same.0 (past items (before + 1) conn session (omega arith)) | inr other_one ↦ rw other_one.0 (past items before conn session ended) ]

-- what a session has so far
abbrev so_far : ℕ → List ℕ → List ℕ
so_far zero current = current
so_far (suc k) current = []

no_bytes_yet : (k : ℕ) (bytes : List ℕ) → so_far k [] ++ bytes ≡ bytes
no_bytes_yet zero bytes = refl
no_bytes_yet (suc k) bytes = refl

streams_from : (items : List Record) (before conn session k : ℕ) (current : List ℕ) → session ≡ before + k
    → slice_index_or (sessions_from conn current items) k [] ≡ so_far k current ++ stream_after before conn session items
streams_from [] before conn session zero current is = sym (append-nil current)
streams_from [] before conn session (suc k) current is = refl
streams_from (Kinds.Segment s ∷ items) before conn session zero current is =
    let here : (before == session) ≡ true = grind (arith, nat_tests) in
    elim (eqb_tells s.conn conn) [
      | inl same ↦ rw (same.0, here) (streams_from items before conn session zero (current ++ s.bytes) is ∙ append_assoc current s.bytes (stream_after before conn session items))
      | inr other_one ↦ rw other_one.0 (streams_from items before conn session zero current is)
    ]
streams_from (Kinds.Segment s ∷ items) before conn session (suc k) current is =
    let later : (before == session) ≡ false = grind (arith, nat_tests) in
    elim (eqb_tells s.conn conn) [
      | inl same ↦ rw (same.0, later) (streams_from items before conn session (suc k) (current ++ s.bytes) is)
      | inr other_one ↦ rw other_one.0 (streams_from items before conn session (suc k) current is)
    ]
streams_from (Kinds.Close other ∷ items) before conn session zero current is =
    elim (eqb_tells other conn) [
      | inl same ↦ rw (same.0, past items (before + 1) conn session (omega arith)) (sym (append-nil current))
      | inr other_one ↦ rw other_one.0 (streams_from items before conn session zero current is)
    ]
streams_from (Kinds.Close other ∷ items) before conn session (suc k) current is =
    elim (eqb_tells other conn) [
      | inl same ↦ rw same.0 (streams_from items (before + 1) conn session k [] (omega arith) ∙ no_bytes_yet k (stream_after (before + 1) conn session items))
      | inr other_one ↦ rw other_one.0 (streams_from items before conn session (suc k) current is)
    ]

-- ---- the law

-- one session without a byte
abbrev one_empty : List (List ℕ)
one_empty = [] ∷ []

at_first : (count conn : ℕ) → conn < count → Has (no_bytes count) conn [] []
at_first count conn within = record {
  within = omega (arith, length-replicate count (one_empty));
  sessions = get_or-replicate count conn ([] ∷ []) [] within;
}

pub count_held : (count conn : ℕ) (items : List Record) → conn < count → length (sessions_of (with_records (no_bytes count) items) conn) ≡ closes conn items + 1
count_held count conn items within = ap (λ (l : List (List ℕ)). length l) (kept items (no_bytes count) conn [] [] (at_first count conn within)) ∙ length_from items conn []

pub stream_held : (count conn session : ℕ) (items : List Record) → conn < count → slice_index_or (sessions_of (with_records (no_bytes count) items) conn) session [] ≡ stream conn session items
stream_held count conn session items within =
    ap (λ (l : List (List ℕ)). slice_index_or l session []) (kept items (no_bytes count) conn [] [] (at_first count conn within))
    ∙ streams_from items 0 conn session session [] (omega arith) ∙ no_bytes_yet session (stream conn session items)
