-- The bytes of a session, with one further record.
use Rattle.std.proofs.Common.{◌≡◌, ℕ, ◌+◌, ◌<◌, ◌==◌, ◌&&◌, Bool, true, false, List, [], ◌∷◌, ◌++◌, refl, sym, ap, ◌∙◌, append_assoc, arith}
use Rattle.std.specs.Prelude.{if◌then◌else◌}
use Rattle.std.proofs.lemmas.List.{append-nil}
use Rattle.zy_capture.specs.declared.record.Record.{Record}
use Rattle.zy_capture.specs.declared.record.Record.TheVariants as Kinds
use Rattle.zy_capture.specs.declared.record.Segment.{Segment}
use Rattle.zy_capture.specs.Streams.{closes, stream, stream_after}
use Rattle.zy_times.proofs.RecordLemmas.{IsOfOther, is_same, not_same}

-- ---- all bytes

segment_bytes : (b : Bool) (bytes all front back : List ℕ) → all ≡ front ++ back → (if b then bytes ++ all else all) ≡ (if b then bytes ++ front else front) ++ back
segment_bytes true bytes all front back is = ap (λ (l : List ℕ). bytes ++ l) is ∙ sym (append_assoc bytes front back)
segment_bytes false bytes all front back is = is

close_bytes : (b : Bool) (items behind : List Record) (before conn session : ℕ)
    → stream_after (before + 1) conn session (items ++ behind) ≡ stream_after (before + 1) conn session items ++ stream_after (before + 1 + closes conn items) conn session behind
    → stream_after before conn session (items ++ behind) ≡ stream_after before conn session items ++ stream_after (before + closes conn items) conn session behind
    → (if b then stream_after (before + 1) conn session (items ++ behind) else stream_after before conn session (items ++ behind))
    ≡ (if b then stream_after (before + 1) conn session items else stream_after before conn session items) ++ stream_after (before + (if b then closes conn items + 1 else closes conn items)) conn session behind
close_bytes true items behind before conn session here other =
    let on : before + 1 + closes conn items ≡ before + (closes conn items + 1) = omega arith in
    here ∙ ap (λ (n : ℕ). stream_after (before + 1) conn session items ++ stream_after n conn session behind) on
close_bytes false items behind before conn session here other = other

-- the bytes of a session in some records, and in those behind them
stream_append : (items behind : List Record) (before conn session : ℕ)
    → stream_after before conn session (items ++ behind) ≡ stream_after before conn session items ++ stream_after (before + closes conn items) conn session behind
stream_append [] behind before conn session = let none : before ≡ before + 0 = omega arith in ap (λ (n : ℕ). stream_after n conn session behind) none
stream_append (Kinds.Segment s ∷ items) behind before conn session =
    segment_bytes (s.conn == conn && before == session) s.bytes (stream_after before conn session (items ++ behind)) (stream_after before conn session items)
    (stream_after (before + closes conn items) conn session behind) (stream_append items behind before conn session)
stream_append (Kinds.Close other ∷ items) behind before conn session =
    close_bytes (other == conn) items behind before conn session (stream_append items behind (before + 1) conn session) (stream_append items behind before conn session)

-- ---- one record

-- the bytes of a session that one record has, after this many close records
abbrev pub bytes_of : ℕ → ℕ → ℕ → Record → List ℕ
bytes_of now conn session r = stream_after now conn session (r ∷ [])

pub stream_more : (records : List Record) (r : Record) (conn session : ℕ) → stream conn session (records ++ r ∷ []) ≡ stream conn session records ++ bytes_of (closes conn records) conn session r
stream_more records r conn session =
    let at : 0 + closes conn records ≡ closes conn records = omega arith in
    stream_append records (r ∷ []) 0 conn session ∙ ap (λ (n : ℕ). stream conn session records ++ bytes_of n conn session r) at

-- a record without bytes of the session leaves its stream as it was
pub stream_same : (records : List Record) (r : Record) (conn session : ℕ) → bytes_of (closes conn records) conn session r ≡ [] → stream conn session (records ++ r ∷ []) ≡ stream conn session records
stream_same records r conn session none =
    stream_more records r conn session ∙ ap (λ (l : List ℕ). stream conn session records ++ l) none ∙ append-nil (stream conn session records)

none_either : {A : Type 0} (b : Bool) (x : A) → (if b then x else x) ≡ x
none_either true x = refl
none_either false x = refl

-- a record of another connection
pub bytes_other : (now conn session : ℕ) (r : Record) → IsOfOther conn r → bytes_of now conn session r ≡ []
bytes_other now conn session (Kinds.Segment s) other = ap (λ (b : Bool). if b && now == session then s.bytes ++ [] else []) (not_same s.conn conn other)
bytes_other now conn session (Kinds.Close closed) other = none_either (closed == conn) []

-- a close record
pub bytes_close : (now conn session closed : ℕ) → bytes_of now conn session (Kinds.Close closed) ≡ []
bytes_close now conn session closed = none_either (closed == conn) []

-- a segment of another session
pub bytes_else : (now conn session : ℕ) (s : Segment) → (now ≡ session → ⊥) → bytes_of now conn session (Kinds.Segment s) ≡ []
bytes_else now conn session s differs = go (s.conn == conn) (now == session) (not_same now session differs)
  where
    go : (a b : Bool) → b ≡ false → (if a && b then s.bytes ++ [] else []) ≡ []
    go true true is = absurd (cc)
    go true false is = refl
    go false b is = refl

-- a mark
pub bytes_none : (now conn session : ℕ) (s : Segment) → s.bytes ≡ [] → bytes_of now conn session (Kinds.Segment s) ≡ []
bytes_none now conn session s none = go (s.conn == conn && now == session) s.bytes none
  where
    go : (b : Bool) (bytes : List ℕ) → bytes ≡ [] → (if b then bytes ++ [] else []) ≡ []
    go true [] is = refl
    go true (byte ∷ bytes) is = absurd (cc)
    go false bytes is = refl

-- a segment of the session
pub bytes_here : (now conn session : ℕ) (s : Segment) → s.conn ≡ conn → now ≡ session → bytes_of now conn session (Kinds.Segment s) ≡ s.bytes
bytes_here now conn session s mine here =
    ap (λ (b : Bool). if b && now == session then s.bytes ++ [] else []) (is_same s.conn conn mine)
    ∙ ap (λ (b : Bool). if b then s.bytes ++ [] else []) (is_same now session here) ∙ append-nil s.bytes

-- ---- a session that has not begun

past_segment : (a b : Bool) (bytes rest : List ℕ) → b ≡ false → rest ≡ [] → (if a && b then bytes ++ rest else rest) ≡ []
past_segment true true bytes rest is none = absurd (cc)
past_segment true false bytes rest is none = none
past_segment false b bytes rest is none = none

past_close : (b : Bool) (items : List Record) (before conn session : ℕ)
    → (before + 1 + closes conn items < session → stream_after (before + 1) conn session items ≡ []) → (before + closes conn items < session → stream_after before conn session items ≡ [])
    → before + (if b then closes conn items + 1 else closes conn items) < session → (if b then stream_after (before + 1) conn session items else stream_after before conn session items) ≡ []
past_close true items before conn session here other below = here (omega (arith, below))
past_close false items before conn session here other below = other below

pub stream_past : (items : List Record) (before conn session : ℕ) → before + closes conn items < session → stream_after before conn session items ≡ []
stream_past [] before conn session past = refl
stream_past (Kinds.Segment s ∷ items) before conn session past =
    past_segment (s.conn == conn) (before == session) s.bytes (stream_after before conn session items)
    (not_same before session (λ same. let low = past in omega (arith, same, low))) (stream_past items before conn session past)
stream_past (Kinds.Close other ∷ items) before conn session past =
    past_close (other == conn) items before conn session (stream_past items (before + 1) conn session) (stream_past items before conn session) past
