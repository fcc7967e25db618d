-- One further record: the close records of a connection, and the marks of its sessions.
use Rattle.std.proofs.Common.{◌≡◌, inl, inr, ℕ, ◌+◌, ◌<◌, ◌≤◌, ◌==◌, ◌&&◌, Bool, true, false, List, [], ◌∷◌, ◌++◌, refl, ap, ◌∙◌, arith}
use Rattle.std.specs.Prelude.{if◌then◌else◌}
use Rattle.std.proofs.lemmas.Bool.Decides.{eqb_tells}
use Rattle.zy_capture.specs.declared.record.Record.{Record}
use Rattle.zy_capture.specs.declared.record.Record.TheVariants as Kinds
use Rattle.zy_capture.specs.declared.record.Segment.{Segment}
use Rattle.zy_capture.specs.Streams.{closes}
use Rattle.zy_times.specs.Times.{counted_mark, marks_after, marks_in}

-- ---- records of others

-- the record is of another connection
abbrev pub IsOfOther : ℕ → Record → Type 0
IsOfOther conn (Kinds.Segment s) = s.conn ≡ conn → ⊥
IsOfOther conn (Kinds.Close other) = other ≡ conn → ⊥

-- a number is not another
pub not_same : (a b : ℕ) → (a ≡ b → ⊥) → (a == b) ≡ false
not_same a b differs = elim (eqb_tells a b) [ inl same ↦ absurd (differs same.1) | inr other ↦ other.0 ]

pub is_same : (a b : ℕ) → a ≡ b → (a == b) ≡ true
is_same a b same = elim (eqb_tells a b) [ inl here ↦ here.0 | inr other ↦ absurd (other.1 same) ]

-- ---- close records

pub closes_more : (conn : ℕ) (records : List Record) (r : Record) → closes conn (records ++ r ∷ []) ≡ closes conn records + closes conn (r ∷ [])
closes_more conn [] r = omega arith
closes_more conn (Kinds.Segment s ∷ records) r = closes_more conn records r
closes_more conn (Kinds.Close other ∷ records) r =
    let rest = closes_more conn records r in
    elim (eqb_tells other conn) [ inl same ↦ rw same.0 (omega (arith, rest)) | inr differs ↦ rw differs.0 rest ]

pub closes_other : (conn : ℕ) (r : Record) → IsOfOther conn r → closes conn (r ∷ []) ≡ 0
closes_other conn (Kinds.Segment s) other = refl
closes_other conn (Kinds.Close closed) other = ap (λ (b : Bool). if b then closes conn [] + 1 else closes conn []) (not_same closed conn other)

-- ---- marks

counted_mark-add : (bytes : List ℕ) (count more : ℕ) → counted_mark bytes (count + more) ≡ counted_mark bytes count + more
counted_mark-add [] count more = omega arith
counted_mark-add (byte ∷ bytes) count more = refl

segment_marks : (b : Bool) (bytes : List ℕ) (all front back : ℕ) → all ≡ front + back → (if b then counted_mark bytes all else all) ≡ (if b then counted_mark bytes front else front) + back
segment_marks true bytes all front back is = ap (counted_mark bytes) is ∙ counted_mark-add bytes front back
segment_marks false bytes all front back is = is

close_marks : (b : Bool) (items behind : List Record) (before conn session : ℕ) → marks_after (before + 1) conn session (items ++ behind) ≡ marks_after (before + 1) conn session items + marks_after (before + 1 + closes conn items) conn session behind
    → marks_after before conn session (items ++ behind) ≡ marks_after before conn session items + marks_after (before + closes conn items) conn session behind
    → (if b then marks_after (before + 1) conn session (items ++ behind) else marks_after before conn session (items ++ behind))
    ≡ (if b then marks_after (before + 1) conn session items else marks_after before conn session items) + marks_after (before + (if b then closes conn items + 1 else closes conn items)) conn session behind
close_marks true items behind before conn session here other =
    let on : before + 1 + closes conn items ≡ before + (closes conn items + 1) = omega arith in
    here ∙ ap (λ (n : ℕ). marks_after (before + 1) conn session items + marks_after n conn session behind) on
close_marks false items behind before conn session here other = other

behind_nothing : (n : ℕ) → n ≡ 0 + n
behind_nothing n = omega arith

-- the marks of some records, and of those behind them
marks_append : (items behind : List Record) (before conn session : ℕ) → marks_after before conn session (items ++ behind) ≡ marks_after before conn session items + marks_after (before + closes conn items) conn session behind
marks_append [] behind before conn session =
    let none : before ≡ before + 0 = omega arith in
    ap (λ (n : ℕ). marks_after n conn session behind) none ∙ behind_nothing (marks_after (before + 0) conn session behind)
marks_append (Kinds.Segment s ∷ items) behind before conn session =
    segment_marks (s.conn == conn && before == session) s.bytes (marks_after before conn session (items ++ behind)) (marks_after before conn session items) (marks_after (before + closes conn items) conn session behind)
    (marks_append items behind before conn session)
marks_append (Kinds.Close other ∷ items) behind before conn session =
    close_marks (other == conn) items behind before conn session (marks_append items behind (before + 1) conn session) (marks_append items behind before conn session)

-- the marks that one record is
abbrev pub mark_of : ℕ → ℕ → ℕ → Record → ℕ
mark_of now conn session r = marks_after now conn session (r ∷ [])

pub marks_more : (records : List Record) (r : Record) (conn session : ℕ) → marks_in (records ++ r ∷ []) conn session ≡ marks_in records conn session + mark_of (closes conn records) conn session r
marks_more records r conn session =
    let at : 0 + closes conn records ≡ closes conn records = omega arith in
    marks_append records (r ∷ []) 0 conn session ∙ ap (λ (n : ℕ). marks_in records conn session + mark_of n conn session r) at

pub marks_rise : (records : List Record) (r : Record) (conn session : ℕ) → marks_in records conn session ≤ marks_in (records ++ r ∷ []) conn session
marks_rise records r conn session = let more = marks_more records r conn session in omega (arith, more)

-- a record is a mark of the open session of its connection alone
pub mark_other : (now conn session : ℕ) (r : Record) → IsOfOther conn r → mark_of now conn session r ≡ 0
mark_other now conn session (Kinds.Segment s) other = ap (λ (b : Bool). if b && now == session then counted_mark s.bytes 0 else 0) (not_same s.conn conn other)
mark_other now conn session (Kinds.Close closed) other = ap (λ (b : Bool). if b then 0 else 0) (not_same closed conn other)

none_either : (b : Bool) → ◌≡◌ {A = ℕ} (if b then 0 else 0) 0
none_either true = refl
none_either false = refl

pub mark_close : (now conn session closed : ℕ) → mark_of now conn session (Kinds.Close closed) ≡ 0
mark_close now conn session closed = none_either (closed == conn)

pub mark_else : (now conn session : ℕ) (s : Segment) → (now ≡ session → ⊥) → mark_of now conn session (Kinds.Segment s) ≡ 0
mark_else now conn session s differs = go (s.conn == conn) (now == session) (not_same now session differs)
  where
    go : (a b : Bool) → b ≡ false → (if a && b then counted_mark s.bytes 0 else 0) ≡ 0
    go true true is = absurd (cc)
    go true false is = refl
    go false b is = refl

pub mark_bytes : (now conn session : ℕ) (s : Segment) → (s.bytes ≡ [] → ⊥) → mark_of now conn session (Kinds.Segment s) ≡ 0
mark_bytes now conn session s some = go (s.conn == conn && now == session) s.bytes some
  where
    go : (b : Bool) (bytes : List ℕ) → (bytes ≡ [] → ⊥) → (if b then counted_mark bytes 0 else 0) ≡ 0
    go true [] some = absurd (some refl)
    go true (byte ∷ bytes) some = refl
    go false bytes some = refl

pub mark_here : (now conn session : ℕ) (s : Segment) → s.conn ≡ conn → now ≡ session → s.bytes ≡ [] → mark_of now conn session (Kinds.Segment s) ≡ 1
mark_here now conn session s mine here none =
    ap (λ (b : Bool). if b && now == session then counted_mark s.bytes 0 else 0) (is_same s.conn conn mine) ∙ ap (λ (b : Bool). if b then counted_mark s.bytes 0 else 0) (is_same now session here)
    ∙ ap (λ (l : List ℕ). counted_mark l 0) none

past_segment : (a b : Bool) (bytes : List ℕ) (count : ℕ) → b ≡ false → count ≡ 0 → (if a && b then counted_mark bytes count else count) ≡ 0
past_segment true true bytes count is none = absurd (cc)
past_segment true false bytes count is none = none
past_segment false b bytes count is none = none

past_close : (b : Bool) (items : List Record) (before conn session : ℕ) → (before + 1 + closes conn items < session → marks_after (before + 1) conn session items ≡ 0) → (before + closes conn items < session → marks_after before conn session items ≡ 0)
    → before + (if b then closes conn items + 1 else closes conn items) < session → (if b then marks_after (before + 1) conn session items else marks_after before conn session items) ≡ 0
past_close true items before conn session here other below = here (omega (arith, below))
past_close false items before conn session here other below = other below

-- a session that has not begun has no marks
pub marks_past : (items : List Record) (before conn session : ℕ) → before + closes conn items < session → marks_after before conn session items ≡ 0
marks_past [] before conn session past = refl
marks_past (Kinds.Segment s ∷ items) before conn session past =
    past_segment (s.conn == conn) (before == session) s.bytes (marks_after before conn session items) (not_same before session (λ same. let low = past in omega (arith, same, low))) (marks_past items before conn session past)
marks_past (Kinds.Close other ∷ items) before conn session past =
    past_close (other == conn) items before conn session (marks_past items (before + 1) conn session) (marks_past items before conn session) past
