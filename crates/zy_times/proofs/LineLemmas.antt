-- The times of a session, of a connection, and of all connections, after one further record.
use Rattle.std.specs.List.{slice_get, slice_set}
use Rattle.std.proofs.Common.{◌≡◌, ℕ, ◌+◌, ◌<◌, Bool, List, [], ◌∷◌, ◌++◌, length, take, replicate, Some, refl, sym, ap, ◌∙◌, subst, arith}
use Rattle.std.specs.Prelude.{if◌then◌else◌}
use Rattle.std.proofs.lemmas.List.{append-nil, length-append, length-map, length-set, take_all}
use mathlib.Core.Logic.{dite}
use native.Mathlib.Decide.{ℕ_discrete}
use Rattle.zy_base.proofs.SetLemmas.{slice_get-set, slice_get-set_other}
use Rattle.zy_capture.specs.declared.record.Record.{Record}
use Rattle.zy_capture.specs.declared.record.Record.TheVariants as Kinds
use Rattle.zy_capture.specs.declared.record.Segment.{Segment}
use Rattle.zy_capture.specs.Streams.{closes, stream}
use Rattle.mc_parse.specs.declared.command.Command.{Command}
use Rattle.zy_frame.specs.declared.frame_kind.FrameKind.{FrameKind}
use Rattle.zy_frame.specs.Frame.{command_of}
use Rattle.zy_frame.specs.Cut.{commands_of, frames_of}
use Rattle.zy_frame.specs.Feed.{Appends}
use Rattle.zy_frame.specs.Progress.{StandsFor}
use Rattle.zy_input.specs.Parts.{conn_of}
use Rattle.zy_times.specs.declared.line.Line.{Line}
use Rattle.zy_times.specs.declared.session.Session.{Session}
use Rattle.zy_times.specs.declared.times.Times.{Times}
use Rattle.zy_times.specs.First.{AreRises}
use Rattle.zy_times.specs.Times.{marks_in}
use Rattle.zy_times.specs.Line.{SessionHolds, BeginsNext, LineHolds, TimesHold}
use Rattle.zy_times.proofs.CountLemmas.{counts_more, counts_same, counts_never}
use Rattle.zy_times.proofs.FirstLemmas.{each_next}
use Rattle.zy_times.proofs.RecordLemmas.{closes_more, IsOfOther, is_same, closes_other, mark_of, marks_more, marks_rise, mark_other, mark_close, mark_else, mark_bytes, mark_here, marks_past}
use Rattle.zy_times.proofs.SessionLemmas.{count_of, marks_count, count_rises, no_commands}
use Rattle.zy_times.proofs.StreamLemmas.{bytes_of, stream_more, stream_same, bytes_other, bytes_close, bytes_else, bytes_none, bytes_here, stream_past}

-- ---- a session

module _ (records : List Record) (r : Record) (conn session : ℕ) (s : Session) (h : SessionHolds records conn session s) where
  abbrev one_more : List Record
  one_more = records ++ r ∷ []

  same_marks : mark_of (closes conn records) conn session r ≡ 0 → AreRises (λ m. marks_in (take m one_more) conn session) (length one_more) s.marks.items
  same_marks unmarked =
      counts_same (marks_count conn session) (λ rs x. marks_rise rs x conn session) records r s.marks.items (let more = marks_more records r conn session in omega (arith, more, unmarked)) h.marks

  -- the record has none of its bytes
  module _ (none : bytes_of (closes conn records) conn session r ≡ []) where
    same_sent : AreRises (λ m. count_of conn session (take m one_more)) (length one_more) s.sent.items
    same_sent = counts_same (count_of conn session) (count_rises conn session) records r s.sent.items (ap (λ (b : List ℕ). length (commands_of b)) (stream_same records r conn session none)) h.sent

    -- and is no mark of it
    pub session_same : mark_of (closes conn records) conn session r ≡ 0 → SessionHolds one_more conn session s
    session_same unmarked = record { sent = same_sent; marks = same_marks unmarked }

    -- and is a mark of it
    pub session_marked : (t : Session) → mark_of (closes conn records) conn session r ≡ 1 → t.sent ≡ s.sent → t.marks.items ≡ s.marks.items ++ (length records + 1) ∷ [] → SessionHolds one_more conn session t
    session_marked t one sent more = record {
      sent = subst (λ (v : _). AreRises (λ m. count_of conn session (take m one_more)) (length one_more) v.items) (sym sent) same_sent;
      marks = subst (AreRises (λ m. marks_in (take m one_more) conn session) (length one_more)) (sym more)
          (counts_more (marks_count conn session) (λ rs x. marks_rise rs x conn session) records r 1 s.marks.items
          (let grown = marks_more records r conn session in omega (arith, grown, one)) h.marks);
    }

  -- it brought these frames
  pub session_sent : (t : Session) (given : List FrameKind) → frames_of (stream conn session one_more) ≡ frames_of (stream conn session records) ++ given
      → mark_of (closes conn records) conn session r ≡ 0 → t.sent.items ≡ s.sent.items ++ replicate (length given) (length records + 1) → t.marks ≡ s.marks → SessionHolds one_more conn session t
  session_sent t given due unmarked sent marks = record {
    sent = subst (AreRises (λ m. count_of conn session (take m one_more)) (length one_more)) (sym sent)
        (counts_more (count_of conn session) (count_rises conn session) records r (length given) s.sent.items count_is h.sent);
    marks = subst (λ (v : _). AreRises (λ m. marks_in (take m one_more) conn session) (length one_more) v.items) (sym marks) (same_marks unmarked);
  }
    where
      count_is : count_of conn session one_more ≡ count_of conn session records + length given
      count_is =
          let long = ap (λ (l : List FrameKind). length l) due ∙ length-append (frames_of (stream conn session records)) given in
          let new = length-map (frames_of (stream conn session one_more)) command_of in
          let old = length-map (frames_of (stream conn session records)) command_of in
          omega (arith, long, new, old)

-- a session that has just begun
session_none : (records : List Record) (conn session : ℕ) (s : Session) → stream conn session records ≡ [] → marks_in records conn session ≡ 0 → s.sent.items ≡ [] → s.marks.items ≡ [] → SessionHolds records conn session s
session_none records conn session s none unmarked sent marks = record {
  sent = subst (AreRises (λ m. count_of conn session (take m records)) (length records)) (sym sent)
      (counts_never (count_of conn session) records (ap (count_of conn session) whole ∙ ap (λ (b : List ℕ). length (commands_of b)) none ∙ ap (λ (l : List Command). length l) no_commands));
  marks = subst (AreRises (λ m. marks_in (take m records) conn session) (length records)) (sym marks)
      (counts_never (marks_count conn session) records (ap (marks_count conn session) whole ∙ unmarked));
}
  where
    whole : take (length records) records ≡ records
    whole = take_all (length records) records (omega arith)

-- ---- a line

-- the stream of the open session
abbrev open_of : List Record → ℕ → List ℕ
open_of records conn = stream conn (closes conn records) records

-- the sessions that were, and one that began
each_begun : (records : List Record) (conn : ℕ) (old new : List Session) → BeginsNext old new
    → ((session : ℕ) (s : Session) → slice_get old session ≡ Some s → SessionHolds records conn session s)
    → stream conn (length old) records ≡ [] → marks_in records conn (length old) ≡ 0
    → (session : ℕ) (s : Session) → slice_get new session ≡ Some s → SessionHolds records conn session s
each_begun records conn old new begun each none unmarked session s is =
    each_next (SessionHolds records conn) old begun.session each (session_none records conn (length old) begun.session none unmarked begun.sent begun.marks) session s
    (ap (λ (l : List Session). slice_get l session) (sym begun.appended) ∙ is)

-- nothing came yet
pub line_none : (conn : ℕ) (line : Line) → StandsFor line.framer [] → BeginsNext [] line.sessions.items → LineHolds [] conn line
line_none conn line framer begun = record {
  count = ap (λ (l : List Session). length l) begun.appended;
  framer = framer;
  sessions = each_begun [] conn [] line.sessions.items begun (λ session s is. absurd (cc)) refl refl;
}

-- a record of another connection
line_other : (records : List Record) (r : Record) (conn : ℕ) (line : Line) → IsOfOther conn r → LineHolds records conn line → LineHolds (records ++ r ∷ []) conn line
line_other records r conn line other h = record {
  count = let count = h.count in omega (arith, still, count);
  framer = subst (StandsFor line.framer) (sym open_same) h.framer;
  sessions = λ session s is. session_same records r conn session s (h.sessions session s is)
      (bytes_other (closes conn records) conn session r other) (mark_other (closes conn records) conn session r other);
}
  where
    still : closes conn (records ++ r ∷ []) ≡ closes conn records
    still = let more = closes_more conn records r in let none = closes_other conn r other in omega (arith, more, none)

    open_same : open_of (records ++ r ∷ []) conn ≡ open_of records conn
    open_same = ap (λ (n : ℕ). stream conn n (records ++ r ∷ [])) still
        ∙ stream_same records r conn (closes conn records) (bytes_other (closes conn records) conn (closes conn records) r other)

module _ (records : List Record) (s : Segment) (old new : Line) (h : LineHolds records s.conn old) where
  abbrev now_closed : ℕ
  now_closed = closes s.conn records

  abbrev with_segment : List Record
  with_segment = records ++ Kinds.Segment s ∷ []

  still_closed : closes s.conn with_segment ≡ closes s.conn records
  still_closed = let more = closes_more s.conn records (Kinds.Segment s) in omega (arith, more)

  here_grown : stream s.conn now_closed with_segment ≡ open_of records s.conn ++ s.bytes
  here_grown = stream_more records (Kinds.Segment s) s.conn now_closed
      ∙ ap (λ (l : List ℕ). open_of records s.conn ++ l) (bytes_here now_closed s.conn now_closed s refl refl)

  open_grown : open_of with_segment s.conn ≡ open_of records s.conn ++ s.bytes
  open_grown = ap (λ (n : ℕ). stream s.conn n with_segment) still_closed ∙ here_grown

  -- the last session has changed
  line_set : (k : ℕ) (last t : Session) → k + 1 ≡ length old.sessions.items → slice_get old.sessions.items k ≡ Some last → new.sessions.items ≡ slice_set old.sessions.items k t
      → StandsFor new.framer (open_of records s.conn ++ s.bytes) → (SessionHolds records s.conn now_closed last → SessionHolds with_segment s.conn now_closed t) → LineHolds with_segment s.conn new
  line_set k last t at is sessions framer holds = record {
    count =
        let same = still_closed in
        let count = h.count in
        let long = ap (λ (l : List Session). length l) sessions ∙ length-set old.sessions.items k t in
        omega (arith, same, count, long);
    framer = subst (StandsFor new.framer) (sym open_grown) framer;
    sessions = λ session u there.
        let count = h.count in
        let last_is : k ≡ now_closed = omega (arith, at, count) in
        let got : slice_get (slice_set old.sessions.items k t) session ≡ Some u = ap (λ (l : List Session). slice_get l session) (sym sessions) ∙ there in
        dite (ℕ_discrete session k)
        (λ same.
        let both : Some t ≡ Some u = sym (slice_get-set old.sessions.items k t (omega (arith, at))) ∙ (λ i. slice_get (slice_set old.sessions.items k t) (sym same i)) ∙ got in
        let here : t ≡ u = cc in
        let place : now_closed ≡ session = omega (arith, same, last_is) in
        subst (λ (n : ℕ). SessionHolds with_segment s.conn n u) place
        (subst (SessionHolds with_segment s.conn now_closed) here
        (holds (subst (λ (n : ℕ). SessionHolds records s.conn n last) last_is (h.sessions k last is)))))
        (λ other.
        let back : slice_get old.sessions.items session ≡ Some u = sym (slice_get-set_other old.sessions.items k session t other) ∙ got in
        let differs : now_closed ≡ session → ⊥ = λ (now : now_closed ≡ session). other (omega (arith, now, last_is)) in
        session_same records (Kinds.Segment s) s.conn session u (h.sessions session u back)
        (bytes_else now_closed s.conn session s differs) (mark_else now_closed s.conn session s differs));
  }

  -- a segment with bytes
  line_sent : (k : ℕ) (last t : Session) (given : List FrameKind) → (s.bytes ≡ [] → ⊥) → k + 1 ≡ length old.sessions.items → slice_get old.sessions.items k ≡ Some last → new.sessions.items ≡ slice_set old.sessions.items k t
      → StandsFor new.framer (open_of records s.conn ++ s.bytes) → frames_of (open_of records s.conn ++ s.bytes) ≡ frames_of (open_of records s.conn) ++ given
      → t.sent.items ≡ last.sent.items ++ replicate (length given) (length records + 1) → t.marks ≡ last.marks → LineHolds with_segment s.conn new
  line_sent k last t given some at is sessions framer due sent marks = line_set k last t at is sessions framer
      (λ holds. session_sent records (Kinds.Segment s) s.conn now_closed last holds t given (ap frames_of here_grown ∙ due) (mark_bytes now_closed s.conn now_closed s some) sent marks)

  -- the same, as a framer was fed
  pub line_fed : (k : ℕ) (last t : Session) (before after : List FrameKind) (number moment : ℕ) → (s.bytes ≡ [] → ⊥) → k + 1 ≡ length old.sessions.items → slice_get old.sessions.items k ≡ Some last → new.sessions.items ≡ slice_set old.sessions.items k t
      → ((fed : List ℕ) → StandsFor old.framer fed → StandsFor new.framer (fed ++ s.bytes)) → ((fed : List ℕ) → StandsFor old.framer fed → Appends fed s.bytes before after) → before ≡ [] → number ≡ length after
      → moment ≡ length records + 1 → t.sent.items ≡ last.sent.items ++ replicate number moment → t.marks ≡ last.marks → LineHolds with_segment s.conn new
  line_fed k last t before after number moment some at is sessions fed due empty count now sent marks =
      let appends = due (open_of records s.conn) h.framer in
      let long = ap (λ (l : List FrameKind). length l) appends.appended ∙ length-append before appends.given in
      let none = ap (λ (l : List FrameKind). length l) empty in
      let number_is : number ≡ length appends.given = omega (arith, long, none, count) in
      line_sent k last t appends.given some at is sessions (fed (open_of records s.conn) h.framer) appends.due (sent ∙ (λ i. last.sent.items ++ replicate (number_is i) (now i))) marks

  -- a mark
  pub line_marked : (k : ℕ) (last t : Session) → s.bytes ≡ [] → k + 1 ≡ length old.sessions.items → slice_get old.sessions.items k ≡ Some last → new.sessions.items ≡ slice_set old.sessions.items k t
      → new.framer ≡ old.framer → t.sent ≡ last.sent → t.marks.items ≡ last.marks.items ++ (length records + 1) ∷ [] → LineHolds with_segment s.conn new
  line_marked k last t none at is sessions framer sent marks = line_set k last t at is sessions stands
      (λ holds. session_marked records (Kinds.Segment s) s.conn now_closed last holds (bytes_none now_closed s.conn now_closed s none) t
      (mark_here now_closed s.conn now_closed s refl refl none) sent marks)
    where
      stands : StandsFor new.framer (open_of records s.conn ++ s.bytes)
      stands = subst (StandsFor new.framer) (sym (ap (λ (l : List ℕ). open_of records s.conn ++ l) none ∙ append-nil (open_of records s.conn)))
          (subst (λ (f : _). StandsFor f (open_of records s.conn)) (sym framer) h.framer)

-- a close record
abbrev with_close : List Record → ℕ → List Record
with_close records conn = records ++ Kinds.Close conn ∷ []

pub line_closed : (records : List Record) (conn : ℕ) (old new : Line) → LineHolds records conn old → StandsFor new.framer [] → BeginsNext old.sessions.items new.sessions.items
    → LineHolds (records ++ Kinds.Close conn ∷ []) conn new
line_closed records conn old new h framer begun = record {
  count =
      let count = h.count in
      let long = ap (λ (l : List Session). length l) begun.appended ∙ length-append old.sessions.items (begun.session ∷ []) in
      omega (arith, closed_one, count, long);
  framer = subst (StandsFor new.framer) (sym open_none) framer;
  sessions = each_begun (with_close records conn) conn old.sessions.items new.sessions.items begun
      (λ session s is. session_same records (Kinds.Close conn) conn session s (h.sessions session s is)
      (bytes_close (closes conn records) conn session conn) (mark_close (closes conn records) conn session conn))
      (ap (λ (n : ℕ). stream conn n (with_close records conn)) size ∙ none_at) (ap (marks_in (with_close records conn) conn) size ∙ unmarked);
}
  where
    closed_one : closes conn (with_close records conn) ≡ closes conn records + 1
    closed_one =
        let more = closes_more conn records (Kinds.Close conn) in
        let one : closes conn (Kinds.Close conn ∷ []) ≡ 1 = ap (λ (b : Bool). if b then closes conn [] + 1 else closes conn []) (is_same conn conn refl) in
        omega (arith, more, one)

    size : length old.sessions.items ≡ closes conn records + 1
    size = h.count

    none_at : stream conn (closes conn records + 1) (with_close records conn) ≡ []
    none_at = stream_same records (Kinds.Close conn) conn (closes conn records + 1) (bytes_close (closes conn records) conn (closes conn records + 1) conn)
        ∙ stream_past records 0 conn (closes conn records + 1) (omega arith)

    open_none : open_of (with_close records conn) conn ≡ []
    open_none = ap (λ (n : ℕ). stream conn n (with_close records conn)) closed_one ∙ none_at

    unmarked : marks_in (with_close records conn) conn (closes conn records + 1) ≡ 0
    unmarked =
        let more = marks_more records (Kinds.Close conn) conn (closes conn records + 1) in
        let own = mark_close (closes conn records) conn (closes conn records + 1) conn in
        let past = marks_past records 0 conn (closes conn records + 1) (omega arith) in
        omega (arith, more, own, past)

-- ---- all connections

-- a record of a connection is of no other
of_other : (r : Record) (conn : ℕ) → (conn ≡ conn_of r → ⊥) → IsOfOther conn r
of_other (Kinds.Segment s) conn differs = λ same. differs (sym same)
of_other (Kinds.Close closed) conn differs = λ same. differs (sym same)

pub times_more : (old new : Times) (count : ℕ) (records : List Record) (r : Record) (line : Line) → TimesHold old count records → conn_of r < count → new.moment ≡ old.moment + 1 → new.lines.items ≡ slice_set old.lines.items (conn_of r) line
    → LineHolds (records ++ r ∷ []) (conn_of r) line → TimesHold new count (records ++ r ∷ [])
times_more old new count records r line h within now lines holds = record {
  count_is = ap (λ (l : List Line). length l) lines ∙ length-set old.lines.items (conn_of r) line ∙ h.count_is;
  now = let before = h.now in let size = length-append records (r ∷ []) in omega (arith, now, before, size);
  each = λ conn l is.
      let got : slice_get (slice_set old.lines.items (conn_of r) line) conn ≡ Some l = ap (λ (ls : List Line). slice_get ls conn) (sym lines) ∙ is in
      dite (ℕ_discrete conn (conn_of r))
      (λ same.
      let size = h.count_is in
      let both : Some line ≡ Some l = sym (slice_get-set old.lines.items (conn_of r) line (omega (arith, size, within))) ∙ (λ i. slice_get (slice_set old.lines.items (conn_of r) line) (sym same i)) ∙ got in
      let here : line ≡ l = cc in
      subst (λ (n : ℕ). LineHolds (records ++ r ∷ []) n l) (sym same) (subst (LineHolds (records ++ r ∷ []) (conn_of r)) here holds))
      (λ other. line_other records r conn l (of_other r conn other) (h.each conn l (sym (slice_get-set_other old.lines.items (conn_of r) conn line other) ∙ got)));
  others = λ conn session past.
      let more = marks_more records r conn session in
      let none = h.others conn session past in
      let own = mark_other (closes conn records) conn session r (of_other r conn (λ same. let low = within in omega (arith, same, low, past))) in
      omega (arith, more, none, own);
}
