-- The notes after one further record.
use Rattle.std.specs.BTreeMap.{is_at}
use Rattle.std.specs.BTreeSet.{BTreeSet, IsEmpty}
use Rattle.std.specs.Cmp.Lexicographic.{slice_cmp}
use Rattle.std.specs.List.{Contains, list_any, slice_get, slice_set}
use Rattle.std.specs.Ordering.{nat_cmp}
use Rattle.std.specs.Prelude.{if◌then◌else◌, Result, Ok, Err, OnOk}
use Rattle.std.proofs.Common.{◌≡◌, ℕ, ◌+◌, ◌<◌, ◌≤◌, Bool, true, false, List, [], ◌∷◌, ◌++◌, length, map, take, replicate, Some, refl, sym, ap, ◌∙◌, append_assoc, subst, arith}
use Rattle.std.proofs.lemmas.List.{append-nil, length-append, length-map, length-set, map-append, take_all}
use Rattle.std.proofs.lemmas.List.Elements.{All-nil, All-push}
use Rattle.std.proofs.lemmas.Option.{slice_get_within}
use mathlib.Core.Logic.{dite}
use native.Mathlib.Decide.{ℕ_discrete, dec_lt}
use Rattle.zy_base.proofs.SetLemmas.{slice_get-set, slice_get-set_other}
use Rattle.zy_capture.specs.declared.record.Record.{Record}
use Rattle.zy_capture.specs.declared.record.Record.TheVariants as Kinds
use Rattle.zy_capture.specs.declared.record.Segment.{Segment}
use Rattle.zy_capture.specs.Streams.{closes, stream}
use Rattle.mc_parse.specs.declared.command.Command.{Command}
use Rattle.zy_frame.specs.declared.frame_kind.FrameKind.{FrameKind}
use Rattle.zy_frame.specs.Frame.{command_of}
use Rattle.zy_frame.specs.Cut.{commands_of, frames_of}
use Rattle.zy_frame.specs.Feed.{Appends}
use Rattle.zy_frame.specs.Progress.{Progress, StandsFor}
use Rattle.zy_frame.proofs.CutLaws.{frames_of_nil}
use Rattle.zy_input.specs.Parts.{conn_of}
use Rattle.zy_check.proofs.ListLemmas.{get_append, get_behind}
use Rattle.zy_times.specs.First.{AreRises}
use Rattle.zy_times.specs.Sessions.{commands_of_session}
use Rattle.zy_times.specs.Times.{marks_in}
use Rattle.zy_times.proofs.CountLemmas.{counts_more, counts_same, counts_never}
use Rattle.zy_times.proofs.RecordLemmas.{closes_more, IsOfOther, is_same, closes_other, mark_of, marks_more, marks_rise, mark_other, mark_close, mark_else, mark_bytes, mark_here, marks_past}
use Rattle.zy_times.proofs.SessionLemmas.{count_of, marks_count, count_rises, no_commands}
use Rattle.zy_times.proofs.StreamLemmas.{bytes_of, stream_more, stream_same, bytes_other, bytes_close, bytes_else, bytes_none, bytes_here, stream_past}
use Rattle.zy_verdict.specs.Losses.{key_with_exptime}
use Rattle.zy_sessions.specs.declared.line.Line.{Line}
use Rattle.zy_sessions.specs.declared.session.Session.{Session}
use Rattle.zy_sessions.specs.declared.sessions.Sessions.{Sessions}
use Rattle.zy_sessions.specs.Sessions.{SessionHolds, LineHolds, LastingHolds, SessionsHold}
use Rattle.zy_sessions.specs.Noting.{Has, AppendsEmpty, AddsKey, AddsKeys}
use Rattle.zy_sessions.proofs.KeyLemmas.{keys_more, lasting_same, lasting_more}

-- ---- a session

module _ (records : List Record) (r : Record) (conn session : ℕ) (s : Session) (h : SessionHolds records conn session s) where
  abbrev one_more : List Record
  one_more = records ++ r ∷ []

  -- the record has none of its bytes
  module _ (none : bytes_of (closes conn records) conn session r ≡ []) where
    same_commands : commands_of_session one_more conn session ≡ commands_of_session records conn session
    same_commands = ap commands_of (stream_same records r conn session none)

    same_sent : AreRises (λ m. count_of conn session (take m one_more)) (length one_more) s.sent.items
    same_sent = counts_same (count_of conn session) (count_rises conn session) records r s.sent.items (ap (λ (l : List Command). length l) same_commands) h.sent

    -- and is no mark of it
    pub session_same : mark_of (closes conn records) conn session r ≡ 0 → SessionHolds one_more conn session s
    session_same unmarked = record {
      commands = h.commands ∙ sym same_commands;
      sent = same_sent;
      marks = counts_same (marks_count conn session) (λ rs x. marks_rise rs x conn session) records r s.marks.items
          (let more = marks_more records r conn session in omega (arith, more, unmarked)) h.marks;
    }

    -- and is a mark of it
    pub session_marked : (t : Session) → mark_of (closes conn records) conn session r ≡ 1 → t.commands ≡ s.commands → t.sent ≡ s.sent
        → t.marks.items ≡ s.marks.items ++ (length records + 1) ∷ [] → SessionHolds one_more conn session t
    session_marked t one commands sent more = record {
      commands = ap (λ (v : _). v.items) commands ∙ h.commands ∙ sym same_commands;
      sent = subst (λ (v : _). AreRises (λ m. count_of conn session (take m one_more)) (length one_more) v.items) (sym sent) same_sent;
      marks = subst (AreRises (λ m. marks_in (take m one_more) conn session) (length one_more)) (sym more)
          (counts_more (marks_count conn session) (λ rs x. marks_rise rs x conn session) records r 1 s.marks.items
          (let grown = marks_more records r conn session in omega (arith, grown, one)) h.marks);
    }

  -- it brought these frames
  pub session_sent : (t : Session) (given : List FrameKind) → frames_of (stream conn session one_more) ≡ frames_of (stream conn session records) ++ given
      → mark_of (closes conn records) conn session r ≡ 0 → t.commands.items ≡ s.commands.items ++ map command_of given
      → t.sent.items ≡ s.sent.items ++ replicate (length given) (length records + 1) → t.marks ≡ s.marks → SessionHolds one_more conn session t
  session_sent t given due unmarked commands sent marks = record {
    commands = commands ∙ ap (λ (l : List Command). l ++ map command_of given) h.commands ∙ sym (ap (map command_of) due ∙ map-append command_of (frames_of (stream conn session records)) given);
    sent = subst (AreRises (λ m. count_of conn session (take m one_more)) (length one_more)) (sym sent)
        (counts_more (count_of conn session) (count_rises conn session) records r (length given) s.sent.items count_is h.sent);
    marks = subst (λ (v : _). AreRises (λ m. marks_in (take m one_more) conn session) (length one_more) v.items) (sym marks)
        (counts_same (marks_count conn session) (λ rs x. marks_rise rs x conn session) records r s.marks.items
        (let more = marks_more records r conn session in omega (arith, more, unmarked)) h.marks);
  }
    where
      count_is : count_of conn session one_more ≡ count_of conn session records + length given
      count_is =
          let long = ap (λ (l : List FrameKind). length l) due ∙ length-append (frames_of (stream conn session records)) given in
          let new = length-map (frames_of (stream conn session one_more)) command_of in
          let old = length-map (frames_of (stream conn session records)) command_of in
          omega (arith, long, new, old)

-- a session that has just begun
pub session_none : (records : List Record) (conn session : ℕ) (s : Session) → stream conn session records ≡ [] → marks_in records conn session ≡ 0
    → s.commands.items ≡ [] → s.sent.items ≡ [] → s.marks.items ≡ [] → SessionHolds records conn session s
session_none records conn session s none unmarked commands sent marks = record {
  commands = commands ∙ sym no_commands_yet;
  sent = subst (AreRises (λ m. count_of conn session (take m records)) (length records)) (sym sent)
      (counts_never (count_of conn session) records (ap (count_of conn session) whole ∙ ap (λ (l : List Command). length l) no_commands_yet));
  marks = subst (AreRises (λ m. marks_in (take m records) conn session) (length records)) (sym marks)
      (counts_never (marks_count conn session) records (ap (marks_count conn session) whole ∙ unmarked));
}
  where
    whole : take (length records) records ≡ records
    whole = take_all (length records) records (omega arith)

    no_commands_yet : commands_of_session records conn session ≡ []
    no_commands_yet = ap commands_of none ∙ no_commands

-- ---- a line

-- the stream of the open session
abbrev open_of : List Record → ℕ → List ℕ
open_of records conn = stream conn (closes conn records) records

-- the sessions that were, and one that began
each_begun : (records : List Record) (conn : ℕ) (old new : List Session) → AppendsEmpty old new
    → ((session : ℕ) (s : Session) → slice_get old session ≡ Some s → SessionHolds records conn session s)
    → stream conn (length old) records ≡ [] → marks_in records conn (length old) ≡ 0
    → (session : ℕ) (s : Session) → slice_get new session ≡ Some s → SessionHolds records conn session s
each_begun records conn old new begun each none unmarked session s is = dite (dec_lt session (length old))
    (λ low. each session s (sym (get_append old (begun.session ∷ []) session low) ∙ got))
    (λ high.
    let below = slice_get_within (old ++ begun.session ∷ []) session s got in
    let long = length-append old (begun.session ∷ []) in
    let at : session ≡ length old + 0 = omega (arith, below, long, high) in
    let last : length old ≡ session = omega (arith, at) in
    let both : Some begun.session ≡ Some s = sym (get_behind old (begun.session ∷ []) 0) ∙ ap (slice_get (old ++ begun.session ∷ [])) (sym at) ∙ got in
    let here : begun.session ≡ s = cc in
    subst (λ (n : ℕ). SessionHolds records conn n s) last
    (subst (SessionHolds records conn (length old)) here (session_none records conn (length old) begun.session none unmarked begun.commands begun.sent begun.marks)))
  where
    got : slice_get (old ++ begun.session ∷ []) session ≡ Some s
    got = ap (λ (l : List Session). slice_get l session) (sym begun.appended) ∙ is

-- nothing came yet
pub line_none : (conn : ℕ) (line : Line) → StandsFor line.framer [] → AppendsEmpty [] line.sessions.items → LineHolds [] conn line
line_none conn line framer begun = record {
  count = ap (λ (l : List Session). length l) begun.appended;
  framer = framer;
  sessions = each_begun [] conn [] line.sessions.items begun (λ session s is. absurd (cc)) refl refl;
}

-- a record of another connection
pub line_other : (records : List Record) (r : Record) (conn : ℕ) (line : Line) → IsOfOther conn r → LineHolds records conn line → LineHolds (records ++ r ∷ []) conn line
line_other records r conn line other h = record {
  count = let count = h.count in omega (arith, still, count);
  framer = subst (StandsFor line.framer) (sym open_same) h.framer;
  sessions = λ session s is. session_same records r conn session s (h.sessions session s is)
      (bytes_other (closes conn records) conn session r other) (mark_other (closes conn records) conn session r other);
}
  where
    still : closes conn (records ++ r ∷ []) ≡ closes conn records
    still = let more = closes_more conn records r in let none = closes_other conn r other in omega (arith, more, none)

    open_same : open_of (records ++ r ∷ []) conn ≡ open_of records conn
    open_same = ap (λ (n : ℕ). stream conn n (records ++ r ∷ [])) still
        ∙ stream_same records r conn (closes conn records) (bytes_other (closes conn records) conn (closes conn records) r other)

module _ (records : List Record) (s : Segment) (old new : Line) (h : LineHolds records s.conn old) where
  abbrev now_closed : ℕ
  now_closed = closes s.conn records

  abbrev with_segment : List Record
  with_segment = records ++ Kinds.Segment s ∷ []

  still_closed : closes s.conn with_segment ≡ closes s.conn records
  still_closed = let more = closes_more s.conn records (Kinds.Segment s) in omega (arith, more)

  here_grown : stream s.conn now_closed with_segment ≡ open_of records s.conn ++ s.bytes
  here_grown = stream_more records (Kinds.Segment s) s.conn now_closed
      ∙ ap (λ (l : List ℕ). open_of records s.conn ++ l) (bytes_here now_closed s.conn now_closed s refl refl)

  open_grown : open_of with_segment s.conn ≡ open_of records s.conn ++ s.bytes
  open_grown = ap (λ (n : ℕ). stream s.conn n with_segment) still_closed ∙ here_grown

  -- the last session has changed
  line_set : (k : ℕ) (last t : Session) → k + 1 ≡ length old.sessions.items → slice_get old.sessions.items k ≡ Some last → new.sessions.items ≡ slice_set old.sessions.items k t
      → StandsFor new.framer (open_of records s.conn ++ s.bytes) → (SessionHolds records s.conn now_closed last → SessionHolds with_segment s.conn now_closed t) → LineHolds with_segment s.conn new
  line_set k last t at is sessions framer holds = record {
    count =
        let same = still_closed in
        let count = h.count in
        let long = ap (λ (l : List Session). length l) sessions ∙ length-set old.sessions.items k t in
        omega (arith, same, count, long);
    framer = subst (StandsFor new.framer) (sym open_grown) framer;
    sessions = λ session u there.
        let count = h.count in
        let last_is : k ≡ now_closed = omega (arith, at, count) in
        let got : slice_get (slice_set old.sessions.items k t) session ≡ Some u = ap (λ (l : List Session). slice_get l session) (sym sessions) ∙ there in
        dite (ℕ_discrete session k)
        (λ same.
        let both : Some t ≡ Some u = sym (slice_get-set old.sessions.items k t (omega (arith, at))) ∙ (λ i. slice_get (slice_set old.sessions.items k t) (sym same i)) ∙ got in
        let here : t ≡ u = cc in
        let place : now_closed ≡ session = omega (arith, same, last_is) in
        subst (λ (n : ℕ). SessionHolds with_segment s.conn n u) place
        (subst (SessionHolds with_segment s.conn now_closed) here
        (holds (subst (λ (n : ℕ). SessionHolds records s.conn n last) last_is (h.sessions k last is)))))
        (λ other.
        let back : slice_get old.sessions.items session ≡ Some u = sym (slice_get-set_other old.sessions.items k session t other) ∙ got in
        let differs : now_closed ≡ session → ⊥ = λ (now : now_closed ≡ session). other (omega (arith, now, last_is)) in
        session_same records (Kinds.Segment s) s.conn session u (h.sessions session u back)
        (bytes_else now_closed s.conn session s differs) (mark_else now_closed s.conn session s differs));
  }

  -- a segment with bytes
  pub line_sent : (k : ℕ) (last t : Session) (given : List FrameKind) → (s.bytes ≡ [] → ⊥) → k + 1 ≡ length old.sessions.items → slice_get old.sessions.items k ≡ Some last → new.sessions.items ≡ slice_set old.sessions.items k t
      → StandsFor new.framer (open_of records s.conn ++ s.bytes) → frames_of (open_of records s.conn ++ s.bytes) ≡ frames_of (open_of records s.conn) ++ given
      → t.commands.items ≡ last.commands.items ++ map command_of given → t.sent.items ≡ last.sent.items ++ replicate (length given) (length records + 1) → t.marks ≡ last.marks
      → LineHolds with_segment s.conn new
  line_sent k last t given some at is sessions framer due commands sent marks = line_set k last t at is sessions framer
      (λ holds. session_sent records (Kinds.Segment s) s.conn now_closed last holds t given (ap frames_of here_grown ∙ due)
      (mark_bytes now_closed s.conn now_closed s some) commands sent marks)

  -- a mark
  pub line_marked : (k : ℕ) (last t : Session) → s.bytes ≡ [] → k + 1 ≡ length old.sessions.items → slice_get old.sessions.items k ≡ Some last → new.sessions.items ≡ slice_set old.sessions.items k t
      → new.framer ≡ old.framer → t.commands ≡ last.commands → t.sent ≡ last.sent → t.marks.items ≡ last.marks.items ++ (length records + 1) ∷ [] → LineHolds with_segment s.conn new
  line_marked k last t none at is sessions framer commands sent marks = line_set k last t at is sessions stands
      (λ holds. session_marked records (Kinds.Segment s) s.conn now_closed last holds (bytes_none now_closed s.conn now_closed s none) t
      (mark_here now_closed s.conn now_closed s refl refl none) commands sent marks)
    where
      stands : StandsFor new.framer (open_of records s.conn ++ s.bytes)
      stands = subst (StandsFor new.framer) (sym (ap (λ (l : List ℕ). open_of records s.conn ++ l) none ∙ append-nil (open_of records s.conn)))
          (subst (λ (f : _). StandsFor f (open_of records s.conn)) (sym framer) h.framer)

-- a close record
abbrev with_close : List Record → ℕ → List Record
with_close records conn = records ++ Kinds.Close conn ∷ []

pub line_closed : (records : List Record) (conn : ℕ) (old new : Line) → LineHolds records conn old → StandsFor new.framer [] → AppendsEmpty old.sessions.items new.sessions.items
    → LineHolds (records ++ Kinds.Close conn ∷ []) conn new
line_closed records conn old new h framer begun = record {
  count =
      let count = h.count in
      let long = ap (λ (l : List Session). length l) begun.appended ∙ length-append old.sessions.items (begun.session ∷ []) in
      omega (arith, closed_one, count, long);
  framer = subst (StandsFor new.framer) (sym open_none) framer;
  sessions = each_begun (with_close records conn) conn old.sessions.items new.sessions.items begun
      (λ session s is. session_same records (Kinds.Close conn) conn session s (h.sessions session s is)
      (bytes_close (closes conn records) conn session conn) (mark_close (closes conn records) conn session conn))
      (ap (λ (n : ℕ). stream conn n (with_close records conn)) size ∙ none_at) (ap (marks_in (with_close records conn) conn) size ∙ unmarked);
}
  where
    closed_one : closes conn (with_close records conn) ≡ closes conn records + 1
    closed_one =
        let more = closes_more conn records (Kinds.Close conn) in
        let one : closes conn (Kinds.Close conn ∷ []) ≡ 1 = ap (λ (b : Bool). if b then closes conn [] + 1 else closes conn []) (is_same conn conn refl) in
        omega (arith, more, one)

    size : length old.sessions.items ≡ closes conn records + 1
    size = h.count

    none_at : stream conn (closes conn records + 1) (with_close records conn) ≡ []
    none_at = stream_same records (Kinds.Close conn) conn (closes conn records + 1) (bytes_close (closes conn records) conn (closes conn records + 1) conn)
        ∙ stream_past records 0 conn (closes conn records + 1) (omega arith)

    open_none : open_of (with_close records conn) conn ≡ []
    open_none = ap (λ (n : ℕ). stream conn n (with_close records conn)) closed_one ∙ none_at

    unmarked : marks_in (with_close records conn) conn (closes conn records + 1) ≡ 0
    unmarked =
        let more = marks_more records (Kinds.Close conn) conn (closes conn records + 1) in
        let own = mark_close (closes conn records) conn (closes conn records + 1) conn in
        let past = marks_past records 0 conn (closes conn records + 1) (omega arith) in
        omega (arith, more, own, past)

-- ---- all lines

-- a record of a connection is of no other
pub of_other : (r : Record) (conn : ℕ) → (conn ≡ conn_of r → ⊥) → IsOfOther conn r
of_other (Kinds.Segment s) conn differs = λ same. differs (sym same)
of_other (Kinds.Close closed) conn differs = λ same. differs (sym same)

module _ (old new : Sessions) (count : ℕ) (records : List Record) (r : Record) (line : Line) (h : SessionsHold old count records) where
  pub sessions_more : conn_of r < count → new.moment ≡ old.moment + 1 → new.lines.items ≡ slice_set old.lines.items (conn_of r) line → LineHolds (records ++ r ∷ []) (conn_of r) line
      → LastingHolds new.lasting (records ++ r ∷ []) → SessionsHold new count (records ++ r ∷ [])
  sessions_more within now lines holds lasting = record {
    count_is = ap (λ (l : List Line). length l) lines ∙ length-set old.lines.items (conn_of r) line ∙ h.count_is;
    now = let before = h.now in let size = length-append records (r ∷ []) in omega (arith, now, before, size);
    each = λ conn l is.
        let got : slice_get (slice_set old.lines.items (conn_of r) line) conn ≡ Some l = ap (λ (ls : List Line). slice_get ls conn) (sym lines) ∙ is in
        dite (ℕ_discrete conn (conn_of r))
        (λ same.
        let size = h.count_is in
        let both : Some line ≡ Some l = sym (slice_get-set old.lines.items (conn_of r) line (omega (arith, size, within))) ∙ (λ i. slice_get (slice_set old.lines.items (conn_of r) line) (sym same i)) ∙ got in
        let here : line ≡ l = cc in
        subst (λ (n : ℕ). LineHolds (records ++ r ∷ []) n l) (sym same) (subst (LineHolds (records ++ r ∷ []) (conn_of r)) here holds))
        (λ other. line_other records r conn l (of_other r conn other) (h.each conn l (sym (slice_get-set_other old.lines.items (conn_of r) conn line other) ∙ got)));
    within = All-push (λ (item : Record). conn_of item < count) records r h.within within;
    lasting = lasting;
  }

-- ---- keys with an exptime

-- a record without bytes
pub lasting_quiet : (lasting : BTreeSet (List ℕ)) (records : List Record) (r : Record) → ((conn session : ℕ) → bytes_of (closes conn records) conn session r ≡ []) → LastingHolds lasting records → LastingHolds lasting (records ++ r ∷ [])
lasting_quiet lasting records r none = lasting_same lasting records (records ++ r ∷ []) (λ conn session. ap frames_of (stream_same records r conn session (none conn session)))

pub lasting_closed : (lasting : BTreeSet (List ℕ)) (records : List Record) (conn : ℕ) → LastingHolds lasting records → LastingHolds lasting (records ++ Kinds.Close conn ∷ [])
lasting_closed lasting records conn = lasting_quiet lasting records (Kinds.Close conn) (λ c session. bytes_close (closes c records) c session conn)

pub lasting_marked : (lasting : BTreeSet (List ℕ)) (records : List Record) (s : Segment) → s.bytes ≡ [] → LastingHolds lasting records → LastingHolds lasting (records ++ Kinds.Segment s ∷ [])
lasting_marked lasting records s none = lasting_quiet lasting records (Kinds.Segment s) (λ c session. bytes_none (closes c records) c session s none)

-- a segment that brought these frames
pub lasting_sent : (before after : BTreeSet (List ℕ)) (records : List Record) (s : Segment) (given : List FrameKind) → frames_of (open_of records s.conn ++ s.bytes) ≡ frames_of (open_of records s.conn) ++ given
    → AddsKeys before after given → LastingHolds before records → LastingHolds after (records ++ Kinds.Segment s ∷ [])
lasting_sent before after records s given due adds =
    lasting_more before after records (records ++ Kinds.Segment s ∷ []) s.conn (closes s.conn records) given
    (ap frames_of (stream_more records (Kinds.Segment s) s.conn (closes s.conn records)
    ∙ ap (λ (l : List ℕ). open_of records s.conn ++ l) (bytes_here (closes s.conn records) s.conn (closes s.conn records) s refl refl)) ∙ due)
    (λ c k other. ap frames_of (stream_same records (Kinds.Segment s) c k (none c k other)))
    adds
  where
    none : (c k : ℕ) → ((c ≡ s.conn) × (k ≡ closes s.conn records) → ⊥) → bytes_of (closes c records) c k (Kinds.Segment s) ≡ []
    none c k other = dite (ℕ_discrete s.conn c)
        (λ mine. bytes_else (closes c records) c k s (λ now. other (sym mine, sym now ∙ ap (λ (n : ℕ). closes n records) (sym mine))))
        (λ differs. bytes_other (closes c records) c k (Kinds.Segment s) differs)

-- no record came yet
pub sessions_none : (sessions : Sessions) (count : ℕ) → length sessions.lines.items ≡ count → sessions.moment ≡ 0
    → ((conn : ℕ) (line : Line) → slice_get sessions.lines.items conn ≡ Some line → LineHolds [] conn line) → IsEmpty sessions.lasting → SessionsHold sessions count []
sessions_none sessions count size now each none = record {
  count_is = size;
  now = now;
  each = each;
  within = All-nil (λ (item : Record). conn_of item < count);
  lasting = λ key. (
    λ has. absurd (nothing_in key has),
    λ at. absurd (nothing_sent at.frame (subst (λ (l : List FrameKind). Contains l at.frame) frames_of_nil at.sent)),
  );
}
  where
    nothing_in : (key : List ℕ) → Has sessions.lasting key → ⊥
    nothing_in key has = let is : false ≡ true = sym (ap (λ (keys : List (List ℕ)). list_any (is_at (slice_cmp nat_cmp key)) keys) none) ∙ has in absurd (cc)

    nothing_sent : (frame : FrameKind) → Contains [] frame → ⊥
    nothing_sent frame at = let within = at.1 in omega (arith, within)

-- ---- a framer was fed

module _ (records : List Record) (s : Segment) (old : Line) (h : LineHolds records s.conn old) (framer : Progress) (before after : List FrameKind)
    (fed : (f : List ℕ) → StandsFor old.framer f → StandsFor framer (f ++ s.bytes)) (due : (f : List ℕ) → StandsFor old.framer f → Appends f s.bytes before after) (empty : before ≡ []) where
  appends : Appends (open_of records s.conn) s.bytes before after
  appends = due (open_of records s.conn) h.framer

  -- the frames that it gave
  after_is : appends.given ≡ after
  after_is = sym (appends.appended ∙ ap (λ (l : List FrameKind). l ++ appends.given) empty)

  after_due : frames_of (open_of records s.conn ++ s.bytes) ≡ frames_of (open_of records s.conn) ++ after
  after_due = appends.due ∙ ap (λ (l : List FrameKind). frames_of (open_of records s.conn) ++ l) after_is

  pub line_fed : (new : Line) (k : ℕ) (last t : Session) (moment : ℕ) → (s.bytes ≡ [] → ⊥) → k + 1 ≡ length old.sessions.items → slice_get old.sessions.items k ≡ Some last → new.sessions.items ≡ slice_set old.sessions.items k t
      → new.framer ≡ framer → moment ≡ length records + 1 → t.commands.items ≡ last.commands.items ++ map command_of after → t.sent.items ≡ last.sent.items ++ replicate (length after) moment → t.marks ≡ last.marks
      → LineHolds (records ++ Kinds.Segment s ∷ []) s.conn new
  line_fed new k last t moment some at is sessions same now commands sent marks =
      line_sent records s old new h k last t after some at is sessions (subst (λ (f : Progress). StandsFor f (open_of records s.conn ++ s.bytes)) (sym same) (fed (open_of records s.conn) h.framer))
      after_due commands (sent ∙ ap (λ (m : ℕ). last.sent.items ++ replicate (length after) m) now) marks

  pub lasting_fed : (lasting lasting' : BTreeSet (List ℕ)) → AddsKeys lasting lasting' after → LastingHolds lasting records → LastingHolds lasting' (records ++ Kinds.Segment s ∷ [])
  lasting_fed lasting lasting' adds = lasting_sent lasting lasting' records s after after_due adds

-- ---- one further frame

module _ (frame : FrameKind) (frames rest : List FrameKind) (is : frames ≡ frame ∷ rest) where
  pub commands_on : (old new whole : List Command) → new ≡ old ++ command_of frame ∷ [] → old ++ map command_of frames ≡ whole → new ++ map command_of rest ≡ whole
  commands_on old new whole more all =
      ap (λ (l : List Command). l ++ map command_of rest) more ∙ append_assoc old (command_of frame ∷ []) (map command_of rest)
      ∙ ap (λ (l : List FrameKind). old ++ map command_of l) (sym is) ∙ all

  pub sent_on : (old new whole : List ℕ) (moment : ℕ) → new ≡ old ++ moment ∷ [] → old ++ replicate (length frames) moment ≡ whole → new ++ replicate (length rest) moment ≡ whole
  sent_on old new whole moment more all =
      ap (λ (l : List ℕ). l ++ replicate (length rest) moment) more ∙ append_assoc old (moment ∷ []) (replicate (length rest) moment)
      ∙ ap (λ (l : List FrameKind). old ++ replicate (length l) moment) (sym is) ∙ all

  pub keys_on : (old mid new : BTreeSet (List ℕ)) → AddsKey old mid (key_with_exptime frame) → AddsKeys mid new rest → AddsKeys old new frames
  keys_on old mid new one others = subst (AddsKeys old new) (sym is) (keys_more old mid new frame rest one others)

-- ---- small things

pub no_bytes_if : (bytes : List ℕ) → length bytes ≡ 0 → bytes ≡ []
no_bytes_if [] none = refl
no_bytes_if (byte ∷ bytes) none = absurd (omega (arith, none))

-- what holds anyway
pub holds_on_ok : {T E P : Type 0} (r : Result T E) → P → OnOk r P
holds_on_ok (Ok x) p = p
holds_on_ok (Err e) p = tt
