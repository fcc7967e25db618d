-- Sessions that are not among the notes have no bytes and no marks.
use Rattle.std.specs.List.{slice_get}
use Rattle.std.specs.Prelude.{All, if◌then◌else◌, ◌⊎◌}
use Rattle.std.proofs.Common.{◌≡◌, ℕ, ◌+◌, ◌<◌, ◌≤◌, ◌==◌, ◌&&◌, Bool, List, [], ◌∷◌, ◌++◌, length, map, Option, None, Some, inl, inr, refl, ap, ◌∙◌, arith}
use Rattle.std.proofs.lemmas.List.{take_all}
use Rattle.std.proofs.lemmas.List.Elements.{All-head, All-tail}
use mathlib.Core.Logic.{dite}
use native.Mathlib.Decide.{dec_lt}
use Rattle.mc_parse.specs.declared.command.Command.{Command}
use Rattle.zy_capture.specs.declared.record.Record.{Record}
use Rattle.zy_capture.specs.declared.record.Record.TheVariants as Kinds
use Rattle.zy_capture.specs.Streams.{closes, stream, stream_after}
use Rattle.zy_frame.specs.Frame.{command_of}
use Rattle.zy_frame.specs.Cut.{commands_of}
use Rattle.zy_frame.proofs.CutLaws.{frames_of_nil}
use Rattle.zy_input.specs.Parts.{conn_of}
use Rattle.zy_times.specs.Sessions.{sent_in, marks_at, commands_of_session}
use Rattle.zy_times.specs.Times.{counted_mark, marks_in, marks_after}
use Rattle.zy_times.proofs.FirstLemmas.{later}
use Rattle.zy_times.proofs.RecordLemmas.{not_same, marks_past}
use Rattle.zy_times.proofs.SessionLemmas.{none_past, count_of, marks_count, sent_grows, sent_stays, marks_grow, marks_stay}
use Rattle.zy_times.proofs.StreamLemmas.{stream_past}
use Rattle.zy_sessions.specs.declared.line.Line.{Line}
use Rattle.zy_sessions.specs.declared.session.Session.{Session}
use Rattle.zy_sessions.specs.declared.sessions.Sessions.{Sessions}
use Rattle.zy_sessions.specs.Sessions.{SessionHolds, SessionsHold, HasNothing, session_in, session_at}

-- ---- by the records

-- no byte at the end, so none before
pub nothing_at : (records : List Record) (conn session : ℕ) → stream conn session records ≡ [] → marks_in records conn session ≡ 0 → HasNothing records conn session
nothing_at records conn session none unmarked = record {
  bytes = none;
  commands = no_commands;
  sent = λ moment.
      let below = later (sent_in records conn session) (sent_grows records conn session) moment (moment + length records) (omega arith) in
      let still = sent_stays records conn session (moment + length records) (omega arith) in
      let all = ap (count_of conn session) (take_all (length records) records (omega arith)) ∙ ap (λ (l : List Command). length l) no_commands in
      omega (arith, below, still, all);
  marks = λ moment.
      let below = later (marks_at records conn session) (marks_grow records conn session) moment (moment + length records) (omega arith) in
      let still = marks_stay records conn session (moment + length records) (omega arith) in
      let all = ap (marks_count conn session) (take_all (length records) records (omega arith)) ∙ unmarked in
      omega (arith, below, still, all);
}
  where
    no_commands : commands_of_session records conn session ≡ []
    no_commands = ap commands_of none ∙ ap (map command_of) frames_of_nil

module _ (count conn session : ℕ) (past : count ≤ conn) where
  stream_beyond : (before : ℕ) (records : List Record) → All (λ (item : Record). conn_of item < count) records → stream_after before conn session records ≡ []
  stream_beyond before [] all = refl
  stream_beyond before (Kinds.Segment s ∷ records) all =
      let first = All-head (λ (item : Record). conn_of item < count) (Kinds.Segment s) records all in
      ap (λ (b : Bool). if b && before == session then s.bytes ++ stream_after before conn session records else stream_after before conn session records)
      (not_same s.conn conn (λ same. let low = first in omega (arith, same, low, past)))
      ∙ stream_beyond before records (All-tail (λ (item : Record). conn_of item < count) (Kinds.Segment s) records all)
  stream_beyond before (Kinds.Close other ∷ records) all =
      let first = All-head (λ (item : Record). conn_of item < count) (Kinds.Close other) records all in
      ap (λ (b : Bool). if b then stream_after (before + 1) conn session records else stream_after before conn session records)
      (not_same other conn (λ same. let low = first in omega (arith, same, low, past)))
      ∙ stream_beyond before records (All-tail (λ (item : Record). conn_of item < count) (Kinds.Close other) records all)

  marks_beyond : (before : ℕ) (records : List Record) → All (λ (item : Record). conn_of item < count) records → marks_after before conn session records ≡ 0
  marks_beyond before [] all = refl
  marks_beyond before (Kinds.Segment s ∷ records) all =
      let first = All-head (λ (item : Record). conn_of item < count) (Kinds.Segment s) records all in
      ap (λ (b : Bool). if b && before == session then counted_mark s.bytes (marks_after before conn session records) else marks_after before conn session records)
      (not_same s.conn conn (λ same. let low = first in omega (arith, same, low, past)))
      ∙ marks_beyond before records (All-tail (λ (item : Record). conn_of item < count) (Kinds.Segment s) records all)
  marks_beyond before (Kinds.Close other ∷ records) all =
      let first = All-head (λ (item : Record). conn_of item < count) (Kinds.Close other) records all in
      ap (λ (b : Bool). if b then marks_after (before + 1) conn session records else marks_after before conn session records)
      (not_same other conn (λ same. let low = first in omega (arith, same, low, past)))
      ∙ marks_beyond before records (All-tail (λ (item : Record). conn_of item < count) (Kinds.Close other) records all)

-- ---- by the notes

module _ (sessions : Sessions) (count : ℕ) (records : List Record) (h : SessionsHold sessions count records) (conn session : ℕ) where
  from_line : (s : Session) (line : Option Line) → slice_get sessions.lines.items conn ≡ line → session_in line session ≡ Some s → SessionHolds records conn session s
  from_line s None at got = absurd (cc)
  from_line s (Some line) at got = (h.each conn line at).sessions session s got

  pub noted : (s : Session) → session_at sessions conn session ≡ Some s → SessionHolds records conn session s
  noted s is = from_line s (slice_get sessions.lines.items conn) refl is

  -- no connection has this number
  beyond : count ≤ conn → HasNothing records conn session
  beyond past = nothing_at records conn session (stream_beyond count conn session past 0 records h.within) (marks_beyond count conn session past 0 records h.within)

  -- the connection has not begun a session with this number
  behind : closes conn records < session → HasNothing records conn session
  behind past = nothing_at records conn session (stream_past records 0 conn session (omega (arith, past))) (marks_past records 0 conn session (omega (arith, past)))

  not_in_line : (line : Option Line) → slice_get sessions.lines.items conn ≡ line → session_in line session ≡ None → HasNothing records conn session
  not_in_line None at got =
      let few = none_past sessions.lines.items conn at in
      let size = h.count_is in
      beyond (omega (arith, few, size))
  not_in_line (Some line) at got =
      let few = none_past line.sessions.items session got in
      let size = (h.each conn line at).count in
      behind (omega (arith, few, size))

  -- within the bounds or without a byte
  pub within_or_nothing : ((conn < count) × (session < closes conn records + 1)) ⊎ HasNothing records conn session
  within_or_nothing = dite (dec_lt conn count)
      (λ low. dite (dec_lt session (closes conn records + 1)) (λ few. inl (low, few)) (λ many. inr (behind (omega (arith, many)))))
      (λ high. inr (beyond (omega (arith, high))))

-- a session that is not among the notes has nothing
pub others_have_nothing : (sessions : Sessions) (count : ℕ) (records : List Record) → SessionsHold sessions count records → (conn session : ℕ)
    → session_at sessions conn session ≡ None → HasNothing records conn session
others_have_nothing sessions count records h conn session is = not_in_line sessions count records h conn session (slice_get sessions.lines.items conn) refl is
