-- What is kept of the records of a capture while it is read. Public clauses cite only `TimesHold` of this module.
use Rattle.std.specs.Prelude.{◌≡◌, ℕ, ◌+◌, ◌≤◌, List, [], ◌∷◌, ◌++◌, length, Some}
use Rattle.std.specs.List.{slice_get}
use Rattle.zy_capture.specs.declared.record.Record.{Record}
use Rattle.zy_capture.specs.Streams.{closes, stream}
use Rattle.zy_frame.specs.Progress.{StandsFor}
use Rattle.zy_times.specs.declared.line.Line.{Line}
use Rattle.zy_times.specs.declared.session.Session.{Session}
use Rattle.zy_times.specs.declared.times.Times.{Times}
use Rattle.zy_times.specs.First.{AreRises}
use Rattle.zy_times.specs.Sessions.{sent_in, marks_at}
use Rattle.zy_times.specs.Times.{marks_in}

-- the moments at which a session's commands were sent, and those at which its marks had come
pub record SessionHolds (records : List Record) (conn session : ℕ) (s : Session) : Type 0 where
  pub sent : AreRises (sent_in records conn session) (length records) s.sent.items
  pub marks : AreRises (marks_at records conn session) (length records) s.marks.items

-- a session without commands and marks was appended
pub record BeginsNext (before after : List Session) : Type 0 where
  pub session : Session
  pub appended : after ≡ before ++ session ∷ []
  pub sent : session.sent.items ≡ []
  pub marks : session.marks.items ≡ []

-- the sessions of a connection, and what its framer is in the middle of
pub record LineHolds (records : List Record) (conn : ℕ) (line : Line) : Type 0 where
  pub count : length line.sessions.items ≡ closes conn records + 1
  pub framer : StandsFor line.framer (stream conn (closes conn records) records)
  pub sessions : (session : ℕ) (s : Session) → slice_get line.sessions.items session ≡ Some s
      → SessionHolds records conn session s

-- these are the times of the records of `count` connections
pub record TimesHold (times : Times) (count : ℕ) (records : List Record) : Type 0 where
  pub count_is : length times.lines.items ≡ count
  pub now : times.moment ≡ length records
  pub each : (conn : ℕ) (line : Line) → slice_get times.lines.items conn ≡ Some line → LineHolds records conn line
  -- no mark is of another connection
  pub others : (conn session : ℕ) → count ≤ conn → marks_in records conn session ≡ 0
