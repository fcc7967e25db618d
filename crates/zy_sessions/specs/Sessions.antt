-- What is noted of a capture while it is read: the commands of each session, when they were sent, and when its marks
-- came.
use Rattle.std.specs.Prelude.{◌≡◌, ◌↔◌, ℕ, ◌+◌, ◌<◌, true, List, [], length, All, Option, None, Some}
use Rattle.std.specs.BTreeSet.{BTreeSet, contains}
use Rattle.std.specs.Cmp.Lexicographic.{slice_cmp}
use Rattle.std.specs.List.{slice_get}
use Rattle.std.specs.Ordering.{nat_cmp}
use Rattle.zy_capture.specs.declared.record.Record.{Record}
use Rattle.zy_capture.specs.Streams.{closes, stream}
use Rattle.zy_frame.specs.Progress.{StandsFor}
use Rattle.zy_input.specs.Parts.{conn_of}
use Rattle.zy_times.specs.First.{AreRises}
use Rattle.zy_times.specs.Sessions.{commands_of_session, sent_in, marks_at}
use Rattle.zy_verdict.specs.Losses.{HasExptimeIn}
use Rattle.zy_sessions.specs.declared.session.Session.{Session}
use Rattle.zy_sessions.specs.declared.line.Line.{Line}
use Rattle.zy_sessions.specs.declared.sessions.Sessions.{Sessions}

-- ---- what is noted

-- the commands of a session, the moments at which they were sent, and those at which its marks had come
pub record SessionHolds (records : List Record) (conn session : ℕ) (s : Session) : Type 0 where
  pub commands : s.commands.items ≡ commands_of_session records conn session
  pub sent : AreRises (sent_in records conn session) (length records) s.sent.items
  pub marks : AreRises (marks_at records conn session) (length records) s.marks.items

-- the sessions of a connection, and what its framer is in the middle of
pub record LineHolds (records : List Record) (conn : ℕ) (line : Line) : Type 0 where
  pub count : length line.sessions.items ≡ closes conn records + 1
  pub framer : StandsFor line.framer (stream conn (closes conn records) records)
  pub sessions : (session : ℕ) (s : Session) → slice_get line.sessions.items session ≡ Some s
      → SessionHolds records conn session s

-- these are the keys to which some command gives an exptime other than 0
abbrev pub LastingHolds : BTreeSet (List ℕ) → List Record → Type 0
LastingHolds lasting records = (key : List ℕ)
    → (contains (slice_cmp nat_cmp) lasting key ≡ true ↔ HasExptimeIn records key)

-- these are the notes on the records of `count` connections
pub record SessionsHold (sessions : Sessions) (count : ℕ) (records : List Record) : Type 0 where
  pub count_is : length sessions.lines.items ≡ count
  pub now : sessions.moment ≡ length records
  pub each : (conn : ℕ) (line : Line) → slice_get sessions.lines.items conn ≡ Some line → LineHolds records conn line
  -- each record is of one of the connections
  pub within : All (λ (item : Record). conn_of item < count) records
  -- the keys whose items a server may lose
  pub lasting : LastingHolds sessions.lasting records

-- ---- one session

-- the session with this number on a line, if there is a line with it
abbrev pub session_in : Option Line → ℕ → Option Session
session_in None session = None
session_in (Some line) session = slice_get line.sessions.items session

-- the session with this number of a connection, if it is among the notes
abbrev pub session_at : Sessions → ℕ → ℕ → Option Session
session_at sessions conn session = session_in (slice_get sessions.lines.items conn) session

-- the session has no bytes and no marks
pub record HasNothing (records : List Record) (conn session : ℕ) : Type 0 where
  pub bytes : stream conn session records ≡ []
  pub commands : commands_of_session records conn session ≡ []
  pub sent : (moment : ℕ) → sent_in records conn session moment ≡ 0
  pub marks : (moment : ℕ) → marks_at records conn session moment ≡ 0
