-- What is checked when an order was followed to its end. No public clause cites this module.
use Rattle.std.specs.Prelude.{◌≡◌, ℕ, ◌+◌, ◌<◌, ◌≤◌, List, [], length, Option, None, Some}
use Rattle.std.specs.BTreeSet.{BTreeSet}
use Rattle.zy_capture.specs.declared.record.Record.{Record}
use Rattle.zy_capture.specs.Streams.{sessions_of}
use Rattle.zy_times.specs.First.{AreRises}
use Rattle.zy_times.specs.InTime.{total_below}
use Rattle.zy_times.specs.Sessions.{sent_in, marks_at, MarksFitIn}
use Rattle.zy_verdict.specs.Entries.{MadeCall}
use Rattle.zy_verdict.specs.Numbers.{ended_among}
use Rattle.zy_confirm.specs.declared.store.Store.{Store}
use Rattle.zy_sessions.specs.declared.session.Session.{Session}
use Rattle.zy_sessions.specs.declared.sessions.Sessions.{Sessions}
use Rattle.zy_sessions.specs.Sessions.{session_at}
use Rattle.zy_explain.specs.declared.rules.Rules.{Rules}
use Rattle.zy_explain.specs.declared.state.State.{State}
use Rattle.zy_explain.specs.declared.track.Track.{Track}
use Rattle.zy_explain.specs.declared.row.Row.{Row}
use Rattle.zy_explain.specs.declared.numbers.Numbers.{Numbers}
use Rattle.zy_explain.specs.Over.{IsWholeAt}
use Rattle.zy_explain.specs.Following.{output_in, track_at, sessions_on, Stands}

-- ---- one session

-- no call of the next command was made, the output is cut to its end or goes on with what answers no command, and the
-- marks fit
pub record EndsRight (s : Session) (output : List ℕ) (t : Track) : Type 0 where
  pub none : t.saids.items ≡ []
  pub whole : IsWholeAt s.commands.items output t.answered.items t.at
  pub few : length t.answered.items ≤ length s.sent.items
  pub fit : (records : List Record) (conn session : ℕ)
      → AreRises (sent_in records conn session) (length records) s.sent.items
      → AreRises (marks_at records conn session) (length records) s.marks.items
      → (moment : ℕ) → MarksFitIn records conn session t.answered.items moment

-- how many commands a session has
abbrev pub commands_in : Option Session → ℕ
commands_in None = 0
commands_in (Some s) = length s.commands.items

-- how many of a session's commands some mark ends
abbrev pub ended_in : Option Session → Option Track → ℕ
ended_in (Some s) (Some t) = ended_among (length s.marks.items) t.answered.items
ended_in s t = 0

-- the numbers of a session, which ends right, were added
pub record AddsSession (sessions : Sessions) (outputs : List (List (List ℕ))) (rows : List Row) (conn session : ℕ)
    (before after : Numbers) : Type 0 where
  pub s : Session
  pub t : Track
  pub is : session_at sessions conn session ≡ Some s
  pub has : track_at rows conn session ≡ Some t
  pub right : EndsRight s (output_in outputs conn session) t
  pub commands : after.commands ≡ before.commands + commands_in (Some s)
  pub ended : after.ended ≡ before.ended + ended_in (Some s) (Some t)

-- ---- all sessions

-- each session of a connection ends right, if its number is below this one
abbrev pub AllEndRight : Sessions → List (List (List ℕ)) → List Row → ℕ → ℕ → Type 0
AllEndRight sessions outputs rows conn number = (session : ℕ) (s : Session) (t : Track) → session < number
    → session_at sessions conn session ≡ Some s → track_at rows conn session ≡ Some t
    → EndsRight s (output_in outputs conn session) t

-- the numbers of a connection's sessions below this one, all of which end right
pub record AreLineNumbers (sessions : Sessions) (outputs : List (List (List ℕ))) (rows : List Row) (conn number : ℕ)
    (n : Numbers) : Type 0 where
  pub right : AllEndRight sessions outputs rows conn number
  pub commands : n.commands ≡ total_below (λ session. commands_in (session_at sessions conn session)) number
  pub ended : n.ended ≡ total_below (λ session. ended_in (session_at sessions conn session)
      (track_at rows conn session)) number

-- the numbers of the sessions of the connections below this one, all of which end right
pub record AreNumbers (sessions : Sessions) (outputs : List (List (List ℕ))) (rows : List Row) (count : ℕ) (n : Numbers)
    : Type 0 where
  pub right : (conn : ℕ) → conn < count → AllEndRight sessions outputs rows conn (sessions_on sessions conn)
  pub commands : n.commands ≡ total_below (λ conn. total_below (λ session.
      commands_in (session_at sessions conn session)) (sessions_on sessions conn)) count
  pub ended : n.ended ≡ total_below (λ conn. total_below (λ session. ended_in (session_at sessions conn session)
      (track_at rows conn session)) (sessions_on sessions conn)) count

-- entries that stand were made of an order, and these are the numbers of their recording
pub record EndsAs (rules : Rules) (lasting : BTreeSet (List ℕ)) (sessions : Sessions)
    (outputs : List (List (List ℕ))) (began : Store) (state : State) (n : Numbers) : Type 0 where
  pub entries : List MadeCall
  pub stands : Stands rules lasting sessions outputs began state entries
  pub numbers : AreNumbers sessions outputs state.rows.items (length sessions.lines.items) n

-- each output is that of a session
pub record HaveTheirSessions (sessions : Sessions) (outputs : List (List (List ℕ))) : Type 0 where
  pub connections : length outputs ≤ length sessions.lines.items
  pub within : (conn : ℕ) → conn < length outputs → length (sessions_of outputs conn) ≤ sessions_on sessions conn
