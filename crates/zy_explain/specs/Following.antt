-- How far an order was followed. No public clause cites this module.
use Rattle.std.specs.Prelude.{◌≡◌, ◌⊎◌, ℕ, ◌+◌, ◌≤◌, Bool, false, List, [], ◌++◌, length, take, map, All, Option, None}
use Rattle.std.specs.Prelude.{Some}
use Rattle.std.specs.List.{AllPairs, slice_get, slice_set, slice_index_or, concat}
use Rattle.std.specs.BTreeSet.{BTreeSet}
use Rattle.mc_allows.specs.declared.call_name.CallName.{CallName}
use Rattle.mc_allows.specs.declared.said.Said.{Said}
use Rattle.mc_answers.specs.Answer.{IsAnswer}
use Rattle.mc_answers.specs.Output.{BeginsAnswer}
use Rattle.mc_answers.specs.Said.{said_calls}
use Rattle.mc_allows.specs.Steps.{first_uniques}
use Rattle.mc_parse.specs.declared.command.Command.{Command}
use Rattle.zy_capture.specs.declared.record.Record.{Record}
use Rattle.zy_capture.specs.Streams.{sessions_of}
use Rattle.zy_check.specs.Answered.{has_bytes}
use Rattle.zy_times.specs.First.{AreRises}
use Rattle.zy_times.specs.Sessions.{marks_at, IsEndedIn}
use Rattle.zy_times.specs.Times.{trues}
use Rattle.zy_verdict.specs.Entries.{NamedCall, MadeCall, named_parts, named_from, of_session, said_to}
use Rattle.zy_verdict.specs.Explained.{IsNotLater}
use Rattle.zy_confirm.specs.declared.store.Store.{Store}
use Rattle.zy_confirm.specs.Store.{store_shards, held_at, AreUsed, KeepsBounds, StandsAfter}
use Rattle.zy_sessions.specs.declared.line.Line.{Line}
use Rattle.zy_sessions.specs.declared.session.Session.{Session}
use Rattle.zy_sessions.specs.declared.sessions.Sessions.{Sessions}
use Rattle.zy_sessions.specs.Sessions.{SessionsHold, session_at}
use Rattle.zy_explain.specs.declared.rules.Rules.{Rules}
use Rattle.zy_explain.specs.declared.track.Track.{Track}
use Rattle.zy_explain.specs.declared.row.Row.{Row}
use Rattle.zy_explain.specs.declared.state.State.{State}
use Rattle.zy_explain.specs.Making.{may_lose_in, FailsLawfully, MakesNext}

-- ---- calls

-- the first calls of a command, if there is one
abbrev pub parts_made : ℕ → ℕ → ℕ → ℕ → ℕ → Option Command → List NamedCall
parts_made shards conn session index part None = []
parts_made shards conn session index part (Some command) =
    named_parts conn session index 0 (take part (said_calls shards command))

-- the calls of the first commands of a session, and the first calls of the next one
abbrev pub calls_made : ℕ → ℕ → ℕ → List Command → ℕ → ℕ → List NamedCall
calls_made shards conn session commands index part =
    named_from shards conn session 0 (take index commands)
    ++ parts_made shards conn session index part (slice_get commands index)

-- ---- outputs

-- the output of a session; a session without a record has no bytes
abbrev pub output_in : List (List (List ℕ)) → ℕ → ℕ → List ℕ
output_in outputs conn session = slice_index_or (sessions_of outputs conn) session []

-- a text is empty, or a beginning of the command's answer
abbrev pub IsCutShort : Command → List Said → List ℕ → Type 0
IsCutShort command said text = (text ≡ []) ⊎ BeginsAnswer command said text

-- a text answers the command, or it is cut short by the end of the output
abbrev pub IsTextOrNone : List ℕ → List ℕ → Command → List Said → List ℕ → Type 0
IsTextOrNone output before command said text =
    IsAnswer command said text ⊎ ((length output ≤ length before + length text) × IsCutShort command said text)

-- the first bytes of the output are the texts of the first commands, if this was said to each of them
pub record IsCutTo (commands : List Command) (saids : ℕ → List Said) (output : List ℕ) (answered : List Bool) (at : ℕ)
    : Type 0 where
  pub texts : List (List ℕ)
  pub few : length texts ≤ length commands
  pub within : at ≤ length output
  pub whole : concat texts ≡ take at output
  pub flags : answered ≡ map has_bytes texts
  pub each : (i : ℕ) (command : Command) (text : List ℕ) → slice_get commands i ≡ Some command
      → slice_get texts i ≡ Some text → IsTextOrNone output (concat (take i texts)) command (saids i) text

-- ---- one session

-- at the moment of an entry its command is sent and, if these commands are answered, not ended; if it failed it may
pub record IsRightIn (forget : Bool) (s : Session) (answered : List Bool) (e : MadeCall) : Type 0 where
  pub known : e.named.name.index ≤ length answered
  pub first : ℕ
  pub is : slice_get s.sent.items e.named.name.index ≡ Some first
  pub sent : first ≤ e.moment
  pub unended : (records : List Record) (conn session : ℕ)
      → AreRises (marks_at records conn session) (length records) s.marks.items → e.moment ≤ length records
      → IsEndedIn records conn session answered e.named.name.index e.moment → ⊥
  pub lawful : (command : Command) → slice_get s.commands.items e.named.name.index ≡ Some command
      → FailsLawfully forget command e.named.call e.said

-- the entries of a session are the calls that its track has made
pub record TrackStands (shards : ℕ) (forget : Bool) (s : Session) (output : List ℕ) (conn session : ℕ)
    (entries : List MadeCall) (t : Track) : Type 0 where
  pub calls : map (λ (e : MadeCall). e.named) (of_session conn session entries)
      ≡ calls_made shards conn session s.commands.items (length t.answered.items) (length t.saids.items)
  pub saids : said_to conn session (length t.answered.items) entries ≡ t.saids.items
  pub cut : IsCutTo s.commands.items (λ i. said_to conn session i entries) output t.answered.items t.at
  pub count : t.count ≡ trues t.answered.items
  pub right : All (IsRightIn forget s t.answered.items) (of_session conn session entries)

-- whatever the entries are, they stand after a change of a track if they stood before
abbrev pub Settles : ℕ → Bool → Session → List ℕ → Track → Track → Type 0
Settles shards forget s output old new = (conn session : ℕ) (entries : List MadeCall)
    → TrackStands shards forget s output conn session entries old
    → TrackStands shards forget s output conn session entries new

-- ---- all sessions

-- the track with this number in a row, if there is a row with it
abbrev pub track_in : Option Row → ℕ → Option Track
track_in None session = None
track_in (Some row) session = slice_get row.tracks.items session

-- the track of a session of a connection
abbrev pub track_at : List Row → ℕ → ℕ → Option Track
track_at rows conn session = track_in (slice_get rows conn) session

-- how many sessions a line has, if there is one
abbrev pub sessions_in : Option Line → ℕ
sessions_in None = 0
sessions_in (Some line) = length line.sessions.items

-- how many sessions a connection has
abbrev pub sessions_on : Sessions → ℕ → ℕ
sessions_on sessions conn = sessions_in (slice_get sessions.lines.items conn)

-- the keys whose items may be lost, if those of these keys may be
abbrev pub may_lose_by : Rules → BTreeSet (List ℕ) → List ℕ → Bool
may_lose_by rules lasting key = may_lose_in rules.forget lasting key

-- a session has a track, which stands
pub record SessionStands (rules : Rules) (s : Session) (output : List ℕ) (rows : List Row) (conn session : ℕ)
    (entries : List MadeCall) : Type 0 where
  pub track : Track
  pub is : track_at rows conn session ≡ Some track
  pub stands : TrackStands rules.shards rules.forget s output conn session entries track

-- the entries are those that were made of an order, from a store with which the server began
pub record Stands (rules : Rules) (lasting : BTreeSet (List ℕ)) (sessions : Sessions)
    (outputs : List (List (List ℕ))) (began : Store) (state : State) (entries : List MadeCall) : Type 0 where
  pub shards : store_shards state.store ≡ rules.shards
  pub each : (conn session : ℕ) (s : Session) → session_at sessions conn session ≡ Some s
      → SessionStands rules s (output_in outputs conn session) state.rows.items conn session entries
  pub others : (conn session : ℕ) → session_at sessions conn session ≡ None → of_session conn session entries ≡ []
  pub cold : rules.warm ≡ false → (key : List ℕ) → held_at began key ≡ None
  pub chains : StandsAfter (may_lose_by rules lasting) (held_at began) state.store entries
  pub bounds : KeepsBounds began state.store
  pub rises : AllPairs IsNotLater entries
  pub latest : All (λ (e : MadeCall). e.moment ≤ state.moment) entries
  pub within : (count : ℕ) (records : List Record) → SessionsHold sessions count records → state.moment ≤ length records

-- some entries were made of an order
abbrev pub StandsSome : Rules → BTreeSet (List ℕ) → Sessions → List (List (List ℕ)) → Store → State → Type 0
StandsSome rules lasting sessions outputs began state =
    (entries : List MadeCall) × Stands rules lasting sessions outputs began state entries

-- whatever the store was at first, entries that were made of an order stand after a change of what was noted
abbrev pub KeepsStanding : Rules → Sessions → List (List (List ℕ)) → State → State → Type 0
KeepsStanding rules sessions outputs old new = (lasting : BTreeSet (List ℕ)) (began : Store)
    → StandsSome rules lasting sessions outputs began old → StandsSome rules lasting sessions outputs began new

-- ---- one call

-- the next call of a session, which has this name, was made on the store at a moment, once the commands before it were
-- ended
pub record FollowsTo (rules : Rules) (lasting : BTreeSet (List ℕ)) (s : Session) (output : List ℕ)
    (before after : Store) (old new : Track) (name : CallName) (latest moment : ℕ) : Type 0 where
  pub between : Track
  pub settles : Settles rules.shards rules.forget s output old between
  pub makes : MakesNext rules.shards rules.forget (may_lose_in rules.forget lasting) s before after between new name
      latest moment

-- the same of the session with this number in a row
pub record RowFollows (rules : Rules) (lasting : BTreeSet (List ℕ)) (s : Session) (output : List ℕ)
    (before after : Store) (old new : Row) (name : CallName) (latest moment : ℕ) : Type 0 where
  pub one : Track
  pub other : Track
  pub is : slice_get old.tracks.items name.session ≡ Some one
  pub set : new.tracks.items ≡ slice_set old.tracks.items name.session other
  pub follows : FollowsTo rules lasting s output before after one other name latest moment

-- the commands of the session with this number in a row were ended, if their calls are all made
pub record RowSettles (rules : Rules) (s : Session) (output : List ℕ) (old new : Row) (number : ℕ) : Type 0 where
  pub one : Track
  pub other : Track
  pub is : slice_get old.tracks.items number ≡ Some one
  pub set : new.tracks.items ≡ slice_set old.tracks.items number other
  pub settles : Settles rules.shards rules.forget s output one other

-- ---- the start

-- a store in which each unique of an item was given
abbrev pub HoldsItsOwn : Store → Type 0
HoldsItsOwn store = (key : List ℕ) → AreUsed store key (first_uniques (held_at store key))

-- a store with the items with which the server may have begun
pub record IsFirstStore (rules : Rules) (store : Store) : Type 0 where
  pub shards : store_shards store ≡ rules.shards
  pub own : HoldsItsOwn store
  pub cold : rules.warm ≡ false → (key : List ℕ) → held_at store key ≡ None

-- nothing was made of the session
pub record IsFreshTrack (t : Track) : Type 0 where
  pub at : t.at ≡ 0
  pub answered : t.answered.items ≡ []
  pub count : t.count ≡ 0
  pub saids : t.saids.items ≡ []

-- nothing was made of any of these sessions
pub record IsFreshRow (count : ℕ) (row : Row) : Type 0 where
  pub size : length row.tracks.items ≡ count
  pub each : (session : ℕ) (t : Track) → slice_get row.tracks.items session ≡ Some t → IsFreshTrack t

-- nothing was made of the sessions of the first connections
pub record AreFreshRows (sessions : Sessions) (count : ℕ) (rows : List Row) : Type 0 where
  pub size : length rows ≡ count
  pub each : (conn : ℕ) (row : Row) → slice_get rows conn ≡ Some row → IsFreshRow (sessions_on sessions conn) row

-- before the first call, no entries were made from a store with which the server may have begun
abbrev pub StandsAtFirst : Sessions → Store → State → Type 0
StandsAtFirst sessions store state = (rules : Rules) (lasting : BTreeSet (List ℕ)) (outputs : List (List (List ℕ)))
    → IsFirstStore rules store → StandsSome rules lasting sessions outputs store state
