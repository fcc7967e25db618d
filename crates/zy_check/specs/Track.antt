-- The state of a connection: which of its calls were made, and how far its outputs were compared.
-- No public clause cites this module.
use Rattle.std.specs.Prelude.{◌≡◌, ℕ, ◌<◌, ◌≤◌, List, [], ◌∷◌, ◌++◌, Bool, length, take, drop, map, Option, None, Some, ⊤}
use Rattle.std.specs.List.{concat, slice_index_or}
use Rattle.mc_calls.specs.declared.call_reply.CallReply.{CallReply}
use Rattle.mc_calls.specs.declared.entry.Entry.{Entry}
use Rattle.mc_calls.specs.Order.{of_connection}
use Rattle.zy_capture.specs.Streams.{sessions_of}
use Rattle.mc_parse.specs.declared.command.Command.{Command}
use Rattle.mc_parse.specs.Calls.{Due, due, due_at}
use Rattle.mc_reply.specs.Texts.{texts_from}
use Rattle.zy_run.specs.Commands.{commands_over}
use Rattle.zy_check.specs.declared.compared.Compared.{Compared}
use Rattle.zy_check.specs.declared.compared.Differing.{Differing}
use Rattle.zy_check.specs.declared.track.Track.{Track}
use Rattle.zy_check.specs.Given.{Given, found_output, IsOutput}
use Rattle.zy_check.specs.Cause.{IsComplete}
use Rattle.zy_check.specs.Answered.{answered_by}
use Rattle.zy_check.specs.Begun.{Begun, asked_in}
use Rattle.zy_check.specs.Comparing.{HasFirst}
use Rattle.zy_check.specs.Cursor.{Cursor, HasGivenCommands}
use Rattle.zy_check.specs.Output.{IsDiffering}

-- ---- the command that is begun

-- the command that is begun, if there is one
abbrev pub begun_in : Option Begun → List Command
begun_in None = []
begun_in (Some b) = b.command ∷ []

-- its calls that are answered, as those of the command with this index
abbrev pub answered_in : ℕ → ℕ → ℕ → Option Begun → List Due
answered_in shards conn index None = []
answered_in shards conn index (Some b) = take (length b.replies) (due_at shards conn index b.command)

-- it is on `shards` shards
abbrev pub IsOn : ℕ → Option Begun → Type 0
IsOn shards None = ⊤
IsOn shards (Some b) = b.shards ≡ shards

-- its replies are those of a connection's entries from a place on
abbrev pub HasReplies : List Entry → ℕ → Option Begun → Type 0
HasReplies own from None = ⊤
HasReplies own from (Some b) = b.replies ≡ map (λ (e : Entry). e.reply) (take (length b.replies) (drop from own))

-- one of its calls is next
abbrev pub IsAtCall : Option Begun → Type 0
IsAtCall None = ⊥
IsAtCall (Some b) = length b.replies < length (asked_in b)

-- none of its calls is left
abbrev pub HasNoCallLeft : Option Begun → Type 0
HasNoCallLeft None = ⊤
HasNoCallLeft (Some b) = length (asked_in b) ≡ length b.replies

-- the command with one more reply
abbrev pub with_reply : Option Begun → CallReply → Option Begun
with_reply None reply = None
with_reply (Some b) reply = Some (record b { replies = b.replies ++ reply ∷ [] })

-- ---- the connection

-- the stream of a session
abbrev pub stream_of : Given → ℕ → ℕ → List ℕ
stream_of g conn session = slice_index_or (sessions_of g.streams conn) session []

-- the commands of the sessions before one
abbrev pub commands_past : Given → ℕ → ℕ → List Command
commands_past g conn session = commands_over (take session (sessions_of g.streams conn))

-- the texts of commands, joined; the first command has this index
abbrev pub made_of : ℕ → List Command → List Entry → List ℕ
made_of index commands own = concat (texts_from index commands own)

-- the texts of these first commands of a session, joined
abbrev pub made_in : Given → ℕ → ℕ → List Command → List ℕ
made_in g conn session done =
    made_of (length (commands_past g conn session)) done (of_connection conn g.entries)

-- the outputs of the sessions before this one are the expected ones, and the texts of these
-- commands of it are the first bytes of its output; or a session's output differs, and it is the
-- first
abbrev pub AreCompared : Given → ℕ → ℕ → List Command → ℕ → Option Differing → Type 0
AreCompared g conn session done at None =
    ((s : ℕ) → s < session → IsOutput g conn s)
    × HasFirst (found_output g conn session) (made_in g conn session done) at
AreCompared g conn session done at (Some d) = IsDiffering g conn d.session d.at

-- when the entries are complete: the replies are those of the entries, the outputs were compared so far, and it is
-- known of each finished command whether it is answered
pub record AreWritten (g : Given) (conn session : ℕ) (done : List Command) (begun : Option Begun)
    (compared : Compared) (flags : List Bool) : Type 0 where
  pub replies : HasReplies (of_connection conn g.entries)
      (length (due g.shards conn (commands_past g conn session ++ done))) begun
  pub outputs : AreCompared g conn session done compared.at compared.differing
  pub answered : flags ≡ answered_by (commands_past g conn session ++ done) (of_connection conn g.entries)

-- a connection at a place of a session, with this command in progress, `commands` commands done,
-- its outputs compared so far and these of its commands answered, after these calls were made
pub record StandsAtSession (g : Given) (conn session : ℕ) (cursor : Cursor) (begun : Option Begun) (commands : ℕ)
    (compared : Compared) (flags : List Bool) (made : List Due) : Type 0 where
  -- the commands of the session that are done
  pub done : List Command
  pub within : session ≤ length (sessions_of g.streams conn)
  pub given : HasGivenCommands cursor (stream_of g conn session) (done ++ begun_in begun)
  pub count : commands ≡ length (commands_past g conn session ++ done)
  pub shards : IsOn g.shards begun
  pub calls : made
      ≡ due g.shards conn (commands_past g conn session ++ done) ++ answered_in g.shards conn commands begun
  pub written : IsComplete g → AreWritten g conn session done begun compared flags

-- the state of a connection of what is given, after these calls were made
abbrev pub HasMadeCalls : Given → ℕ → Track → List Due → Type 0
HasMadeCalls g conn t made =
    StandsAtSession g conn t.session t.cursor t.begun t.commands t.compared t.answered.items made

-- which of their commands are answered, connection by connection
abbrev pub flags_of : List Track → List (List Bool)
flags_of tracks = map (λ (t : Track). t.answered.items) tracks

-- the connection has no more sessions to read
abbrev pub IsAtEnd : Given → ℕ → Track → Type 0
IsAtEnd g conn t = (t.begun ≡ None) × (length (sessions_of g.streams conn) ≤ t.session)
