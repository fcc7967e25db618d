-- What is checked, and what it should be.
use Rattle.std.specs.Prelude.{◌≡◌, ℕ, ◌<◌, ◌≤◌, List, length, take, Option, Some, IfSome}
use Rattle.std.specs.List.{slice_get}
use Rattle.mc_calls.specs.declared.entry.Entry.{Entry}
use Rattle.mc_calls.specs.declared.hold.Hold.{Hold}
use Rattle.mc_calls.specs.Order.{of_connection, at_shard}
use Rattle.mc_calls.specs.Shard.{empty_state, reply_to}
use Rattle.mc_calls.specs.History.{replayed}
use Rattle.zy_capture.specs.Outputs.{AllOutputs}
use Rattle.zy_capture.specs.Streams.{sessions_of}
use Rattle.zy_journal.specs.declared.journal.Journal.{Journal}
use Rattle.mc_parse.specs.Calls.{Due, due, due_of}
use Rattle.zy_run.specs.Commands.{commands_held}
use Rattle.zy_run.specs.Output.{connection_outputs}
use Rattle.zy_run.specs.Spans.{held_of}

-- the number of shards, the streams of all connections' sessions, a journal's entries and holds,
-- and the outputs of all connections' sessions
pub record Given : Type 0 where
  pub shards : ℕ
  pub streams : List (List (List ℕ))
  pub entries : List Entry
  pub holds : List Hold
  pub outputs : List (List (List ℕ))

-- streams, a journal and outputs, on `shards` shards
abbrev pub all_given : ℕ → List (List (List ℕ)) → Journal → AllOutputs → Given
all_given shards streams journal outputs =
    record {
      shards = shards;
      streams = streams;
      entries = journal.entries;
      holds = journal.holds;
      outputs = outputs.sessions;
    }

-- ---- entries

-- the expected calls of a connection
abbrev pub due_in : Given → ℕ → List Due
due_in g conn = due g.shards conn (commands_held g.streams conn)

-- an entry is the next call of its connection, after these entries
pub record IsNextCall (g : Given) (before : List Entry) (e : Entry) : Type 0 where
  -- the connection exists
  pub connection : e.tag.conn < length g.streams
  -- the entry is the first of its expected calls for which there is no entry yet
  pub call : slice_get (due_in g e.tag.conn) (length (of_connection e.tag.conn before)) ≡ Some (due_of e)

-- an entry has the reply that its shard gives after these entries
abbrev pub IsAnswered : Given → List Entry → Entry → Type 0
IsAnswered g before e =
    e.reply ≡ reply_to (replayed g.shards e.shard empty_state (at_shard e.shard before)) e.call

-- the entry at a place is the next call of its connection
abbrev pub IsNextAt : Given → ℕ → Type 0
IsNextAt g at = IfSome (slice_get g.entries at) (IsNextCall g (take at g.entries))

-- the entry at a place has the reply that its shard gives at that point
abbrev pub IsAnsweredAt : Given → ℕ → Type 0
IsAnsweredAt g at = IfSome (slice_get g.entries at) (IsAnswered g (take at g.entries))

-- each entry before a place is the next call, and has the reply that its shard gives at that point
abbrev pub AreRightBelow : Given → ℕ → Type 0
AreRightBelow g at = (k : ℕ) → k < at → IsNextAt g k × IsAnsweredAt g k

-- each entry is the next call, and has the reply that its shard gives at that point
abbrev pub AreRight : Given → Type 0
AreRight g = AreRightBelow g (length g.entries)

-- ---- calls

-- each expected call of a connection has an entry
abbrev pub HasEveryEntry : Given → ℕ → Type 0
HasEveryEntry g conn = length (due_in g conn) ≤ length (of_connection conn g.entries)

-- ---- outputs

-- the output of a session that was given, if there is one
abbrev pub found_output : Given → ℕ → ℕ → Option (List ℕ)
found_output g conn session = slice_get (sessions_of g.outputs conn) session

-- the expected output of a session, if there is one
abbrev pub due_output : Given → ℕ → ℕ → Option (List ℕ)
due_output g conn session = slice_get (connection_outputs conn (sessions_of g.streams conn) g.entries) session

-- the output of a session is the expected one, or there is none and none is expected
abbrev pub IsOutput : Given → ℕ → ℕ → Type 0
IsOutput g conn session = found_output g conn session ≡ due_output g conn session

-- ---- holds

-- the holds of a connection add up to the number of its commands, which is 0 if there is no such
-- connection
abbrev pub IsHeld : Given → ℕ → Type 0
IsHeld g conn = held_of conn g.holds ≡ length (commands_held g.streams conn)
