-- What is judged: a recording, with what its server may have been.
use Rattle.std.specs.Prelude.{ℕ, ◌+◌, ◌<◌, ◌≤◌, Bool, List, [], length}
use Rattle.std.specs.List.{slice_index_or}
use Rattle.zy_capture.specs.declared.record.Record.{Record}
use Rattle.zy_capture.specs.Streams.{closes, sessions_of}
use Rattle.mc_parse.specs.declared.command.Command.{Command}
use Rattle.zy_times.specs.Sessions.{commands_of_session}

-- a recording: the records of a capture and the outputs of a replies file, and what its server may have been
pub record Recorded : Type 0 where
  -- how many connections the capture has
  pub count : ℕ
  -- the records of the capture, in file order
  pub records : List Record
  -- the outputs of each connection's sessions
  pub outputs : List (List (List ℕ))
  -- how many shards the server has
  pub shards : ℕ
  -- the server may have begun with items
  pub warm : Bool
  -- the server may have lost any item at any time
  pub forget : Bool
  -- the keys to which an exptime other than 0 was given before the recording began
  pub lasting : List (List ℕ)

-- the commands of a session of a connection, in order
abbrev pub session_commands : Recorded → ℕ → ℕ → List Command
session_commands r conn session = commands_of_session r.records conn session

-- the output of a session; a session without a record in the replies file has no bytes
abbrev pub output_of : Recorded → ℕ → ℕ → List ℕ
output_of r conn session = slice_index_or (sessions_of r.outputs conn) session []

-- each output is that of a session of the capture
pub record HaveSessions (r : Recorded) : Type 0 where
  pub connections : length r.outputs ≤ r.count
  pub sessions : (conn : ℕ) → conn < length r.outputs
      → length (sessions_of r.outputs conn) ≤ closes conn r.records + 1

-- the last moment, at which all records had come
abbrev pub last_moment : Recorded → ℕ
last_moment r = length r.records
