-- The commands of a connection: those of all its sessions, one session after another.
use Rattle.std.specs.Prelude.{ℕ, ◌+◌, List, map, flat_map}
use Rattle.std.specs.List.{range_with_len}
use Rattle.zy_capture.specs.declared.record.Record.{Record}
use Rattle.zy_capture.specs.Streams.{closes, stream, sessions_of}
use Rattle.mc_parse.specs.declared.command.Command.{Command}
use Rattle.zy_frame.specs.Cut.{commands_of}

-- the streams of a connection's sessions among these records: one more than close records
abbrev pub streams_in : List Record → ℕ → List (List ℕ)
streams_in records conn =
    map (λ session. stream conn session records) (range_with_len 0 (closes conn records + 1))

-- the commands of sessions with these streams, those of each session after those of the sessions
-- before it
abbrev pub commands_over : List (List ℕ) → List Command
commands_over streams = flat_map commands_of streams

-- the commands of a connection among these records
abbrev pub commands_in : List Record → ℕ → List Command
commands_in records conn = commands_over (streams_in records conn)

-- the commands of a connection, from the streams kept for the sessions of all connections
abbrev pub commands_held : List (List (List ℕ)) → ℕ → List Command
commands_held connections conn = commands_over (sessions_of connections conn)
