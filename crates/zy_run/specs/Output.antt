-- The outputs that belong to a run: the texts of each session's commands, with the replies that the run gave.
use Rattle.std.specs.Prelude.{ℕ, List, [], length, take, map}
use Rattle.std.specs.List.{concat, range_with_len, slice_index_or}
use Rattle.mc_calls.specs.declared.entry.Entry.{Entry}
use Rattle.mc_calls.specs.Order.{of_connection}
use Rattle.mc_reply.specs.Texts.{texts_from}
use Rattle.zy_frame.specs.Cut.{commands_of}
use Rattle.zy_run.specs.Commands.{commands_over}

-- the number of commands that a connection with these streams has before a session
abbrev pub commands_before : ℕ → List (List ℕ) → ℕ
commands_before session streams = length (commands_over (take session streams))

-- the output of a session: the texts of its commands, joined, each from the replies of its own
-- entries; commands are numbered over all sessions of the connection
abbrev pub session_output : ℕ → ℕ → List (List ℕ) → List Entry → List ℕ
session_output conn session streams es =
    concat (texts_from (commands_before session streams) (commands_of (slice_index_or streams session []))
    (of_connection conn es))

-- the outputs of all sessions of a connection with these streams
abbrev pub connection_outputs : ℕ → List (List ℕ) → List Entry → List (List ℕ)
connection_outputs conn streams es =
    map (λ session. session_output conn session streams es) (range_with_len 0 (length streams))

-- the outputs of all sessions of the first `count` connections
abbrev pub all_outputs : ℕ → (ℕ → List (List ℕ)) → List Entry → List (List (List ℕ))
all_outputs count streams es = map (λ conn. connection_outputs conn (streams conn) es) (range_with_len 0 count)
