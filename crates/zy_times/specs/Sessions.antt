-- When the commands of a session were sent and when they had ended, by the records of a capture and by which commands
-- of the session are answered. Commands are numbered from 0 in each session. No journal is needed.
use Rattle.std.specs.Prelude.{ℕ, ◌<◌, ◌≤◌, List, length, take, Bool}
use Rattle.zy_capture.specs.declared.record.Record.{Record}
use Rattle.zy_capture.specs.Streams.{stream}
use Rattle.mc_parse.specs.declared.command.Command.{Command}
use Rattle.zy_frame.specs.Cut.{commands_of}
use Rattle.zy_times.specs.Times.{marks_in, trues}

-- ---- sent

-- the commands of a session of a connection
abbrev pub commands_of_session : List Record → ℕ → ℕ → List Command
commands_of_session records conn session = commands_of (stream conn session records)

-- the number of commands of a session that were sent at a moment
abbrev pub sent_in : List Record → ℕ → ℕ → ℕ → ℕ
sent_in records conn session moment = length (commands_of_session (take moment records) conn session)

-- the command with this index, of this session, is sent at a moment
abbrev pub IsSentIn : List Record → ℕ → ℕ → ℕ → ℕ → Type 0
IsSentIn records conn session index moment = index < sent_in records conn session moment

-- ---- ended

-- the number of marks of a session that had come at a moment
abbrev pub marks_at : List Record → ℕ → ℕ → ℕ → ℕ
marks_at records conn session moment = marks_in (take moment records) conn session

-- the command with this index, of this session, is ended at a moment: more marks of the session had come than it has
-- answered commands before this one
abbrev pub IsEndedIn : List Record → ℕ → ℕ → List Bool → ℕ → ℕ → Type 0
IsEndedIn records conn session answered index moment =
    trues (take index answered) < marks_at records conn session moment

-- ---- marks fit

-- at a moment the session has at most as many marks as answered commands that are sent
abbrev pub MarksFitIn : List Record → ℕ → ℕ → List Bool → ℕ → Type 0
MarksFitIn records conn session answered moment =
    marks_at records conn session moment ≤ trues (take (sent_in records conn session moment) answered)

-- the marks of all sessions fit at every moment, if these of their commands are answered
abbrev pub AllMarksFit : List Record → (ℕ → ℕ → List Bool) → Type 0
AllMarksFit records answered = (conn session moment : ℕ)
    → MarksFitIn records conn session (answered conn session) moment
