-- A recording, session by session: when its commands were sent and had ended, and whether its marks fit. `Sessions` has
-- the definitions for one session, whose commands are numbered from 0. A moment is a number of records: those that had
-- come by then.
use Rattle.std.specs.Prelude.{ℕ, suc, ◌-◌, nat_lt, if◌then◌else◌, List, [], ◌∷◌, length, map, Bool}
use Rattle.mc_calls.specs.declared.entry.Entry.{Entry}
use Rattle.mc_calls.specs.Order.{of_connection}
use Rattle.mc_reply.specs.Texts.{texts_from}
use Rattle.zy_capture.specs.declared.record.Record.{Record}
use Rattle.zy_frame.specs.Cut.{commands_of}
use Rattle.zy_run.specs.Commands.{streams_in}
use Rattle.zy_run.specs.Output.{commands_before}
use Rattle.zy_check.specs.Answered.{has_bytes}
use Rattle.zy_times.specs.Sessions.{commands_of_session, IsSentIn, IsEndedIn, MarksFitIn}

-- the records of a capture, and the entries of a journal
pub record Recording : Type 0 where
  pub records : List Record
  pub entries : List Entry

-- ---- sessions

-- the number of commands that a connection has before a session
abbrev pub first_in : Recording → ℕ → ℕ → ℕ
first_in r conn session = commands_before session (streams_in r.records conn)

-- which of a session's commands are answered, by the replies that the journal gives their calls
abbrev pub answered_in : Recording → ℕ → ℕ → List Bool
answered_in r conn session =
    map has_bytes (texts_from (first_in r conn session) (commands_of_session r.records conn session)
    (of_connection conn r.entries))

-- ---- commands

-- the session of a command, and its number there
pub record Numbered : Type 0 where
  pub session : ℕ
  pub number : ℕ

-- the same, with one more session before it
abbrev pub one_later : Numbered → Numbered
one_later n = record { session = suc n.session; number = n.number }

-- the session and number of the command with this index, if sessions with these streams come one after the other
unfoldable pub numbered_over : List (List ℕ) → ℕ → Numbered
numbered_over [] index = record { session = 0; number = index }
numbered_over (stream ∷ streams) index =
    if nat_lt index (length (commands_of stream)) then record { session = 0; number = index }
    else one_later (numbered_over streams (index - length (commands_of stream)))

-- the session and number of a connection's command with this index
abbrev pub numbered_of : Recording → ℕ → ℕ → Numbered
numbered_of r conn index = numbered_over (streams_in r.records conn) index

-- a command of this connection is sent at a moment
abbrev pub IsSent : Recording → ℕ → Numbered → ℕ → Type 0
IsSent r conn n moment = IsSentIn r.records conn n.session n.number moment

-- a command of this connection is ended at a moment
abbrev pub IsEnded : Recording → ℕ → Numbered → ℕ → Type 0
IsEnded r conn n moment = IsEndedIn r.records conn n.session (answered_in r conn n.session) n.number moment

-- ---- marks fit

-- at a moment each session has at most as many marks as answered commands that are sent
abbrev pub FitAt : Recording → ℕ → Type 0
FitAt r moment = (conn session : ℕ) → MarksFitIn r.records conn session (answered_in r conn session) moment

-- the marks fit at every moment
abbrev pub MarksFit : Recording → Type 0
MarksFit r = (moment : ℕ) → FitAt r moment
