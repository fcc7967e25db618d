-- What is found of the outputs of a recording.
use Rattle.std.specs.Prelude.{◌≡◌, ◌⊎◌, ℕ, ◌+◌, ◌<◌, ◌≤◌, Bool, List, length, map, ⊤}
use Rattle.mc_answers.specs.Output.{Cut, IsCut}
use Rattle.mc_kind.specs.Cutting.{IsRefutedAt, GoesOn}
use Rattle.zy_capture.specs.declared.record.Record.{Record}
use Rattle.zy_capture.specs.Outputs.{AllOutputs}
use Rattle.zy_capture.specs.Streams.{closes, sessions_of}
use Rattle.zy_check.specs.Answered.{has_bytes}
use Rattle.zy_times.specs.Sessions.{marks_at, MarksFitIn}
use Rattle.zy_verdict.specs.Recorded.{Recorded, session_commands, output_of}
use Rattle.zy_verdict.specs.Explained.{IsExplained}
use Rattle.zy_observed.specs.Shown.{AreShown}
use Rattle.zy_outputs.specs.declared.finding.Finding.{Finding}
use Rattle.zy_outputs.specs.declared.finding.Finding.TheVariants as Findings
use Rattle.zy_outputs.specs.declared.observing.Observing.{Observing}
use Rattle.zy_outputs.specs.declared.observing.Observing.TheVariants.{Kind, Surplus, EarlyEnd, Other, Calls}

-- the recording of a capture's records and of outputs, by a server that may be so, if an exptime other than 0 was given
-- to these keys before
abbrev pub recorded_of : ℕ → List Record → AllOutputs → ℕ → Bool → Bool → List (List ℕ) → Recorded
recorded_of count records outputs shards warm forget lasting =
    record {
      count = count;
      records = records;
      outputs = outputs.sessions;
      shards = shards;
      warm = warm;
      forget = forget;
      lasting = lasting;
    }

-- the output of a session refutes the command with this index: no answers of the commands before it, whatever the
-- replies, are followed by an answer of the command or by the beginning of one
abbrev pub IsRefutedByOutput : Recorded → ℕ → ℕ → ℕ → Type 0
IsRefutedByOutput r conn session index = IsRefutedAt (session_commands r conn session) (output_of r conn session) index

-- the replies have an output of this session, and the capture has no such session
pub record IsStray (r : Recorded) (conn session : ℕ) : Type 0 where
  pub line : conn < length r.outputs
  pub there : session < length (sessions_of r.outputs conn)
  pub missing : (r.count ≤ conn) ⊎ (closes conn r.records < session)

-- the output of a session is surplus: it goes on after the answers of all the session's commands, whatever the replies,
-- or there is no such session
abbrev pub IsSurplus : Recorded → ℕ → ℕ → Type 0
IsSurplus r conn session =
    GoesOn (session_commands r conn session) (output_of r conn session) ⊎ IsStray r conn session

-- this record is a mark that comes too early: however the output of its session is cut into answers, the session then has
-- more marks than answered commands that are sent
pub record IsEarlyEnd (r : Recorded) (mark : ℕ) : Type 0 where
  pub conn : ℕ
  pub session : ℕ
  pub is : marks_at r.records conn session mark < marks_at r.records conn session (mark + 1)
  pub early : (cut : Cut) → IsCut (session_commands r conn session) (output_of r conn session) cut
      → MarksFitIn r.records conn session (map has_bytes cut.texts) (mark + 1) → ⊥

-- a recording with a refuted output is not explained; otherwise these are its calls, with what it shows of them
abbrev pub IsObserving : Recorded → Observing → Type 0
IsObserving r (Kind conn session index) = (IsExplained r → ⊥) × IsRefutedByOutput r conn session index
IsObserving r (Surplus conn session) = (IsExplained r → ⊥) × IsSurplus r conn session
IsObserving r (EarlyEnd mark) = (IsExplained r → ⊥) × IsEarlyEnd r mark
IsObserving r (Other conn session index) = ⊤
IsObserving r (Calls calls) = AreShown r calls.items

-- a finding of one session, as what is found of all outputs
abbrev pub IsFoundBy : Finding → Observing → Type 0
IsFoundBy (Findings.Kind conn session index) (Kind own_conn own_session own_index) =
    (own_conn ≡ conn) × (own_session ≡ session) × (own_index ≡ index)
IsFoundBy (Findings.Surplus conn session) (Surplus own_conn own_session) = (own_conn ≡ conn) × (own_session ≡ session)
IsFoundBy (Findings.EarlyEnd mark) (EarlyEnd own_mark) = own_mark ≡ mark
IsFoundBy (Findings.Other conn session index) (Other own_conn own_session own_index) = ⊤
IsFoundBy finding observing = ⊥
