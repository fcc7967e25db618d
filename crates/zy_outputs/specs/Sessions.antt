-- What is found of the sessions of a recording, one after another. No public clause cites this module.
use Rattle.std.specs.Prelude.{◌≡◌, ◌⊎◌, ℕ, zero, suc, ◌+◌, ◌-◌, ◌<◌, Bool, true, List, [], ◌++◌, length}
use Rattle.std.specs.Prelude.{Option, None, Some, ⊤}
use Rattle.std.specs.List.{slice_get}
use Rattle.mc_allows.specs.declared.call_name.CallName.{CallName}
use Rattle.mc_kind.specs.declared.text.Text.{Text}
use Rattle.mc_kind.specs.Cutting.{AreFirstTexts, AreAllTexts}
use Rattle.zy_capture.specs.Outputs.{AllOutputs}
use Rattle.zy_capture.specs.Streams.{closes, sessions_of}
use Rattle.zy_refute.specs.declared.observed.Observed.{Observed}
use Rattle.zy_sessions.specs.declared.session.Session.{Session}
use Rattle.zy_sessions.specs.declared.line.Line.{Line}
use Rattle.zy_sessions.specs.Sessions.{SessionHolds, LineHolds}
use Rattle.zy_verdict.specs.Recorded.{Recorded, session_commands, output_of}
use Rattle.zy_verdict.specs.Entries.{NamedCall, named_from}
use Rattle.zy_verdict.specs.Explained.{IsExplained}
use Rattle.zy_outputs.specs.declared.finding.Finding.{Finding}
use Rattle.zy_outputs.specs.declared.finding.Finding.TheVariants.{Kind, Surplus, EarlyEnd, Other}
use Rattle.zy_outputs.specs.declared.rules.Rules.{Rules}
use Rattle.zy_outputs.specs.declared.seen.Seen.{Seen}
use Rattle.zy_outputs.specs.Adding.{Obeys, AddsShown}
use Rattle.zy_outputs.specs.Observing.{IsRefutedByOutput, IsSurplus, IsEarlyEnd}

-- ---- findings

-- a recording with a refuted output is not explained
abbrev pub IsRefuting : Recorded → Finding → Type 0
IsRefuting r (Other conn session index) = ⊤
IsRefuting r (Kind conn session index) = (IsExplained r → ⊥) × IsRefutedByOutput r conn session index
IsRefuting r (Surplus conn session) = (IsExplained r → ⊥) × IsSurplus r conn session
IsRefuting r (EarlyEnd mark) = (IsExplained r → ⊥) × IsEarlyEnd r mark

-- something is found, or these calls are added to a list
abbrev pub IsDone : Recorded → List Observed → List Observed → List NamedCall → Option Finding → Type 0
IsDone r old new named None = AddsShown r old new named
IsDone r old new named (Some finding) = IsRefuting r finding

-- the command may have been answered in a way that is not followed
abbrev pub IsOther : Option Finding → Type 0
IsOther (Some (Other conn session index)) = ⊤
IsOther found = ⊥

-- the first of two findings, or one that is not followed
abbrev pub IsFirstOf : Option Finding → Option Finding → Option Finding → Type 0
IsFirstOf None next result = result ≡ next
IsFirstOf (Some first) next result = (result ≡ Some first) ⊎ IsOther result

-- the mark came before a command was sent
abbrev pub IsEarlyMark : ℕ → Option ℕ → Type 0
IsEarlyMark sent None = ⊥
IsEarlyMark sent (Some moment) = moment < sent

-- the mark that had come first at a moment is found, as too early
abbrev pub IsEarlyAt : Option ℕ → Option Finding → Type 0
IsEarlyAt None found = found ≡ None
IsEarlyAt (Some moment) found = found ≡ Some (EarlyEnd (moment - 1))

-- ---- a session

-- what is seen of a command that was sent at one moment, and had ended at another
abbrev pub seen_by : Bool → ℕ → Option ℕ → Seen
seen_by answered sent None = record { sure = answered; sent = sent; ended = None }
seen_by answered sent (Some mark) = record { sure = true; sent = sent; ended = Some mark }

-- these are the notes on a session of the recording, and its output
pub record IsSession (r : Recorded) (name : CallName) (s : Session) (output : List ℕ) : Type 0 where
  pub holds : SessionHolds r.records name.conn name.session s
  pub output_is : output ≡ output_of r name.conn name.session

-- the calls of a session
abbrev pub session_calls : Recorded → ℕ → ℕ → List NamedCall
session_calls r conn session = named_from r.shards conn session 0 (session_commands r conn session)

-- the calls of a session are added, or something is found of its output
abbrev pub SessionIsDone : Rules → CallName → Session → List ℕ → List Observed → List Observed → Option Finding → Type 0
SessionIsDone rules name s output old new found = (r : Recorded) → Obeys rules r → IsSession r name s output
    → IsDone r old new (session_calls r name.conn name.session) found

-- the same, if each cut of the output has these texts
abbrev pub SessionAdds : Rules → CallName → Session → List ℕ → List Text → Bool → List Observed → List Observed
    → Option Finding → Type 0
SessionAdds rules name s output texts all old new found = AreFirstTexts s.commands.items output texts
    → (all ≡ true → AreAllTexts s.commands.items output texts) → SessionIsDone rules name s output old new found

-- ---- a connection

-- the calls of the first sessions of a connection
abbrev pub line_calls : Recorded → ℕ → ℕ → List NamedCall
line_calls r conn zero = []
line_calls r conn (suc session) = line_calls r conn session ++ session_calls r conn session

-- the recording has these outputs
abbrev pub HasOutputs : Recorded → AllOutputs → Type 0
HasOutputs r outputs = r.outputs ≡ outputs.sessions

-- the replies have an output of this session
pub record HasOutput (outputs : AllOutputs) (conn session : ℕ) : Type 0 where
  pub line : conn < length outputs.sessions
  pub there : session < length (sessions_of outputs.sessions conn)

-- the output of this session is found, if there is one
abbrev pub IsOutputFound : AllOutputs → ℕ → ℕ → Option Finding → Type 0
IsOutputFound outputs conn session None = HasOutput outputs conn session → ⊥
IsOutputFound outputs conn session (Some (Surplus own_conn own_session)) =
    (own_conn ≡ conn) × (own_session ≡ session) × HasOutput outputs conn session
IsOutputFound outputs conn session (Some finding) = ⊥

-- the calls of a connection are added, or something is found of an output
abbrev pub LineIsDone : Rules → ℕ → Line → AllOutputs → List Observed → List Observed → Option Finding → Type 0
LineIsDone rules conn line outputs old new found = (r : Recorded) → Obeys rules r → HasOutputs r outputs
    → LineHolds r.records conn line → IsDone r old new (line_calls r conn (closes conn r.records + 1)) found

-- ---- all connections

-- the calls of the first connections
abbrev pub all_calls : Recorded → ℕ → List NamedCall
all_calls r zero = []
all_calls r (suc conn) = all_calls r conn ++ line_calls r conn (closes conn r.records + 1)

-- the calls of all connections are added, or something is found of an output
abbrev pub LinesAreDone : Rules → List Line → AllOutputs → List Observed → List Observed → Option Finding → Type 0
LinesAreDone rules lines outputs old new found = (r : Recorded) → Obeys rules r → HasOutputs r outputs
    → length lines ≡ r.count
    → ((conn : ℕ) (line : Line) → slice_get lines conn ≡ Some line → LineHolds r.records conn line)
    → IsDone r old new (all_calls r r.count) found
