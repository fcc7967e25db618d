-- What is found of calls, in any recording of such notes that shows these calls. No public clause cites this module.
use Rattle.std.specs.Prelude.{ℕ, List}
use Rattle.mc_allows.specs.declared.call_name.CallName.{CallName}
use Rattle.zy_capture.specs.declared.record.Record.{Record}
use Rattle.zy_explain.specs.declared.rules.Rules.{Rules}
use Rattle.zy_explain.specs.Judged.{judged_after}
use Rattle.zy_observed.specs.Shown.{AreShown}
use Rattle.zy_refute.specs.declared.observed.Observed.{Observed}
use Rattle.zy_sessions.specs.declared.sessions.Sessions.{Sessions}
use Rattle.zy_sessions.specs.Sessions.{SessionsHold}
use Rattle.zy_verdict.specs.Recorded.{Recorded}
use Rattle.zygos_judge.specs.declared.finding.Finding.{Finding}
use Rattle.zygos_judge.specs.Finding.{HasFinding, IsRefutedCall}

-- this holds of each recording of these notes that shows these calls, if an exptime other than 0 was given to these keys
-- before
abbrev pub OfShown : List (List ℕ) → Rules → Sessions → List Observed → (Recorded → Type 0) → Type 0
OfShown lasting rules sessions calls Holds = (count : ℕ) (records : List Record) (outputs : List (List (List ℕ)))
    → SessionsHold sessions count records → AreShown (judged_after lasting rules count records outputs) calls
    → Holds (judged_after lasting rules count records outputs)

-- a call with this name is refuted
abbrev pub IsCulprit : List (List ℕ) → Rules → Sessions → List Observed → CallName → Type 0
IsCulprit lasting rules sessions calls name =
    OfShown lasting rules sessions calls (λ r. IsRefutedCall r name)

-- this is found of the recording
abbrev pub IsFoundOf : List (List ℕ) → Rules → Sessions → List Observed → Finding → Type 0
IsFoundOf lasting rules sessions calls finding = OfShown lasting rules sessions calls (λ r. HasFinding r finding)
