-- What is found of sessions, one after another.
use Rattle.std.proofs.Common.{◌≡◌, ◌⊎◌, inl, inr, ℕ, add-one, ◌+◌, ◌<◌, ◌≤◌, Bool, List, [], ◌++◌, length, Option, None, Some, refl, sym, ap, ◌∙◌, subst, append-nil, arith}
use Rattle.std.specs.List.{slice_get, slice_index_or}
use Rattle.mc_allows.specs.declared.call_name.CallName.{CallName}
use Rattle.mc_kind.specs.Cutting.{HasNoCut, IsRefutedAt, GoesOn}
use Rattle.mc_parse.specs.declared.command.Command.{Command}
use Rattle.zy_capture.specs.declared.record.Record.{Record}
use Rattle.zy_capture.specs.Outputs.{AllOutputs}
use Rattle.zy_capture.specs.Streams.{closes, sessions_of}
use Rattle.zy_refute.specs.declared.observed.Observed.{Observed}
use Rattle.zy_sessions.specs.declared.session.Session.{Session}
use Rattle.zy_sessions.specs.declared.line.Line.{Line}
use Rattle.zy_sessions.specs.declared.sessions.Sessions.{Sessions}
use Rattle.zy_sessions.specs.Sessions.{LineHolds, SessionsHold, HasNothing}
use Rattle.zy_sessions.proofs.OtherLemmas.{within_or_nothing}
use Rattle.zy_verdict.specs.Recorded.{Recorded, session_commands, output_of, HaveSessions}
use Rattle.zy_verdict.specs.Entries.{NamedCall}
use Rattle.zy_verdict.specs.Explained.{IsExplained}
use Rattle.zy_observed.specs.Shown.{AreShown}
use Rattle.zy_outputs.specs.declared.finding.Finding.{Finding}
use Rattle.zy_outputs.specs.declared.finding.Finding.TheVariants.{Kind, Surplus, EarlyEnd, Other}
use Rattle.zy_outputs.specs.declared.observing.Observing.{Observing}
use Rattle.zy_outputs.specs.declared.observing.Observing.TheVariants as Observings
use Rattle.zy_outputs.specs.declared.rules.Rules.{Rules}
use Rattle.zy_outputs.specs.Adding.{Obeys, AddsShown}
use Rattle.zy_outputs.specs.Observing.{recorded_of, IsRefutedByOutput, IsStray, IsSurplus, IsEarlyEnd, IsObserving, IsFoundBy}
use Rattle.zy_outputs.specs.Telling.{IsTold}
use Rattle.zy_outputs.specs.Sessions.{IsRefuting, IsDone, IsOther, IsFirstOf, IsOutputFound, HasOutputs, session_calls, line_calls, all_calls, SessionIsDone, LineIsDone, LinesAreDone}
use Rattle.zy_outputs.proofs.AddingLemmas.{adds_none, adds_on}
use Rattle.zy_outputs.proofs.AllLemmas.{IsAmong, all_shown}
use Rattle.zy_outputs.proofs.SessionLemmas.{uncut_refutes}

module _ (r : Recorded) where
  -- what is not followed refutes nothing
  other_done : (old new : List Observed) (named : List NamedCall) (found : Option Finding) → IsOther found → IsDone r old new named found
  other_done old new named None other = absurd other
  other_done old new named (Some (Kind conn session index)) other = absurd other
  other_done old new named (Some (Surplus conn session)) other = absurd other
  other_done old new named (Some (EarlyEnd moment)) other = absurd other
  other_done old new named (Some (Other conn session index)) other = tt

  -- after the first calls come others
  next_done : (old mid new : List Observed) (named more : List NamedCall) (next : Option Finding) → AddsShown r old mid named → IsDone r mid new more next → IsDone r old new (named ++ more) next
  next_done old mid new named more None one two = adds_on r old mid new named more one two
  next_done old mid new named more (Some finding) one two = two

  pub done_on : (old mid new : List Observed) (named more : List NamedCall) (found next result : Option Finding) → IsDone r old mid named found → IsDone r mid new more next → IsFirstOf found next result
      → IsDone r old new (named ++ more) result
  done_on old mid new named more None next result one two is = subst (IsDone r old new (named ++ more)) (sym is) (next_done old mid new named more next one two)
  done_on old mid new named more (Some first) next result one two (inl is) = subst (IsDone r old new (named ++ more)) (sym is) one
  done_on old mid new named more (Some first) next result one two (inr other) = other_done old new (named ++ more) result other

  -- a finding that adds no call
  pub done_by : (old new : List Observed) (named : List NamedCall) (found next result : Option Finding) → IsDone r old new named found → IsDone r new new [] next → IsFirstOf found next result → IsDone r old new named result
  done_by old new named found next result one two is = subst (λ (l : List NamedCall). IsDone r old new l result) (append-nil named) (done_on old new new named [] found next result one two is)

  -- an output that has no session
  stray_refutes : (conn session : ℕ) → IsStray r conn session → IsExplained r → ⊥
  stray_refutes conn session stray explained = let by = explained.1.1 in go by.sessions stray.missing
    where
      go : HaveSessions r → (r.count ≤ conn) ⊎ (closes conn r.records < session) → ⊥
      go have (inl past) = let few = have.connections in let line = stray.line in omega (arith, few, line, past)
      go have (inr past) = let few = have.sessions conn stray.line in let there = stray.there in omega (arith, few, there, past)

  pub surplus_done : (outputs : AllOutputs) (conn session : ℕ) (calls : List Observed) (found : Option Finding) → IsOutputFound outputs conn session found → HasOutputs r outputs
      → (r.count ≤ conn) ⊎ (closes conn r.records < session) → IsDone r calls calls [] found
  surplus_done outputs conn session calls None is has missing = adds_none r calls
  surplus_done outputs conn session calls (Some (Kind own_conn own_session index)) is has missing = absurd is
  surplus_done outputs conn session calls (Some (Surplus own_conn own_session)) is has missing =
      let stray : IsStray r conn session = record {
        line = subst (λ (all : List (List (List ℕ))). conn < length all) (sym has) is.2.line;
        there = subst (λ (all : List (List (List ℕ))). session < length (sessions_of all conn)) (sym has) is.2.there;
        missing = missing;
      } in
      subst (λ (own : ℕ). (IsExplained r → ⊥) × IsSurplus r own own_session) (sym is.0)
      (subst (λ (own : ℕ). (IsExplained r → ⊥) × IsSurplus r conn own) (sym is.1) (stray_refutes conn session stray, inr stray))
  surplus_done outputs conn session calls (Some (EarlyEnd mark)) is has missing = absurd is
  surplus_done outputs conn session calls (Some (Other own_conn own_session index)) is has missing = absurd is

-- ---- a session

module _ (rules : Rules) (name : CallName) (s : Session) (output : List ℕ) (old new : List Observed) where
  -- a session whose output has no cut
  pub kind_done : (index : ℕ) → HasNoCut s.commands.items output × IsRefutedAt s.commands.items output index → SessionIsDone rules name s output old new (Some (Kind name.conn name.session index))
  kind_done index cut r obeys is = (
    uncut_refutes r name.conn name.session s output is.holds is.output_is cut.0,
    subst (λ (cs : List Command). IsRefutedAt cs (output_of r name.conn name.session) index) is.holds.commands
        (subst (λ (own : List ℕ). IsRefutedAt s.commands.items own index) is.output_is cut.1),
  )

  pub surplus_output_done : GoesOn s.commands.items output → SessionIsDone rules name s output old new (Some (Surplus name.conn name.session))
  surplus_output_done goes r obeys is = (
    uncut_refutes r name.conn name.session s output is.holds is.output_is goes.uncut,
    inl (subst (λ (cs : List Command). GoesOn cs (output_of r name.conn name.session)) is.holds.commands (subst (λ (own : List ℕ). GoesOn s.commands.items own) is.output_is goes)),
  )

-- ---- a connection

-- the calls of the sessions of a connection before this one are added, or something is found
abbrev pub LineIsDoneTo : Rules → ℕ → Line → AllOutputs → List Observed → List Observed → ℕ → Option Finding → Type 0
LineIsDoneTo rules conn line outputs old now session found = (r : Recorded) → Obeys rules r → HasOutputs r outputs → LineHolds r.records conn line → IsDone r old now (line_calls r conn session) found

pub line_start : (rules : Rules) (conn : ℕ) (line : Line) (outputs : AllOutputs) (calls : List Observed) → LineIsDoneTo rules conn line outputs calls calls 0 None
line_start rules conn line outputs calls r obeys has holds = adds_none r calls

module _ (rules : Rules) (conn : ℕ) (line : Line) (outputs : AllOutputs) (old now : List Observed) (session : ℕ) (found : Option Finding) (k : LineIsDoneTo rules conn line outputs old now session found) where
  -- one more session
  pub line_next : (s : Session) (output : List ℕ) (index part : ℕ) (new : List Observed) (next result : Option Finding) → slice_get line.sessions.items session ≡ Some s
      → output ≡ slice_index_or (sessions_of outputs.sessions conn) session [] → SessionIsDone rules (record { index = index; session = session; conn = conn; part = part }) s output now new next
      → IsFirstOf found next result → LineIsDoneTo rules conn line outputs old new (session + 1) result
  line_next s output index part new next result is output_is done first r obeys has holds =
      let here : output ≡ output_of r conn session = output_is ∙ ap (λ (all : List (List (List ℕ))). slice_index_or (sessions_of all conn) session []) (sym has) in
      let own = done r obeys (record { holds = holds.sessions session s is; output_is = here }) in
      subst (λ (n : ℕ). IsDone r old new (line_calls r conn n) result) (sym (add-one session))
      (done_on r old now new (line_calls r conn session) (session_calls r conn session) found next result (k r obeys has holds) own first)

  -- no session is left
  pub line_ends : (next result : Option Finding) → session ≡ length line.sessions.items → IsOutputFound outputs conn (length line.sessions.items) next → IsFirstOf found next result → LineIsDone rules conn line outputs old now result
  line_ends next result last surplus first r obeys has holds =
      let number : session ≡ closes conn r.records + 1 = last ∙ holds.count in
      let past : closes conn r.records < length line.sessions.items = let count = holds.count in omega (arith, count) in
      subst (λ (n : ℕ). IsDone r old now (line_calls r conn n) result) number
      (done_by r old now (line_calls r conn session) found next result (k r obeys has holds) (surplus_done r outputs conn (length line.sessions.items) now next surplus has (inr past)) first)

-- ---- all connections

-- the calls of the connections before this one are added, or something is found
abbrev pub LinesAreDoneTo : Rules → List Line → AllOutputs → List Observed → List Observed → ℕ → Option Finding → Type 0
LinesAreDoneTo rules lines outputs old now conn found = (r : Recorded) → Obeys rules r → HasOutputs r outputs → length lines ≡ r.count
    → ((conn : ℕ) (line : Line) → slice_get lines conn ≡ Some line → LineHolds r.records conn line) → IsDone r old now (all_calls r conn) found

pub lines_start : (rules : Rules) (lines : List Line) (outputs : AllOutputs) (calls : List Observed) → LinesAreDoneTo rules lines outputs calls calls 0 None
lines_start rules lines outputs calls r obeys has count holds = adds_none r calls

module _ (rules : Rules) (lines : List Line) (outputs : AllOutputs) (old now : List Observed) (conn : ℕ) (found : Option Finding) (k : LinesAreDoneTo rules lines outputs old now conn found) where
  -- one more connection
  pub lines_next : (line : Line) (new : List Observed) (next result : Option Finding) → slice_get lines conn ≡ Some line → LineIsDone rules conn line outputs now new next → IsFirstOf found next result
      → LinesAreDoneTo rules lines outputs old new (conn + 1) result
  lines_next line new next result is done first r obeys has count holds =
      subst (λ (n : ℕ). IsDone r old new (all_calls r n) result) (sym (add-one conn))
      (done_on r old now new (all_calls r conn) (line_calls r conn (closes conn r.records + 1)) found next result (k r obeys has count holds) (done r obeys has (holds conn line is)) first)

  -- no connection is left
  pub lines_end : (next result : Option Finding) → conn ≡ length lines → IsOutputFound outputs (length lines) 0 next → IsFirstOf found next result → LinesAreDone rules lines outputs old now result
  lines_end next result last surplus first r obeys has count holds =
      subst (λ (n : ℕ). IsDone r old now (all_calls r n) result) (last ∙ count)
      (done_by r old now (all_calls r conn) found next result (k r obeys has count holds) (surplus_done r outputs (length lines) 0 now next surplus has (inl (omega (arith, count)))) first)

-- ---- the whole recording

-- what is found of one output is found of all
pub found_by : (r : Recorded) (finding : Finding) (observing : Observing) → IsFoundBy finding observing → IsRefuting r finding → IsObserving r observing
found_by r (Kind conn session index) (Observings.Kind own_conn own_session own_index) is refutes = (
  refutes.0,
  subst (λ (own : ℕ). IsRefutedByOutput r own own_session own_index) (sym is.0)
      (subst (λ (own : ℕ). IsRefutedByOutput r conn own own_index) (sym is.1) (subst (λ (own : ℕ). IsRefutedByOutput r conn session own) (sym is.2) refutes.1)),
)
found_by r (Kind conn session index) (Observings.Surplus own_conn own_session) is refutes = absurd is
found_by r (Kind conn session index) (Observings.EarlyEnd moment) is refutes = absurd is
found_by r (Kind conn session index) (Observings.Other own_conn own_session own_index) is refutes = tt
found_by r (Kind conn session index) (Observings.Calls calls) is refutes = absurd is
found_by r (Surplus conn session) (Observings.Kind own_conn own_session own_index) is refutes = absurd is
found_by r (Surplus conn session) (Observings.Surplus own_conn own_session) is refutes = (
  refutes.0,
  subst (λ (own : ℕ). IsSurplus r own own_session) (sym is.0) (subst (λ (own : ℕ). IsSurplus r conn own) (sym is.1) refutes.1),
)
found_by r (Surplus conn session) (Observings.EarlyEnd moment) is refutes = absurd is
found_by r (Surplus conn session) (Observings.Other own_conn own_session own_index) is refutes = tt
found_by r (Surplus conn session) (Observings.Calls calls) is refutes = absurd is
found_by r (EarlyEnd moment) (Observings.Kind own_conn own_session own_index) is refutes = absurd is
found_by r (EarlyEnd moment) (Observings.Surplus own_conn own_session) is refutes = absurd is
found_by r (EarlyEnd mark) (Observings.EarlyEnd own_mark) is refutes = (refutes.0, subst (IsEarlyEnd r) (sym is) refutes.1)
found_by r (EarlyEnd moment) (Observings.Other own_conn own_session own_index) is refutes = tt
found_by r (EarlyEnd moment) (Observings.Calls calls) is refutes = absurd is
found_by r (Other conn session index) (Observings.Kind own_conn own_session own_index) is refutes = absurd is
found_by r (Other conn session index) (Observings.Surplus own_conn own_session) is refutes = absurd is
found_by r (Other conn session index) (Observings.EarlyEnd moment) is refutes = absurd is
found_by r (Other conn session index) (Observings.Other own_conn own_session own_index) is refutes = tt
found_by r (Other conn session index) (Observings.Calls calls) is refutes = absurd is

module _ (sessions : Sessions) (count : ℕ) (records : List Record) (outputs : AllOutputs) (shards : ℕ) (warm forget : Bool) (lasting : List (List ℕ)) (h : SessionsHold sessions count records) where
  -- what the lines give is of the whole recording
  pub lines_give : (rules : Rules) → rules ≡ record { shards = shards; forget = forget } → (calls : List Observed) (found : Option Finding) → LinesAreDone rules sessions.lines.items outputs [] calls found
      → IsDone (recorded_of count records outputs shards warm forget lasting) [] calls (all_calls (recorded_of count records outputs shards warm forget lasting) count) found
  lines_give rules is calls found done =
      done (recorded_of count records outputs shards warm forget lasting) (subst (λ (own : Rules). Obeys own (recorded_of count records outputs shards warm forget lasting)) (sym is) (record { shards = refl; forget = refl })) refl h.count_is h.each

  -- each command is of a session that is noted
  among : (conn session : ℕ) (command : Command) (index : ℕ) → slice_get (session_commands (recorded_of count records outputs shards warm forget lasting) conn session) index ≡ Some command
      → IsAmong (recorded_of count records outputs shards warm forget lasting) conn session
  among conn session command index is = go (within_or_nothing sessions count records h conn session)
    where
      go : ((conn < count) × (session < closes conn records + 1)) ⊎ HasNothing records conn session → (conn < count) × (session < closes conn records + 1)
      go (inl within) = within
      go (inr nothing) = absurd (let e : slice_get {X = Command} [] index ≡ Some command = subst (λ (cs : List Command). slice_get cs index ≡ Some command) nothing.commands is in cc)

  pub calls_found : (rules : Rules) → rules ≡ record { shards = shards; forget = forget } → (calls : List Observed) → LinesAreDone rules sessions.lines.items outputs [] calls None
      → AreShown (recorded_of count records outputs shards warm forget lasting) calls
  calls_found rules is calls done =
      all_shown (recorded_of count records outputs shards warm forget lasting) calls (lines_give rules is calls None done) (λ command named of. among named.name.conn named.name.session command named.name.index of.is)

  pub finding_found : (rules : Rules) → rules ≡ record { shards = shards; forget = forget } → (calls : List Observed) (finding : Finding) (observing : Observing) → LinesAreDone rules sessions.lines.items outputs [] calls (Some finding)
      → IsFoundBy finding observing → IsObserving (recorded_of count records outputs shards warm forget lasting) observing
  finding_found rules is calls finding observing done by = found_by (recorded_of count records outputs shards warm forget lasting) finding observing by (lines_give rules is calls (Some finding) done)

  pub told_found : (rules : Rules) → rules ≡ record { shards = shards; forget = forget } → (calls : List Observed) (found : Option Finding) (observing : Observing) → LinesAreDone rules sessions.lines.items outputs [] calls found
      → IsTold found calls observing → IsObserving (recorded_of count records outputs shards warm forget lasting) observing
  told_found rules is calls None (Observings.Kind conn session index) done told = absurd told
  told_found rules is calls None (Observings.Surplus conn session) done told = absurd told
  told_found rules is calls None (Observings.EarlyEnd moment) done told = absurd told
  told_found rules is calls None (Observings.Other conn session index) done told = absurd told
  told_found rules is calls None (Observings.Calls own) done told = subst (AreShown (recorded_of count records outputs shards warm forget lasting)) (sym told) (calls_found rules is calls done)
  told_found rules is calls (Some finding) observing done told = finding_found rules is calls finding observing done told
