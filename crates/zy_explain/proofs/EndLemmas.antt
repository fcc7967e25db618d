-- From an order that was followed to its end to an explanation.
use Rattle.std.specs.List.{slice_get, slice_index_or}
use mathlib.Core.Logic.{dite}
use native.Mathlib.Decide.{dec_lt}
use Rattle.std.proofs.Common.{◌≡◌, ◌⊎◌, ◌↔◌, inl, inr, ⊎_elim, ℕ, zero, suc, ◌+◌, ◌<◌, ◌≤◌, ◌||◌, Bool, true, false, List, [], ◌∷◌, ◌++◌, length, take, map, replicate, All, Contains, Option, None, Some, Result, Ok, Err, IfOk, IfSome, refl, sym, ap, ◌∙◌, subst, arith}
use Rattle.std.specs.Ordering.{nat_cmp}
use Rattle.std.specs.Cmp.Lexicographic.{slice_cmp}
use Rattle.std.specs.BTreeSet.{BTreeSet, contains}
use Rattle.std.proofs.lemmas.List.{take_all, get_or_past}
use Rattle.std.proofs.lemmas.List.Elements.{All-nil, All-weaker, All-contains, All-contains_itself}
use Rattle.std.proofs.lemmas.Option.{slice_get_within}
use Rattle.mc_allows.specs.declared.said.Said.{Said}
use Rattle.mc_allows.specs.Steps.{KeyStep, made, lost, unique_stored}
use Rattle.mc_answers.specs.Output.{Cut, IsCut, FitsText, text_at}
use Rattle.mc_parse.specs.declared.command.Command.{Command}
use Rattle.zy_capture.specs.declared.record.Record.{Record}
use Rattle.zy_capture.specs.Streams.{closes, sessions_of}
use Rattle.zy_check.specs.Answered.{has_bytes}
use Rattle.zy_check.proofs.ListLemmas.{there}
use Rattle.zy_times.specs.InTime.{total_below}
use Rattle.zy_times.specs.Sessions.{commands_of_session, sent_in, IsSentIn, IsEndedIn, MarksFitIn}
use Rattle.zy_times.specs.Times.{marks_in, trues}
use Rattle.zy_times.proofs.SessionLemmas.{none_past}
use Rattle.zy_verdict.specs.Recorded.{Recorded, session_commands, output_of, last_moment, HaveSessions}
use Rattle.zy_verdict.specs.Losses.{HasExptime, MayLoseAt}
use Rattle.zy_verdict.specs.Entries.{MadeCall, named_from, is_of_session, of_session, said_to, placed_at}
use Rattle.zy_verdict.specs.Explained.{OutputCuts, IsTimely, MayHaveFailed, IsChain, IsExplainedBy}
use Rattle.zy_verdict.specs.Numbers.{ended_among, total_of, number_of_commands, number_ended, IsExplainedWith}
use Rattle.zy_items.specs.Standing.{Standing}
use Rattle.zy_verdict.specs.Between.{LeadsBetween, IsExplainedBetweenWith}
use Rattle.zy_verdict.proofs.GivenLemmas.{wider}
use Rattle.zy_verdict.proofs.ListLemmas.{contains_kept}
use Rattle.zy_verdict.proofs.MomentLemmas.{sent_rises}
use Rattle.zy_base.specs.declared.outside.NoMemory.{NoMemory}
use Rattle.zy_confirm.specs.declared.store.Store.{Store}
use Rattle.zy_confirm.specs.Store.{held_at, KeyStands}
use Rattle.zy_sessions.specs.declared.line.Line.{Line}
use Rattle.zy_sessions.specs.declared.session.Session.{Session}
use Rattle.zy_sessions.specs.declared.sessions.Sessions.{Sessions}
use Rattle.zy_sessions.specs.Sessions.{SessionHolds, SessionsHold, session_in, session_at, HasNothing}
use Rattle.zy_sessions.proofs.OtherLemmas.{others_have_nothing}
use Rattle.zy_explain.specs.declared.rules.Rules.{Rules}
use Rattle.zy_explain.specs.declared.numbers.Numbers.{Numbers}
use Rattle.zy_explain.specs.declared.track.Track.{Track}
use Rattle.zy_explain.specs.declared.state.State.{State}
use Rattle.zy_explain.specs.Judged.{judged, judged_after}
use Rattle.zy_explain.specs.Making.{FailsLawfully}
use Rattle.zy_explain.specs.Following.{output_in, track_at, sessions_in, sessions_on, may_lose_by, calls_made, IsRightIn, TrackStands, Stands, StandsSome}
use Rattle.zy_explain.specs.Beginning.{Begins}
use Rattle.zy_explain.specs.Between.{StandsAt}
use Rattle.zy_explain.specs.Ending.{EndsRight, commands_in, ended_in, AreNumbers, EndsAs, HaveTheirSessions}
use Rattle.zy_explain.proofs.CallLemmas.{calls_whole}
use Rattle.zy_explain.proofs.CutLemmas.{missing, the_cut, done_is, done_fits, done_reaches, done_flags}
use Rattle.zy_explain.proofs.StateLemmas.{own_session, holds_at}

-- ---- flags

trues_none : (k n : ℕ) → trues (take k (replicate n false)) ≡ 0
trues_none zero n = refl
trues_none (suc k) zero = refl
trues_none (suc k) (suc n) = trues_none k n

trues_padded : (k : ℕ) (flags : List Bool) (n : ℕ) → trues (take k (flags ++ replicate n false)) ≡ trues (take k flags)
trues_padded zero [] n = refl
trues_padded (suc k) [] n = trues_none (suc k) n
trues_padded zero (flag ∷ flags) n = refl
trues_padded (suc k) (true ∷ flags) n = ap suc (trues_padded k flags n)
trues_padded (suc k) (false ∷ flags) n = trues_padded k flags n

trues_few : (k : ℕ) (flags : List Bool) → trues (take k flags) ≤ trues flags
trues_few zero flags = omega arith
trues_few (suc k) [] = omega arith
trues_few (suc k) (true ∷ flags) = let rest = trues_few k flags in omega (arith, rest)
trues_few (suc k) (false ∷ flags) = trues_few k flags

-- marks that all end a command end none behind it
ended_padded : (marks : ℕ) (flags : List Bool) (n : ℕ) → marks ≤ trues flags → ended_among marks (flags ++ replicate n false) ≡ ended_among marks flags
ended_padded zero flags n few = refl
ended_padded (suc marks) [] n few = absurd (omega (arith, few))
ended_padded (suc marks) (true ∷ flags) n few = ap suc (ended_padded marks flags n (omega (arith, few)))
ended_padded (suc marks) (false ∷ flags) n few = ap suc (ended_padded (suc marks) flags n few)

no_ended : (marks : ℕ) → ended_among marks [] ≡ 0
no_ended zero = refl
no_ended (suc marks) = refl

-- ---- totals

total_same : (f g : ℕ → ℕ) (n : ℕ) → ((i : ℕ) → i < n → f i ≡ g i) → total_below f n ≡ total_below g n
total_same f g zero same = refl
total_same f g (suc n) same =
    let rest = total_same f g n (λ i below. same i (omega (arith, below))) in
    let last = same n (omega arith) in
    omega (arith, rest, last)

-- ---- one session

-- what an explanation says of one session
record IsSessionOf (r : Recorded) (entries : List MadeCall) (conn session commands ended : ℕ) : Type 0 where
  cut : Cut
  is : IsCut (session_commands r conn session) (output_of r conn session) cut
  fits : (i : ℕ) (command : Command) → slice_get (session_commands r conn session) i ≡ Some command → FitsText cut i command (said_to conn session i entries)
  made : ℕ
  calls : map (λ (e : MadeCall). e.named) (of_session conn session entries) ≡ named_from r.shards conn session 0 (take made (session_commands r conn session))
  reaches : (index : ℕ) → made ≤ index → text_at cut index ≡ []
  fit : (moment : ℕ) → MarksFitIn r.records conn session (map has_bytes cut.texts) moment
  timely : All (λ (e : MadeCall). e.moment ≤ last_moment r → IsSentIn r.records conn session e.named.name.index e.moment
      × (IsEndedIn r.records conn session (map has_bytes cut.texts) e.named.name.index e.moment → ⊥)) (of_session conn session entries)
  failures : All (λ (e : MadeCall). (command : Command) → slice_get (session_commands r conn session) e.named.name.index ≡ Some command → FailsLawfully r.forget command e.named.call e.said)
      (of_session conn session entries)
  commands_are : commands ≡ length (session_commands r conn session)
  ended_are : ended ≡ ended_among (marks_in r.records conn session) (map has_bytes cut.texts)

module _ (rules : Rules) (lasting : BTreeSet (List ℕ)) (earlier : List (List ℕ)) (sessions : Sessions) (outputs : List (List (List ℕ))) (began : Store) (state : State) (entries : List MadeCall)
    (stands : Stands rules lasting sessions outputs began state entries) (count : ℕ) (records : List Record) (hold : SessionsHold sessions count records) (conn session : ℕ) where
  abbrev r : Recorded
  r = judged_after earlier rules count records outputs

  abbrev output : List ℕ
  output = output_in outputs conn session

  abbrev saids : ℕ → List Said
  saids i = said_to conn session i entries

  module _ (s : Session) (has : session_at sessions conn session ≡ Some s) where
    abbrev track : Track
    track = (stands.each conn session s has).track

    abbrev mine : TrackStands rules.shards rules.forget s output conn session entries track
    mine = (stands.each conn session s has).stands

    holds : SessionHolds records conn session s
    holds = holds_at sessions count records hold conn session s has

    module _ (right : EndsRight s output track) where
      abbrev own_cut : Cut
      own_cut = the_cut s.commands.items saids output track.answered.items track.at mine.cut right.whole

      abbrev none_of : ℕ
      none_of = missing s.commands.items saids output track.answered.items track.at mine.cut right.whole

      flags : map has_bytes own_cut.texts ≡ track.answered.items ++ replicate none_of false
      flags = done_flags s.commands.items saids output track.answered.items track.at mine.cut right.whole

      trues_same : (k : ℕ) → trues (take k (map has_bytes own_cut.texts)) ≡ trues (take k track.answered.items)
      trues_same k = ap (λ (l : List Bool). trues (take k l)) flags ∙ trues_padded k track.answered.items none_of

      marks_same : length s.marks.items ≡ marks_in records conn session
      marks_same = holds.marks.size ∙ ap (λ (l : List Record). marks_in l conn session) (take_all (length records) records (omega arith))

      marks_few : length s.marks.items ≤ trues track.answered.items
      marks_few =
          let size = holds.marks.size in
          let fit = right.fit records conn session holds.sent holds.marks (length records) in
          let few = trues_few (sent_in records conn session (length records)) track.answered.items in
          omega (arith, size, fit, few)

      timely_one : (e : MadeCall) → IsRightIn rules.forget s track.answered.items e → e.moment ≤ length records → IsSentIn records conn session e.named.name.index e.moment
          × (IsEndedIn records conn session (map has_bytes own_cut.texts) e.named.name.index e.moment → ⊥)
      timely_one e ok within = (
        let above = (holds.sent.each e.named.name.index ok.first ok.is).1.above in
            let more = sent_rises records conn session ok.first e.moment ok.sent in
            omega (arith, above, more),
        λ ended. ok.unended records conn session holds.marks within (let same = trues_same e.named.name.index in omega (arith, same, ended)),
      )

      some_session : IsSessionOf r entries conn session (commands_in (Some s)) (ended_in (Some s) (Some track))
      some_session = record {
        cut = own_cut;
        is = subst (λ (cs : List Command). IsCut cs output own_cut) holds.commands (done_is s.commands.items saids output track.answered.items track.at mine.cut right.whole);
        fits = λ i command there_is. done_fits s.commands.items saids output track.answered.items track.at mine.cut right.whole i command (ap (λ (cs : List Command). slice_get cs i) holds.commands ∙ there_is);
        made = length track.answered.items;
        calls =
            mine.calls
            ∙ ap (λ (l : List Said). calls_made rules.shards conn session s.commands.items (length track.answered.items) (length l)) right.none
            ∙ calls_whole rules.shards conn session s.commands.items (length track.answered.items)
            ∙ ap (λ (cs : List Command). named_from rules.shards conn session 0 (take (length track.answered.items) cs)) holds.commands;
        reaches = done_reaches s.commands.items saids output track.answered.items track.at mine.cut right.whole;
        fit = λ moment. let fit = right.fit records conn session holds.sent holds.marks moment in let same = trues_same (sent_in records conn session moment) in omega (arith, fit, same);
        timely = All-weaker (IsRightIn rules.forget s track.answered.items)
            (λ (e : MadeCall). e.moment ≤ length records → IsSentIn records conn session e.named.name.index e.moment × (IsEndedIn records conn session (map has_bytes own_cut.texts) e.named.name.index e.moment → ⊥))
            timely_one (of_session conn session entries) mine.right;
        failures = All-weaker (IsRightIn rules.forget s track.answered.items)
            (λ (e : MadeCall). (command : Command) → slice_get (commands_of_session records conn session) e.named.name.index ≡ Some command → FailsLawfully rules.forget command e.named.call e.said)
            (λ e ok command there_is. ok.lawful command (ap (λ (cs : List Command). slice_get cs e.named.name.index) holds.commands ∙ there_is)) (of_session conn session entries) mine.right;
        commands_are = ap (λ (cs : List Command). length cs) holds.commands;
        ended_are =
            sym (ended_padded (length s.marks.items) track.answered.items none_of marks_few) ∙ ap (ended_among (length s.marks.items)) (sym flags)
            ∙ ap (λ (k : ℕ). ended_among k (map has_bytes own_cut.texts)) marks_same;
      }

  -- a session that is not among the notes
  none_session : session_at sessions conn session ≡ None → HasNothing records conn session → output ≡ [] → IsSessionOf r entries conn session 0 0
  none_session none nothing empty =
      let no_entries = stands.others conn session none in
      record {
        cut = record { texts = []; left = [] };
        is = record {
          size = sym (ap (λ (cs : List Command). length cs) nothing.commands);
          whole = empty;
          each = λ i command is. let some : None ≡ Some command = ap (λ (cs : List Command). slice_get cs i) (sym nothing.commands) ∙ is in absurd (cc);
          over = inl refl;
        };
        fits = λ i command is. let some : None ≡ Some command = ap (λ (cs : List Command). slice_get cs i) (sym nothing.commands) ∙ is in absurd (cc);
        made = 0;
        calls = ap (map (λ (e : MadeCall). e.named)) no_entries;
        reaches = λ index from. refl;
        fit = λ moment. let few = nothing.marks moment in omega (arith, few);
        timely = subst (All (λ (e : MadeCall). e.moment ≤ length records → IsSentIn records conn session e.named.name.index e.moment × (IsEndedIn records conn session [] e.named.name.index e.moment → ⊥))) (sym no_entries)
            (All-nil (λ (e : MadeCall). e.moment ≤ length records → IsSentIn records conn session e.named.name.index e.moment × (IsEndedIn records conn session [] e.named.name.index e.moment → ⊥)));
        failures = subst (All (λ (e : MadeCall). (command : Command) → slice_get (commands_of_session records conn session) e.named.name.index ≡ Some command → FailsLawfully rules.forget command e.named.call e.said)) (sym no_entries)
            (All-nil (λ (e : MadeCall). (command : Command) → slice_get (commands_of_session records conn session) e.named.name.index ≡ Some command → FailsLawfully rules.forget command e.named.call e.said));
        commands_are = sym (ap (λ (cs : List Command). length cs) nothing.commands);
        ended_are = sym (no_ended (marks_in records conn session));
      }

-- ---- sessions among the notes

module _ (sessions : Sessions) (conn session : ℕ) where
  line_there : (s : Session) (line : Option Line) → slice_get sessions.lines.items conn ≡ line → session_in line session ≡ Some s → (conn < length sessions.lines.items) × (session < sessions_in line)
  line_there s None is has = absurd (cc)
  line_there s (Some line) is has = (slice_get_within sessions.lines.items conn line is, slice_get_within line.sessions.items session s has)

  line_gone : (line : Option Line) → session_in line session ≡ None → sessions_in line ≤ session
  line_gone None none = omega arith
  line_gone (Some line) none = none_past line.sessions.items session none

  -- a session that is not among the notes has no output
  no_output : (outputs : List (List (List ℕ))) → HaveTheirSessions sessions outputs → session_at sessions conn session ≡ None → output_in outputs conn session ≡ []
  no_output outputs have none = dite (dec_lt conn (length outputs))
      (λ below.
      let few = have.within conn below in
      let past = line_gone (slice_get sessions.lines.items conn) none in
      get_or_past (sessions_of outputs conn) session [] (omega (arith, few, past)))
      (λ above. ap (λ (l : List (List ℕ)). slice_index_or l session []) (get_or_past outputs conn [] (omega (arith, above))))

module _ (sessions : Sessions) (count : ℕ) (records : List Record) (hold : SessionsHold sessions count records) where
  number_on : (conn : ℕ) → conn < length sessions.lines.items → sessions_on sessions conn ≡ closes conn records + 1
  number_on conn below =
      let line = there sessions.lines.items conn below in
      ap sessions_in line.1 ∙ (hold.each conn line.0 line.1).count

-- ---- the whole

module _ (rules : Rules) (lasting : BTreeSet (List ℕ)) (earlier : List (List ℕ)) (sessions : Sessions) (outputs : List (List (List ℕ))) (began : Store) (state : State) (entries : List MadeCall)
    (stands : Stands rules lasting sessions outputs began state entries) (n : Numbers) (have : HaveTheirSessions sessions outputs) (numbers : AreNumbers sessions outputs state.rows.items (length sessions.lines.items) n)
    (count : ℕ) (records : List Record) (hold : SessionsHold sessions count records)
    (nothing : (conn session : ℕ) → session_at sessions conn session ≡ None → HasNothing records conn session)
    (may_lose : (key : List ℕ) → may_lose_by rules lasting key ≡ true → MayLoseAt (judged_after earlier rules count records outputs) key) where
  abbrev whole : Recorded
  whole = judged_after earlier rules count records outputs

  by_session : (conn session : ℕ) (found : Option Session) → session_at sessions conn session ≡ found
      → IsSessionOf whole entries conn session (commands_in found) (ended_in found (track_at state.rows.items conn session))
  by_session conn session None none = none_session rules lasting earlier sessions outputs began state entries stands count records hold conn session none (nothing conn session none) (no_output sessions conn session outputs have none)
  by_session conn session (Some s) has =
      let mine = stands.each conn session s has in
      let bounds = line_there sessions conn session s (slice_get sessions.lines.items conn) refl has in
      subst (λ (t : Option Track). IsSessionOf whole entries conn session (commands_in (Some s)) (ended_in (Some s) t)) (sym mine.is)
      (some_session rules lasting earlier sessions outputs began state entries stands count records hold conn session s has (numbers.right conn bounds.0 session s mine.track bounds.1 has mine.is))

  abbrev session_of : (conn session : ℕ) → IsSessionOf whole entries conn session (commands_in (session_at sessions conn session)) (ended_in (session_at sessions conn session) (track_at state.rows.items conn session))
  session_of conn session = by_session conn session (session_at sessions conn session) refl

  abbrev cuts : OutputCuts
  cuts conn session = (session_of conn session).cut

  in_session : (e : MadeCall) → Contains entries e → Contains (of_session e.named.name.conn e.named.name.session entries) e
  in_session e at = contains_kept (λ (x : MadeCall). is_of_session e.named.name.conn e.named.name.session x.named.name) entries e at (own_session e.named.name)

  within_one : (e : MadeCall) → Contains entries e → e.moment ≤ length records
  within_one e at =
      let early = All-contains (λ (x : MadeCall). x.moment ≤ state.moment) entries e stands.latest at in
      let last = stands.within count records hold in
      omega (arith, early, last)

  timely_entry : (e : MadeCall) → Contains entries e → IsTimely whole cuts e
  timely_entry e at =
      let own = session_of e.named.name.conn e.named.name.session in
      let within = within_one e at in
      let both = All-contains (λ (x : MadeCall). x.moment ≤ length records → IsSentIn records e.named.name.conn e.named.name.session x.named.name.index x.moment
      × (IsEndedIn records e.named.name.conn e.named.name.session (map has_bytes own.cut.texts) x.named.name.index x.moment → ⊥))
      (of_session e.named.name.conn e.named.name.session entries) e own.timely (in_session e at) within in
      record { within = within; sent = both.0; unended = both.1 }

  lawful_entry : (e : MadeCall) → Contains entries e → MayHaveFailed whole e
  lawful_entry e at failed quiet =
      let own = session_of e.named.name.conn e.named.name.session in
      All-contains (λ (x : MadeCall). (command : Command) → slice_get (commands_of_session records e.named.name.conn e.named.name.session) x.named.name.index ≡ Some command → FailsLawfully rules.forget command x.named.call x.said)
      (of_session e.named.name.conn e.named.name.session entries) e own.failures (in_session e at) quiet.command quiet.is failed quiet.quiet

  abbrev steps : List ℕ → List KeyStep
  steps key = (stands.chains key).0

  stood : (key : List ℕ) → KeyStands (may_lose_by rules lasting key) (held_at began key) state.store key (placed_at rules.shards key entries) (steps key)
  stood key = subst (λ (shards : ℕ). KeyStands (may_lose_by rules lasting key) (held_at began key) state.store key (placed_at shards key entries) (steps key)) stands.shards (stands.chains key).1

  chain_at : (key : List ℕ) → IsChain whole key (held_at began key) (placed_at rules.shards key entries) (steps key)
  chain_at key = record {
    forget = may_lose_by rules lasting key;
    losses = may_lose key;
    calls = (stood key).calls;
    chain = record { allowed = (stood key).allowed; new = (stood key).new };
  }

  have_sessions : HaveSessions whole
  have_sessions = record {
    connections = let few = have.connections in let same = hold.count_is in omega (arith, few, same);
    sessions = λ conn below.
        let few = have.within conn below in
        let lines = have.connections in
        let same = number_on sessions count records hold conn (omega (arith, below, lines)) in
        omega (arith, few, same);
  }

  abbrev explained_by : IsExplainedBy whole cuts entries
  explained_by = record {
    sessions = have_sessions;
    cut = λ conn session. (session_of conn session).is;
    fit = λ conn session moment. (session_of conn session).fit moment;
    due = λ conn session. record { made = (session_of conn session).made; calls = (session_of conn session).calls; reaches = (session_of conn session).reaches };
    answers = λ conn session index command is. (session_of conn session).fits index command is;
    failures = All-weaker (Contains entries) (MayHaveFailed whole) lawful_entry entries (All-contains_itself entries);
    rises = stands.rises;
    timely = All-weaker (Contains entries) (IsTimely whole cuts) timely_entry entries (All-contains_itself entries);
    first = held_at began;
    cold = stands.cold;
    steps = steps;
    chains = chain_at;
  }

  -- the sessions of a connection, added up
  line_total : (own other : ℕ → ℕ → ℕ) → ((conn session : ℕ) → own conn session ≡ other conn session)
      → total_below (λ conn. total_below (own conn) (sessions_on sessions conn)) (length sessions.lines.items) ≡ total_of whole other
  line_total own other same =
      total_same (λ conn. total_below (own conn) (sessions_on sessions conn)) (λ conn. total_below (other conn) (closes conn records + 1)) (length sessions.lines.items)
      (λ conn below.
      total_same (own conn) (other conn) (sessions_on sessions conn) (λ session within. same conn session)
      ∙ ap (total_below (other conn)) (number_on sessions count records hold conn below))
      ∙ ap (total_below (λ conn. total_below (other conn) (closes conn records + 1))) hold.count_is

  commands_total : n.commands ≡ number_of_commands whole
  commands_total =
      numbers.commands
      ∙ line_total (λ conn session. commands_in (session_at sessions conn session)) (λ conn session. length (session_commands whole conn session)) (λ conn session. (session_of conn session).commands_are)

  ended_total : n.ended ≡ number_ended whole cuts
  ended_total =
      numbers.ended
      ∙ line_total (λ conn session. ended_in (session_at sessions conn session) (track_at state.rows.items conn session))
      (λ conn session. ended_among (marks_in records conn session) (map has_bytes (cuts conn session).texts)) (λ conn session. (session_of conn session).ended_are)

  pub explained_with : IsExplainedWith whole n.commands n.ended
  explained_with = record { cuts = cuts; entries = entries; explained = explained_by; commands_are = commands_total; ended_are = ended_total }

  -- from what a server had at first, the order leads to what it has at last
  module _ (from to : Standing) (earlier_is : earlier ≡ from.lasting) (began_as : Begins rules.shards from began) (at : StandsAt state.store lasting to)
      (lasts : (key : List ℕ) → (Contains to.lasting key ↔ (Contains from.lasting key ⊎ HasExptime whole key))) where
    abbrev leads : LeadsBetween whole cuts entries explained_by from to
    leads = record {
      begins = began_as.holds.held;
      ends = λ key. (stood key).ends ∙ sym (at.items key);
      losses = λ key is. may_lose key ((stood key).losses is);
      lasting_is = earlier_is;
      lasts = lasts;
      uniques = λ key.
          let low = stands.bounds.0 ∙ began_as.least in
          wider state.store.least state.store.most (from.bound + 1) to.bound (steps key) (omega (arith, low)) at.bound (stood key).given;
      rises = let kept = stands.bounds.1 in let first = began_as.most in let last = at.bound in omega (arith, kept, first, last);
    }

    pub between_with : IsExplainedBetweenWith whole from to n.commands n.ended
    between_with = record { cuts = cuts; entries = entries; explained = explained_by; leads = leads; commands_are = commands_total; ended_are = ended_total }

-- the entries that stand were made of the order, if there are numbers
pub ends_by : (rules : Rules) (lasting : BTreeSet (List ℕ)) (sessions : Sessions) (outputs : List (List (List ℕ))) (old new : State)
    → ((began : Store) → StandsSome rules lasting sessions outputs began old → StandsSome rules lasting sessions outputs began new)
    → (r : Option Numbers) → IfSome r (AreNumbers sessions outputs new.rows.items (length sessions.lines.items))
    → IfSome r (λ n. (began : Store) → StandsSome rules lasting sessions outputs began old → EndsAs rules lasting sessions outputs began new n)
ends_by rules lasting sessions outputs old new on None numbers = tt
ends_by rules lasting sessions outputs old new on (Some n) numbers = λ began stands. let led = on began stands in record { entries = led.0; stands = led.1; numbers = numbers }

-- ---- without what came before

pub either_true : (a b : Bool) → (a || b) ≡ true → (a ≡ true) ⊎ (b ≡ true)
either_true true b is = inl refl
either_true false b is = inr is

-- an order that was followed to its end explains the recording
pub explained_there : (rules : Rules) (sessions : Sessions) (outputs : List (List (List ℕ))) (began : Store) (state : State) (n : Numbers) → HaveTheirSessions sessions outputs → EndsAs rules sessions.lasting sessions outputs began state n
    → (count : ℕ) (records : List Record) → SessionsHold sessions count records → IsExplainedWith (judged rules count records outputs) n.commands n.ended
explained_there rules sessions outputs began state n have end count records hold =
    explained_with rules sessions.lasting [] sessions outputs began state end.entries end.stands n have end.numbers count records hold (λ conn session none. others_have_nothing sessions count records hold conn session none)
    (λ key may. ⊎_elim (λ forget. inl forget) (λ lasting. inr (inl ((hold.lasting key).0 lasting))) (either_true rules.forget (contains (slice_cmp nat_cmp) sessions.lasting key) may))
