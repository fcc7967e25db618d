-- A run whose calls fit the times of its sessions explains its recording.
use Rattle.std.specs.Prelude.{All, ◌==◌, ◌&&◌, if◌then◌else◌}
use Rattle.std.specs.List.{slice_get, slice_index_or, AllByRecursion, concat, range_with_len}
use Rattle.std.proofs.Common.{◌≡◌, inl, ℕ, zero, suc, ◌+◌, ◌<◌, ◌≤◌, Bool, List, [], ◌∷◌, ◌++◌, length, map, None, Some, refl, ap, sym, ◌∙◌, subst, ne_eqb, arith}
use Rattle.std.proofs.Math.ListN.{get_or-eq_default}
use Rattle.std.proofs.lemmas.List.{append-nil, take_all}
use Rattle.std.proofs.lemmas.List.FromFn.{get_or-map-range_with_len, length-map-range_with_len}
use Rattle.std.proofs.lemmas.List.Elements.{All-nil, All-cons, All-head, All-tail, All-weaker}
use Rattle.std.proofs.lemmas.Option.{slice_get_within}
use mathlib.Core.Logic.{dite}
use native.Mathlib.Decide.{dec_lt, ℕ_discrete}
use Rattle.mc_calls.specs.declared.entry.Entry.{Entry}
use Rattle.mc_calls.specs.Order.{of_connection}
use Rattle.mc_calls.specs.Replies.{replies_at}
use Rattle.mc_calls.proofs.EntryLemmas.{of_connection-here, of_connection-other}
use Rattle.mc_parse.specs.declared.command.Command.{Command}
use Rattle.mc_parse.specs.Calls.{Due, due, due_of, dues_of}
use Rattle.mc_reply.specs.Text.{text}
use Rattle.mc_reply.specs.Texts.{texts_from}
use Rattle.mc_reply.proofs.TextLemmas.{length-texts_from}
use Rattle.mc_answers.specs.Answer.{IsAnswer}
use Rattle.mc_answers.specs.Output.{text_at}
use Rattle.zy_capture.specs.declared.record.Record.{Record}
use Rattle.zy_capture.specs.declared.record.Record.TheVariants as Kinds
use Rattle.zy_capture.specs.Capture.{IsRecordOf}
use Rattle.zy_capture.specs.Streams.{closes, stream, stream_after, sessions_of}
use Rattle.zy_capture.proofs.StreamLemmas.{stream_held}
use Rattle.zy_frame.specs.Cut.{commands_of}
use Rattle.zy_run.specs.Commands.{streams_in, commands_in, commands_over}
use Rattle.zy_run.specs.Output.{commands_before, connection_outputs, all_outputs}
use Rattle.zy_run.specs.Run.{AreOfConnections, IsRun}
use Rattle.zy_run.proofs.StreamLemmas.{streams_held, length-streams_in}
use Rattle.zy_run.proofs.OutputLemmas.{length-outputs_of, outputs_of-at}
use Rattle.zy_check.specs.Answered.{has_bytes}
use Rattle.zy_times.specs.Sessions.{commands_of_session, IsSentIn, IsEndedIn, AllMarksFit}
use Rattle.zy_verdict.specs.Recorded.{Recorded, session_commands, output_of}
use Rattle.zy_verdict.specs.Entries.{MadeCall, said_to, named_from}
use Rattle.zy_verdict.specs.Explained.{OutputCuts, AreCuts, IsTimely, AreDue, IsExplained}
use Rattle.zy_verdict.proofs.ListLemmas.{all_at}
use Rattle.judge_laws.specs.Recorded.{recorded_with}
use Rattle.judge_laws.proofs.SaidLemmas.{IsSaid, IsKeyed}
use Rattle.judge_laws.proofs.KeyedLemmas.{commands_keyed}
use Rattle.judge_laws.proofs.DueLemmas.{IsOfCommands, due_of_commands}
use Rattle.judge_laws.proofs.PlaceLemmas.{IsIn, stream_at, before_next, command_there, no_commands}
use Rattle.judge_laws.proofs.MadeLemmas.{name_of, made_at, made_from, entries_named}
use Rattle.judge_laws.proofs.RepliesLemmas.{command_answered}
use Rattle.judge_laws.proofs.ChainLemmas.{all_made, made_rises, none_failed, leading, made_chain}

-- ---- streams

-- the stream of a session, among those of its connection
pub stream_is : (records : List Record) (conn session : ℕ) → stream conn session records ≡ stream_at (streams_in records conn) session
stream_is records conn session =
    sym (stream_held (conn + 1) conn session records (omega arith)) ∙ ap (λ (l : List (List ℕ)). stream_at l session) (streams_held (conn + 1) conn records (omega arith))

-- a connection that a capture does not have has no bytes
no_bytes_after : (version count before conn session : ℕ) (records : List Record) → AllByRecursion (IsRecordOf version count) records → count ≤ conn → stream_after before conn session records ≡ []
no_bytes_after version count before conn session [] lawful past = refl
no_bytes_after version count before conn session (Kinds.Segment s ∷ records) lawful past =
    let low = lawful.0.0 in
    ap (λ (b : Bool). if b && (before == session) then s.bytes ++ stream_after before conn session records else stream_after before conn session records) (ne_eqb s.conn conn (λ same. omega (arith, low, past, same)))
    ∙ no_bytes_after version count before conn session records lawful.1 past
no_bytes_after version count before conn session (Kinds.Close other ∷ records) lawful past =
    let low = lawful.0.1 in
    ap (λ (b : Bool). if b then stream_after (before + 1) conn session records else stream_after before conn session records) (ne_eqb other conn (λ same. omega (arith, low, past, same)))
    ∙ no_bytes_after version count before conn session records lawful.1 past

none_closed : (version count conn : ℕ) (records : List Record) → AllByRecursion (IsRecordOf version count) records → count ≤ conn → closes conn records ≡ 0
none_closed version count conn [] lawful past = refl
none_closed version count conn (Kinds.Segment s ∷ records) lawful past = none_closed version count conn records lawful.1 past
none_closed version count conn (Kinds.Close other ∷ records) lawful past =
    let low = lawful.0.1 in
    ap (λ (b : Bool). if b then closes conn records + 1 else closes conn records) (ne_eqb other conn (λ same. omega (arith, low, past, same)))
    ∙ none_closed version count conn records lawful.1 past

-- so it has no commands
no_commands_of : (version count conn : ℕ) (records : List Record) → AllByRecursion (IsRecordOf version count) records → count ≤ conn → commands_in records conn ≡ []
no_commands_of version count conn records lawful past =
    let one : closes conn records + 1 ≡ 1 = ap (λ (n : ℕ). n + 1) (none_closed version count conn records lawful past) in
    ap (λ (n : ℕ). commands_over (map (λ session. stream conn session records) (range_with_len 0 n))) one
    ∙ ap (λ (s : List ℕ). commands_of s ++ []) (no_bytes_after version count 0 conn 0 records lawful past) ∙ ap (λ (l : List Command). l ++ []) no_commands

-- ---- entries

none_of : (count conn : ℕ) (es : List Entry) → AreOfConnections count es → count ≤ conn → of_connection conn es ≡ []
none_of count conn [] are past = refl
none_of count conn (e ∷ es) are past = let low = are.0 in of_connection-other conn e es (λ same. omega (arith, low, past, same)) ∙ none_of count conn es are.1 past

own_all : (conn : ℕ) (P : Due → Type 0) (es : List Entry) → All P (dues_of (of_connection conn es)) → All (λ (e : Entry). e.tag.conn ≡ conn → P (due_of e)) es
own_all conn P [] all = All-nil (λ (e : Entry). e.tag.conn ≡ conn → P (due_of e))
own_all conn P (e ∷ es) all = dite (ℕ_discrete e.tag.conn conn)
    (λ same.
    let here = subst (λ (l : List Entry). All P (dues_of l)) (of_connection-here conn e es same) all in
    All-cons (λ (x : Entry). x.tag.conn ≡ conn → P (due_of x)) e es (λ is. All-head P (due_of e) (dues_of (of_connection conn es)) here)
    (own_all conn P es (All-tail P (due_of e) (dues_of (of_connection conn es)) here)))
    (λ other.
    All-cons (λ (x : Entry). x.tag.conn ≡ conn → P (due_of x)) e es (λ is. absurd (other is))
    (own_all conn P es (subst (λ (l : List Entry). All P (dues_of l)) (of_connection-other conn e es other) all)))

-- ---- texts

text_there : (first : ℕ) (commands : List Command) (own : List Entry) (index : ℕ) (command : Command) → slice_get commands index ≡ Some command
    → slice_index_or (texts_from first commands own) index [] ≡ text command (replies_at (first + index) own)
text_there first [] own index command is = absurd (cc)
text_there first (c ∷ commands) own zero command is =
    let same : c ≡ command = cc in
    let number : first ≡ first + 0 = omega arith in
    λ i. text (same i) (replies_at (number i) own)
text_there first (c ∷ commands) own (suc index) command is =
    let number : first + 1 + index ≡ first + suc index = omega arith in
    text_there (first + 1) commands own index command is ∙ ap (λ (n : ℕ). text command (replies_at n own)) number

-- the texts of a session's commands, with the replies of these entries
abbrev pub texts_in : List Record → List Entry → ℕ → ℕ → List (List ℕ)
texts_in records es conn session = texts_from (commands_before session (streams_in records conn)) (commands_of_session records conn session) (of_connection conn es)

-- the marks fit, and the entries have moments, by the commands of sessions
pub record AreTimed (records : List Record) (es : List Entry) (moment : ℕ → ℕ) : Type 0 where
  pub fit : AllMarksFit records (λ conn session. map has_bytes (texts_in records es conn session))
  pub rises : (p q : ℕ) → p ≤ q → q < length es → moment p ≤ moment q
  pub within : (p : ℕ) → p < length es → moment p ≤ length records
  pub sent : (p : ℕ) (e : Entry) → slice_get es p ≡ Some e
      → IsSentIn records e.tag.conn (name_of (streams_in records) e.tag).session (name_of (streams_in records) e.tag).index (moment p)
  pub unended : (p : ℕ) (e : Entry) → slice_get es p ≡ Some e
      → IsEndedIn records e.tag.conn (name_of (streams_in records) e.tag).session
      (map has_bytes (texts_in records es e.tag.conn (name_of (streams_in records) e.tag).session)) (name_of (streams_in records) e.tag).index (moment p) → ⊥

-- ---- the explanation

module _ (shards version count : ℕ) (records : List Record) (es : List Entry) (lawful : AllByRecursion (IsRecordOf version count) records) (run : IsRun shards es count (commands_in records)) where
  calls : (conn : ℕ) → dues_of (of_connection conn es) ≡ due shards conn (commands_over (streams_in records conn))
  calls conn = dite (dec_lt conn count)
      (λ within. run.calls conn within)
      (λ past. ap dues_of (none_of count conn es run.connections (omega arith)) ∙ ap (due shards conn) (sym (no_commands_of version count conn records lawful (omega arith))))

  -- each entry of a connection is of one of its commands
  pub all_within : (conn : ℕ) → All (λ (e : Entry). e.tag.conn ≡ conn → e.tag.index < length (commands_over (streams_in records conn))) es
  all_within conn =
      let all = commands_over (streams_in records conn) in
      All-weaker (λ (e : Entry). e.tag.conn ≡ conn → IsOfCommands conn 0 (0 + length all) (due_of e)) (λ (e : Entry). e.tag.conn ≡ conn → e.tag.index < length all)
      (λ e is same. let high = (is same).2 in omega (arith, high)) es
      (own_all conn (IsOfCommands conn 0 (0 + length all)) es (subst (All (IsOfCommands conn 0 (0 + length all))) (sym (calls conn)) (due_of_commands shards conn 0 all)))

  module _ (warm forget : Bool) (outputs : List (List (List ℕ))) (moment : ℕ → ℕ) (outs : outputs ≡ all_outputs count (streams_in records) es) (said : All IsSaid es) (timed : AreTimed records es moment) where
    abbrev r : Recorded
    r = recorded_with warm forget shards count records outputs

    abbrev cuts : OutputCuts
    cuts conn session = record { texts = texts_in records es conn session; left = [] }

    abbrev entries : List MadeCall
    entries = made_from (streams_in records) moment 0 es

    commands_are : (conn session : ℕ) → session_commands r conn session ≡ commands_of (stream_at (streams_in records conn) session)
    commands_are conn session = ap commands_of (stream_is records conn session)

    -- ---- answers

    answered : (conn session index : ℕ) (command : Command) → slice_get (session_commands r conn session) index ≡ Some command
        → IsAnswer command (said_to conn session index entries) (text_at (cuts conn session) index)
    answered conn session index command is =
        let streams = streams_in records conn in
        let first = commands_before session streams in
        let own_is : slice_get (commands_of (stream_at streams session)) index ≡ Some command = ap (λ (l : List Command). slice_get l index) (sym (commands_are conn session)) ∙ is in
        let within = slice_get_within (commands_of (stream_at streams session)) index command own_is in
        let next = before_next streams session in
        let here : IsIn streams session (first + index) = record { from = omega arith; until = omega (arith, next, within) } in
        subst (IsAnswer command (said_to conn session index entries)) (sym (text_there first (session_commands r conn session) (of_connection conn es) index command is))
        (command_answered shards conn session index (streams_in records) here es command
        (all_at IsKeyed (commands_of (stream_at streams session)) index command (commands_keyed (stream_at streams session)) own_is)
        (calls conn) (command_there streams session index within ∙ own_is) moment (all_within conn) said)

    -- ---- outputs

    sessions_are : (conn : ℕ) → conn < count → sessions_of outputs conn ≡ connection_outputs conn (streams_in records conn) es
    sessions_are conn within =
        ap (λ (l : List (List (List ℕ))). sessions_of l conn) outs ∙ get_or-map-range_with_len (λ c. connection_outputs c (streams_in records c) es) 0 count conn conn [] within (omega arith)

    outputs_long : length outputs ≡ count
    outputs_long = ap (λ (l : List (List (List ℕ))). length l) outs ∙ length-map-range_with_len (λ c. connection_outputs c (streams_in records c) es) 0 count

    sessions_long : (conn : ℕ) → conn < count → length (sessions_of outputs conn) ≡ closes conn records + 1
    sessions_long conn within =
        ap (λ (l : List (List ℕ)). length l) (sessions_are conn within) ∙ length-outputs_of conn (streams_in records conn) es ∙ length-streams_in records conn

    -- a session without commands has no texts
    none_in : (conn session : ℕ) → commands_of_session records conn session ≡ [] → concat (texts_in records es conn session) ≡ []
    none_in conn session none = ap (λ (l : List Command). concat (texts_from (commands_before session (streams_in records conn)) l (of_connection conn es))) none

    whole_within : (conn session : ℕ) → conn < count → output_of r conn session ≡ concat (texts_in records es conn session)
    whole_within conn session within =
        ap (λ (l : List (List ℕ)). slice_index_or l session []) (sessions_are conn within)
        ∙ dite (dec_lt session (length (streams_in records conn)))
        (λ low. outputs_of-at conn session (streams_in records conn) es low
        ∙ ap (λ (s : List ℕ). concat (texts_from (commands_before session (streams_in records conn)) (commands_of s) (of_connection conn es))) (sym (stream_is records conn session)))
        (λ high.
        let long = length-outputs_of conn (streams_in records conn) es in
        get_or-eq_default (connection_outputs conn (streams_in records conn) es) [] (omega (arith, long, high))
        ∙ sym (none_in conn session (ap commands_of (stream_is records conn session ∙ get_or-eq_default (streams_in records conn) [] (omega (arith, high))) ∙ no_commands)))

    whole_is : (conn session : ℕ) → output_of r conn session ≡ concat (texts_in records es conn session)
    whole_is conn session = dite (dec_lt conn count)
        (λ within. whole_within conn session within)
        (λ past.
        let long = outputs_long in
        ap (λ (l : List (List ℕ)). slice_index_or l session []) (get_or-eq_default outputs [] (omega (arith, long, past)))
        ∙ sym (none_in conn session (ap commands_of (no_bytes_after version count 0 conn session records lawful (omega arith)) ∙ no_commands)))

    are_cuts : AreCuts r cuts
    are_cuts conn session = record {
      size = length-texts_from (commands_before session (streams_in records conn)) (session_commands r conn session) (of_connection conn es);
      whole = whole_is conn session ∙ sym (append-nil (concat (texts_in records es conn session)));
      each = λ index command is. record { saids = said_to conn session index entries; text = inl (answered conn session index command is) };
      over = inl refl;
    }

    -- ---- calls

    are_due : (conn session : ℕ) → AreDue r cuts entries conn session
    are_due conn session = record {
      made = length (session_commands r conn session);
      calls =
          entries_named shards conn session (streams_in records) moment es (commands_keyed (stream_at (streams_in records conn) session)) (calls conn)
          ∙ ap (named_from shards conn session 0) (sym (commands_are conn session) ∙ sym (take_all (length (session_commands r conn session)) (session_commands r conn session) (omega arith)));
      reaches = λ index past.
          let long = length-texts_from (commands_before session (streams_in records conn)) (session_commands r conn session) (of_connection conn es) in
          get_or-eq_default (texts_in records es conn session) [] (omega (arith, past, long));
    }

    are_timely : All (IsTimely r cuts) entries
    are_timely = all_made (streams_in records) moment (IsTimely r cuts) 0 es (λ k e is.
        let on : 0 + k ≡ k = omega arith in
        subst (λ (n : ℕ). IsTimely r cuts (made_at (streams_in records) moment n e)) (sym on) (record {
          within = timed.within k (slice_get_within es k e is);
          sent = timed.sent k e is;
          unended = timed.unended k e is;
        }))

    -- the recording is explained
    pub explained : IsExplained r
    explained = (
      cuts,
      (
        entries,
        record {
          sessions = record {
            connections = let long = outputs_long in omega (arith, long);
            sessions = λ conn within. let all = outputs_long in let long = sessions_long conn (omega (arith, all, within)) in omega (arith, long);
          };
          cut = are_cuts;
          fit = timed.fit;
          due = are_due;
          answers = λ conn session index command is. inl (answered conn session index command is);
          failures = none_failed (streams_in records) moment r es;
          rises = made_rises (streams_in records) moment 0 es (λ p q order within. timed.rises p q order (omega (arith, within)));
          timely = are_timely;
          first = λ key. None;
          cold = λ cold key. refl;
          steps = λ key. (leading (streams_in records) moment shards key es run.legal).steps;
          chains = λ key. made_chain (streams_in records) moment shards key r es run.legal;
        },
      ),
    )
