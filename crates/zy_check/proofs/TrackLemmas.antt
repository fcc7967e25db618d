-- A connection's place in its streams, step by step.
use Rattle.std.specs.List.{slice_get, concat}
use Rattle.std.proofs.Common.{◌≡◌, ℕ, Bool, ◌+◌, ◌<◌, ◌≤◌, List, [], ◌∷◌, ◌++◌, length, take, drop, map, get_or, Option, None, Some, refl, sym, ap, ap₂, ◌∙◌, subst, arith}
use Rattle.std.proofs.lemmas.List.{append-nil, append_assoc, map-append, length-append, length-take-le, take_all, take_more, get_or_past}
use Rattle.std.proofs.lemmas.List.Concat.{flat_map-append}
use Rattle.std.proofs.lemmas.List.Folds.{concat-append}
use mathlib.Core.Logic.{dite}
use native.Mathlib.Decide.{dec_lt}
use Rattle.mc_calls.specs.declared.call_reply.CallReply.{CallReply}
use Rattle.mc_calls.specs.declared.entry.Entry.{Entry}
use Rattle.mc_calls.specs.Order.{of_connection}
use Rattle.mc_calls.specs.Replies.{replies_at}
use Rattle.zy_capture.specs.Streams.{sessions_of}
use Rattle.mc_parse.specs.declared.command.Command.{Command}
use Rattle.mc_parse.specs.Calls.{Due, due, due_at, due_from, due_of, dues_of, calls_of}
use Rattle.mc_parse.proofs.CallLemmas.{due-append, due-more, length-tagged}
use Rattle.mc_reply.specs.Text.{text}
use Rattle.mc_reply.specs.Texts.{texts_from, texts_of}
use Rattle.mc_reply.proofs.TextLemmas.{texts_from-append, texts_of-more}
use Rattle.zy_frame.specs.Frame.{command_of}
use Rattle.zy_frame.specs.Cut.{commands_of}
use Rattle.zy_frame.proofs.CutLaws.{frames_of_nil}
use Rattle.zy_run.specs.Commands.{commands_over, commands_held}
use Rattle.zy_check.specs.declared.compared.Compared.{Compared}
use Rattle.zy_check.specs.declared.compared.Differing.{Differing}
use Rattle.zy_check.specs.Given.{Given, due_in, found_output, due_output, IsOutput}
use Rattle.zy_check.specs.Cause.{agreeing_in, IsComplete}
use Rattle.zy_check.specs.Answered.{has_bytes, answered_by}
use Rattle.zy_check.specs.Begun.{Begun, asked_in}
use Rattle.zy_check.specs.Comparing.{HasFirst, DiffersAt, AddedTo, EndedWith, AddsText, Finishes}
use Rattle.zy_check.specs.Cursor.{Cursor, HasGivenCommands}
use Rattle.zy_check.specs.Output.{IsDiffering}
use Rattle.zy_check.specs.Track.{stream_of, commands_past, made_of, AreCompared, StandsAtSession}
use Rattle.zy_check.proofs.ListLemmas.{get_append, get_behind, take_one}
use Rattle.zy_check.proofs.DueLemmas.{commands_split}
use Rattle.zy_check.proofs.AnswerLemmas.{replies_more, command_replies}
use Rattle.zy_check.proofs.CompareLemmas.{first_none}
use Rattle.zy_check.proofs.CursorLemmas.{given_first}
use Rattle.zy_check.proofs.OutputLemmas.{due_is, outputs_more}
use Rattle.zy_check.proofs.RightLemmas.{asked_all}

-- ---- sessions

-- after the last session there is no command
no_commands : (g : Given) (conn session : ℕ) → length (sessions_of g.streams conn) ≤ session → commands_of (stream_of g conn session) ≡ []
no_commands g conn session past = ap commands_of (get_or_past (sessions_of g.streams conn) session [] past) ∙ ap (map command_of) frames_of_nil

-- so where a session has a command, it is there
session_there : (g : Given) (conn session : ℕ) (cursor : Cursor) (done : List Command) (command : Command) → HasGivenCommands cursor (stream_of g conn session) (done ++ command ∷ []) → session < length (sessions_of g.streams conn)
session_there g conn session cursor done command has = dite (dec_lt session (length (sessions_of g.streams conn)))
    (λ low. low)
    (λ high.
    let first = given_first cursor (stream_of g conn session) (done ++ command ∷ []) has in
    let none = ap (λ (l : List Command). length l) (sym (no_commands g conn session (omega arith)) ∙ first.1) in
    let long = length-append (done ++ command ∷ []) first.0 in
    let more = length-append done (command ∷ []) in
    absurd (omega arith))

-- the texts of commands, and of those after them
made_append : (index : ℕ) (done later : List Command) (own : List Entry) → made_of index (done ++ later) own ≡ made_of index done own ++ made_of (index + length done) later own
made_append index done later own =
    ap (λ (l : List (List ℕ)). concat l) (texts_from-append index done later own) ∙ concat-append (texts_from index done own) (texts_from (index + length done) later own)

made_more : (index : ℕ) (done : List Command) (command : Command) (own : List Entry) → made_of index (done ++ command ∷ []) own ≡ made_of index done own ++ text command (replies_at (index + length done) own)
made_more index done command own =
    made_append index done (command ∷ []) own ∙ ap (λ (l : List ℕ). made_of index done own ++ l) (append-nil (text command (replies_at (index + length done) own)))

-- which of these commands are answered, and the one after them
answered-more : (commands : List Command) (last : Command) (own : List Entry) → answered_by (commands ++ last ∷ []) own ≡ answered_by commands own ++ has_bytes (text last (replies_at (length commands) own)) ∷ []
answered-more commands last own =
    ap (map has_bytes) (texts_of-more commands last own) ∙ map-append has_bytes (texts_of commands own) (text last (replies_at (length commands) own) ∷ [])

-- if all these commands of a session were given, and those after it are any, those of the
-- connection are
whole_from : (g : Given) (conn session : ℕ) (given later : List Command) → session < length (sessions_of g.streams conn) → commands_of (stream_of g conn session) ≡ given ++ later
    → commands_held g.streams conn ≡ commands_past g conn session ++ (given ++ (later ++ commands_over (drop (session + 1) (sessions_of g.streams conn))))
whole_from g conn session given later there is =
    let past = commands_past g conn session in
    let rest = commands_over (drop (session + 1) (sessions_of g.streams conn)) in
    commands_split session (sessions_of g.streams conn) there ∙ ap (λ (l : List Command). (past ++ l) ++ rest) is
    ∙ append_assoc past (given ++ later) rest ∙ ap (λ (l : List Command). past ++ l) (append_assoc given later rest)

-- ---- the start

-- before the first command
pub at_start : (g : Given) (conn : ℕ) (cursor : Cursor) (flags : List Bool) → ((stream : List ℕ) → HasGivenCommands cursor stream []) → flags ≡ [] → StandsAtSession g conn 0 cursor None 0 (record { at = 0; differing = None }) flags []
at_start g conn cursor flags none empty = record {
  done = [];
  within = omega arith;
  given = none (stream_of g conn 0);
  count = refl;
  shards = tt;
  calls = refl;
  written = λ complete. record { replies = tt; outputs = ((λ s below. absurd (omega arith)), first_none (found_output g conn 0)); answered = empty };
}

-- ---- the command that is begun

module _ (g : Given) (conn session : ℕ) (cursor : Cursor) (b : Begun) (commands : ℕ) (compared : Compared) (flags : List Bool) (made : List Due) (h : StandsAtSession g conn session cursor (Some b) commands compared flags made) where
  abbrev past : List Command
  past = commands_past g conn session

  abbrev own : List Entry
  own = of_connection conn g.entries

  abbrev done : List Command
  done = h.done ++ b.command ∷ []

  -- the commands of the session after it, and all after that
  abbrev later : List Command
  later = (given_first cursor (stream_of g conn session) done h.given).0

  stream_is : commands_of (stream_of g conn session) ≡ done ++ later
  stream_is = (given_first cursor (stream_of g conn session) done h.given).1

  abbrev behind : List Command
  behind = later ++ commands_over (drop (session + 1) (sessions_of g.streams conn))

  there : session < length (sessions_of g.streams conn)
  there = session_there g conn session cursor h.done b.command h.given

  all_commands : commands_held g.streams conn ≡ (past ++ h.done) ++ b.command ∷ behind
  all_commands =
      whole_from g conn session done later there stream_is ∙ ap (λ (l : List Command). past ++ l) (append_assoc h.done (b.command ∷ []) behind)
      ∙ sym (append_assoc past h.done (b.command ∷ behind))

  -- its calls
  abbrev here : List Due
  here = due_at g.shards conn commands b.command

  size : length here ≡ length (asked_in b)
  size = length-tagged conn commands 0 (calls_of g.shards b.command) ∙ ap (λ (n : ℕ). length (calls_of n b.command)) (sym h.shards)

  due_split : due_in g conn ≡ due g.shards conn (past ++ h.done) ++ (here ++ due_from g.shards conn (commands + 1) behind)
  due_split =
      ap (due g.shards conn) all_commands ∙ due-append g.shards conn (past ++ h.done) (b.command ∷ behind)
      ∙ ap (λ (n : ℕ). due g.shards conn (past ++ h.done) ++ due_from g.shards conn n (b.command ∷ behind)) (sym h.count)

  -- how many were made
  made_size : length b.replies ≤ length (asked_in b) → length made ≡ length (due g.shards conn (past ++ h.done)) + length b.replies
  made_size few =
      let long = ap (λ (l : List Due). length l) h.calls ∙ length-append (due g.shards conn (past ++ h.done)) (take (length b.replies) here) in
      let s = size in
      let some = length-take-le (length b.replies) here (omega arith) in
      omega arith

  -- its next call is the connection's next
  pub next_due : length b.replies < length (asked_in b) → slice_get (due_in g conn) (length made) ≡ slice_get here (length b.replies)
  next_due few =
      let s = size in
      (λ i. slice_get (due_split i) (made_size (omega arith) i)) ∙ get_behind (due g.shards conn (past ++ h.done)) (here ++ due_from g.shards conn (commands + 1) behind) (length b.replies)
      ∙ get_append here (due_from g.shards conn (commands + 1) behind) (length b.replies) (omega arith)

  -- ---- it is answered

  pub answered : (e : Entry) (reply : CallReply) → length b.replies < length (asked_in b) → slice_get here (length b.replies) ≡ Some (due_of e) → slice_get own (length made) ≡ Some e → reply ≡ e.reply
      → StandsAtSession g conn session cursor (Some (record b { replies = b.replies ++ reply ∷ [] })) commands compared flags (made ++ due_of e ∷ [])
  answered e reply few is mine same =
      let long : length (b.replies ++ reply ∷ []) ≡ length b.replies + 1 = length-append b.replies (reply ∷ []) in record {
        done = h.done;
        within = h.within;
        given = h.given;
        count = h.count;
        shards = h.shards;
        calls = ap (λ (l : List Due). l ++ due_of e ∷ []) h.calls ∙ append_assoc (due g.shards conn (past ++ h.done)) (take (length b.replies) here) (due_of e ∷ [])
            ∙ ap (λ (l : List Due). due g.shards conn (past ++ h.done) ++ l) (sym (ap (λ (n : ℕ). take n here) long ∙ take_one here (length b.replies) (due_of e) is));
        written = λ complete. let w = h.written complete in record {
          replies = replies_more own (length (due g.shards conn (past ++ h.done))) e b.replies reply (ap (slice_get own) (sym (made_size (omega arith))) ∙ mine) same w.replies
              ∙ ap (λ (n : ℕ). map (λ (x : Entry). x.reply) (take n (drop (length (due g.shards conn (past ++ h.done))) own))) (sym long);
          outputs = w.outputs;
          answered = w.answered;
        };
      }

  -- ---- it is finished

  module _ (all : length (asked_in b) ≡ length b.replies) where
    done_is : past ++ done ≡ (past ++ h.done) ++ b.command ∷ []
    done_is = sym (append_assoc past h.done (b.command ∷ []))

    finished_calls : made ≡ due g.shards conn (past ++ done) ++ []
    finished_calls =
        let s = size in
        h.calls ∙ ap (λ (l : List Due). due g.shards conn (past ++ h.done) ++ l) (take_all (length b.replies) here (omega arith))
        ∙ ap (λ (n : ℕ). due g.shards conn (past ++ h.done) ++ due_at g.shards conn n b.command) h.count
        ∙ sym (due-more g.shards conn (past ++ h.done) b.command) ∙ ap (due g.shards conn) (sym done_is) ∙ sym (append-nil (due g.shards conn (past ++ done)))

    finished_count : commands + 1 ≡ length (past ++ done)
    finished_count =
        let is = ap (λ (l : List Command). length l) done_is ∙ length-append (past ++ h.done) (b.command ∷ []) in
        let c = h.count in
        omega arith

    module _ (complete : IsComplete g) where
      abbrev first : List ℕ
      first = made_of (length past) h.done own

      replies_are : b.replies ≡ replies_at (length (past ++ h.done)) own
      replies_are =
          let w = h.written complete in
          let asked : dues_of own ≡ due g.shards conn ((past ++ h.done) ++ b.command ∷ behind) = asked_all g conn complete ∙ ap (due g.shards conn) all_commands in
          command_replies own g.shards conn (past ++ h.done) b.command behind asked b.replies (sym all ∙ ap (λ (n : ℕ). length (calls_of n b.command)) h.shards) w.replies

      text_is : made_of (length past) done own ≡ first ++ text b.command b.replies
      text_is =
          made_more (length past) h.done b.command own
          ∙ ap (λ (l : List CallReply). first ++ text b.command l) (ap (λ (n : ℕ). replies_at n own) (sym (length-append past h.done)) ∙ sym replies_are)

      finished_answered : flags ++ has_bytes (text b.command b.replies) ∷ [] ≡ answered_by (past ++ done) own
      finished_answered =
          ap₂ (λ (l : List Bool) (rs : List CallReply). l ++ has_bytes (text b.command rs) ∷ []) (h.written complete).answered replies_are
          ∙ sym (answered-more (past ++ h.done) b.command own) ∙ ap (λ (l : List Command). answered_by l own) (sym done_is)

      -- the output is another, whatever its later texts are
      finished_differs : (at : ℕ) → ((s : ℕ) → s < session → IsOutput g conn s)
          → ((more : List ℕ) → DiffersAt (found_output g conn session) ((first ++ text b.command b.replies) ++ more) at) → IsDiffering g conn session at
      finished_differs at before other =
          let more = made_of (length past + length done) later own in
          let due : due_output g conn session ≡ Some ((first ++ text b.command b.replies) ++ more) =
          due_is g conn session there
          ∙ ap (λ (l : List ℕ). Some l) (ap (λ (l : List Command). made_of (length past) l own) stream_is ∙ made_append (length past) done later own ∙ ap (λ (l : List ℕ). l ++ more) text_is) in
          let differs = other more in record {
            first = before;
            wrong = λ same. differs.0 (same ∙ due);
            agrees = ap (agreeing_in (found_output g conn session)) due ∙ differs.1;
          }

      finished_outputs : (after : Compared) → AddsText (found_output g conn session) session (text b.command b.replies) compared after → AreCompared g conn session done after.at after.differing
      finished_outputs after adds = go compared.differing refl (h.written complete).outputs
        where
          new : (o : Option Differing) → ((s : ℕ) → s < session → IsOutput g conn s) → AddedTo (found_output g conn session) session (first ++ text b.command b.replies) after.at o → AreCompared g conn session done after.at o
          new None before is = (before, subst (λ (l : List ℕ). HasFirst (found_output g conn session) l after.at) (sym text_is) is)
          new (Some d) before is = subst (λ (n : ℕ). IsDiffering g conn n d.at) (sym is.0) (finished_differs d.at before is.1)

          go : (old : Option Differing) → compared.differing ≡ old → AreCompared g conn session h.done compared.at old → AreCompared g conn session done after.at after.differing
          go None is was = new after.differing was.0 (adds.added is first was.1)
          go (Some d) is was = subst (AreCompared g conn session done after.at) (sym (ap (λ (c : Compared). c.differing) (adds.kept d is) ∙ is)) was

    pub finished : (after : Compared) → AddsText (found_output g conn session) session (text b.command b.replies) compared after → StandsAtSession g conn session cursor None (commands + 1) after (flags ++ has_bytes (text b.command b.replies) ∷ []) made
    finished after adds = record {
      done = done;
      within = h.within;
      given = subst (HasGivenCommands cursor (stream_of g conn session)) (sym (append-nil done)) h.given;
      count = finished_count;
      shards = tt;
      calls = finished_calls;
      written = λ complete. record { replies = tt; outputs = finished_outputs complete after adds; answered = finished_answered complete };
    }

-- ---- the session ends

module _ (g : Given) (conn session : ℕ) (cursor : Cursor) (commands : ℕ) (compared : Compared) (flags : List Bool) (made : List Due) (h : StandsAtSession g conn session cursor None commands compared flags made)
    (there : session < length (sessions_of g.streams conn)) (all : (given : List Command) → HasGivenCommands cursor (stream_of g conn session) given → commands_of (stream_of g conn session) ≡ given) where
  all_done : commands_of (stream_of g conn session) ≡ h.done
  all_done = all (h.done ++ []) h.given ∙ append-nil h.done

  past_more : commands_past g conn (session + 1) ++ [] ≡ commands_past g conn session ++ h.done
  past_more =
      let sessions = sessions_of g.streams conn in
      append-nil (commands_past g conn (session + 1)) ∙ ap commands_over (take_more sessions session [] there)
      ∙ flat_map-append commands_of (take session sessions) (get_or sessions session [] ∷ [])
      ∙ ap (λ (l : List Command). commands_past g conn session ++ l) (append-nil (commands_of (get_or sessions session [])) ∙ all_done)

  module _ (complete : IsComplete g) where
    abbrev whole : List ℕ
    whole = made_of (length (commands_past g conn session)) h.done (of_connection conn g.entries)

    due_whole : due_output g conn session ≡ Some whole
    due_whole = due_is g conn session there ∙ ap (λ (l : List Command). Some (made_of (length (commands_past g conn session)) l (of_connection conn g.entries))) all_done

    ended_outputs : (after : Compared) → Finishes (found_output g conn session) session compared after → AreCompared g conn (session + 1) [] after.at after.differing
    ended_outputs after ends = go compared.differing refl (h.written complete).outputs
      where
        new : (o : Option Differing) → ((s : ℕ) → s < session → IsOutput g conn s) → EndedWith (found_output g conn session) session whole after.at o → AreCompared g conn (session + 1) [] after.at o
        new None before is = (
          outputs_more g conn session before (is.0 ∙ sym due_whole),
          subst (HasFirst (found_output g conn (session + 1)) []) (sym is.1) (first_none (found_output g conn (session + 1))),
        )
        new (Some d) before is = subst (λ (n : ℕ). IsDiffering g conn n d.at) (sym is.0) (record {
          first = before;
          wrong = λ same. is.1.0 (same ∙ due_whole);
          agrees = ap (agreeing_in (found_output g conn session)) due_whole ∙ is.1.1;
        })

        go : (old : Option Differing) → compared.differing ≡ old → AreCompared g conn session h.done compared.at old → AreCompared g conn (session + 1) [] after.at after.differing
        go None is was = new after.differing was.0 (ends.ended is whole was.1)
        go (Some d) is was = subst (AreCompared g conn (session + 1) [] after.at) (sym (ap (λ (c : Compared). c.differing) (ends.kept d is) ∙ is)) was

  pub session_ended : (next : Cursor) (after : Compared) → ((stream : List ℕ) → HasGivenCommands next stream []) → Finishes (found_output g conn session) session compared after → StandsAtSession g conn (session + 1) next None commands after flags made
  session_ended next after none ends = record {
    done = [];
    within = omega arith;
    given = none (stream_of g conn (session + 1));
    count = h.count ∙ ap (λ (l : List Command). length l) (sym past_more);
    shards = tt;
    calls = h.calls ∙ ap (λ (l : List Command). due g.shards conn l ++ []) (sym past_more);
    written = λ complete. record {
      replies = tt;
      outputs = ended_outputs complete after ends;
      answered = (h.written complete).answered ∙ ap (λ (l : List Command). answered_by l (of_connection conn g.entries)) (sym past_more);
    };
  }

-- ---- the end

module _ (g : Given) (conn session : ℕ) (cursor : Cursor) (commands : ℕ) (compared : Compared) (flags : List Bool) (made : List Due) (h : StandsAtSession g conn session cursor None commands compared flags made)
    (end : length (sessions_of g.streams conn) ≤ session) where
  none_done : h.done ≡ []
  none_done =
      let first = given_first cursor (stream_of g conn session) (h.done ++ []) h.given in
      let long = ap (λ (l : List Command). length l) (sym (no_commands g conn session end) ∙ first.1) ∙ length-append (h.done ++ []) first.0 in
      let same = length-append h.done [] in
      none_of h.done (omega arith)
    where
      none_of : (xs : List Command) → length xs ≤ 0 → xs ≡ []
      none_of [] few = refl
      none_of (x ∷ xs) few = absurd (omega arith)

  all_past : commands_past g conn session ++ h.done ≡ commands_held g.streams conn
  all_past =
      ap (λ (l : List Command). commands_past g conn session ++ l) none_done ∙ append-nil (commands_past g conn session)
      ∙ ap commands_over (take_all session (sessions_of g.streams conn) end)

  -- each expected call was made
  pub made_all : made ≡ due_in g conn
  made_all = h.calls ∙ append-nil (due g.shards conn (commands_past g conn session ++ h.done)) ∙ ap (due g.shards conn) all_past

  -- and every command is done
  pub count_all : commands ≡ length (commands_held g.streams conn)
  count_all = h.count ∙ ap (λ (l : List Command). length l) all_past

  -- and it is known which are answered
  pub answered_all : IsComplete g → flags ≡ answered_by (commands_held g.streams conn) (of_connection conn g.entries)
  answered_all complete = (h.written complete).answered ∙ ap (λ (l : List Command). answered_by l (of_connection conn g.entries)) all_past

  -- and all outputs were compared
  pub compared_all : IsComplete g → AreCompared g conn session [] compared.at compared.differing
  compared_all complete = subst (λ (l : List Command). AreCompared g conn session l compared.at compared.differing) none_done (h.written complete).outputs
