-- From settled homes and the closed store to one run, its journal and its outputs.
use Rattle.std.specs.Prelude.{◌||◌, if◌then◌else◌, map, option_map}
use Rattle.std.specs.List.{AllByRecursion}
use Rattle.std.proofs.Common.{◌≡◌, ℕ, zero, suc, ◌<◌, ◌≤◌, ◌^◌, List, [], ◌∷◌, ◌++◌, length, true, cond, Some, slice_get, refl, sym, ap, ◌∙◌, subst, arith, eq-eqb, ne_eqb, append-nil}
use mathlib.Core.Logic.{dite}
use native.Mathlib.Decide.{ℕ_discrete, dec_lt}
use Rattle.std.proofs.lemmas.List.{length-map}
use Rattle.std.proofs.lemmas.Option.{slice_get-map}
use Rattle.atomic_table.specs.Seated.{TableId}
use Rattle.mc_calls.specs.Bounds.{IsCallWithin}
use Rattle.mc_calls.specs.Order.{of_connection}
use Rattle.mc_calls.proofs.LegalLemmas.{legal_below}
use Rattle.mc_calls.proofs.MergeLemmas.{merge_is_below}
use Rattle.mc_calls.proofs.ReplyLemmas.{replies_within}
use Rattle.mc_calls.specs.Shard.{empty_state}
use Rattle.zy_capture.specs.declared.record.Record.{Record}
use Rattle.zy_capture.specs.Capture.{IsCapture, IsRecordOf}
use Rattle.zy_capture.specs.Outputs.{AreOutputs}
use Rattle.mc_parse.specs.declared.command.Command.{Command}
use Rattle.mc_parse.specs.Calls.{due, dues_of}
use Rattle.mc_reply.specs.Texts.{texts_of}
use Rattle.mc_store.specs.Joined.{is_joined, calls_of}
use Rattle.zy_frame.specs.Frame.{command_of}
use Rattle.mc_calls.specs.Held.{held_in}
use Rattle.zy_rx.specs.Flow.{home_of}
use Rattle.zy_rx.specs.Session.{Sessions, received_by, streams_of}
use Rattle.zy_conn.specs.Work.{Start, Mark, commands_of_frames}
use Rattle.zy_conn.specs.Kept.{command_begun}
use Rattle.zy_conn.specs.Block.{Blocked}
use Rattle.zy_home.specs.Link.{Link, conn_of}
use Rattle.zy_home.specs.Finish.{ConnEnd}
use Rattle.zy_home.specs.Link as links
use Rattle.zy_home.proofs.FinishLemmas.{conn_end}
use Rattle.zy_journal.specs.Journal.{IsEntry, IsHold}
use Rattle.zy_run.specs.Commands.{streams_in, commands_in, commands_over}
use Rattle.zy_run.specs.Run.{IsRun}
use Rattle.zy_run.specs.Spans.{Spans}
use Rattle.zy_run.proofs.StreamLemmas.{length-streams_in, closes-version_1}
use Rattle.zy_feed.specs.Routing.{offered_to}
use Rattle.zy_finish.specs.Left.{IsCarriedOut, AreOf, ends_of}
use Rattle.zy_finish.specs.Served.{AreServed, all_holds, all_sent}
use Rattle.zy_finish.proofs.ReceivedLemmas.{offered_streams}
use Rattle.zy_finish.proofs.CuttingLemmas.{ends_counted}
use Rattle.zy_finish.proofs.ServedLemmas.{own_calls, is_run, holds_span, sent_is_outputs}
use Rattle.zy_home.specs.End.{ended_of}
use Rattle.zy_home.specs.Home.{Homed, IsSoundHome}
use Rattle.zy_finish.specs.declared.rest.Rest.{Rest}
use Rattle.zy_finish.specs.declared.finishing.Finished.{Finished}
use Rattle.zy_finish.specs.Over.{AreOver}
use Rattle.zy_finish.specs.Finish.{HaveReceived, IsResultOfRun, IsHoldBy}
use Rattle.zy_finish.specs.Part.{session_ends}
use Rattle.zy_finish.specs.Rest.{rest_of_home, place_of, rest_at, blocks_left, ends_left, block_of, end_of, calls_of_block, holds_in, texts_in, ends_in, left_of, joined_to, IsBlockKept, IsThere, AreMerged}
use Rattle.zy_finish.proofs.HomeLemmas.{IsHeld, is_held, is_there}
use Rattle.zy_finish.proofs.CommandLemmas.{entries_within}
use Rattle.zy_finish.proofs.GatherLemmas as gather
use Rattle.zy_finish.proofs.EntryLemmas.{merged_entries, merged_fit, holds_of, holds_within, holds_by, all_holds_within}

-- ---- the passes that were joined

module _ (rests : List Rest) where
  calls_below : (n conn : ℕ) → conn < n → calls_of conn (joined_to rests n) ≡ calls_of_block (block_of rests conn)
  calls_below zero conn within = absurd (omega arith)
  calls_below (suc n) conn within = dite (ℕ_discrete conn n)
      (λ same. ap (λ b. cond b (calls_of_block (block_of rests n)) (calls_of conn (joined_to rests n))) (eq-eqb conn n same) ∙ ap (λ k. calls_of_block (block_of rests k)) (sym same))
      (λ other. ap (λ b. cond b (calls_of_block (block_of rests n)) (calls_of conn (joined_to rests n))) (ne_eqb conn n other) ∙ calls_below n conn (omega arith))

  calls_past : (n conn : ℕ) → n ≤ conn → calls_of conn (joined_to rests n) ≡ []
  calls_past zero conn past = refl
  calls_past (suc n) conn past =
      ap (λ b. cond b (calls_of_block (block_of rests n)) (calls_of conn (joined_to rests n))) (ne_eqb conn n (λ same. omega arith)) ∙ calls_past n conn (omega arith)

  -- the pass of each connection was joined
  pub joined_all : (n conn : ℕ) → conn < n → is_joined conn (joined_to rests n) ≡ true
  joined_all zero conn within = absurd (omega arith)
  joined_all (suc n) conn within = dite (ℕ_discrete conn n)
      (λ same. ap (λ b. b || is_joined conn (joined_to rests n)) (eq-eqb conn n same))
      (λ other. ap (λ b. b || is_joined conn (joined_to rests n)) (ne_eqb conn n other) ∙ joined_all n conn (omega arith))

-- ---- the ends of sessions

ends_one : (streams : List (List ℕ)) → length streams ≡ 1 → ends_of streams ≡ []
ends_one [] one = absurd (omega arith)
ends_one (stream ∷ []) one = refl
ends_one (stream ∷ next ∷ streams) one = absurd (omega arith)

chosen_ends : (version : ℕ) (ends : List ℕ) (streams : List (List ℕ)) → ends ≡ ends_of streams → (version ≡ 1 → length streams ≡ 1) → session_ends version ends ≡ ends_of streams
chosen_ends version ends streams are one = dite (ℕ_discrete version 1)
    (λ is. ap (λ b. if b then [] else ends) (eq-eqb version 1 is) ∙ sym (ends_one streams (one is)))
    (λ other. ap (λ b. if b then [] else ends) (ne_eqb version 1 other) ∙ are)

-- ---- each connection

module _ (store : TableId) (version count : ℕ) (homes : List Homed) (over : AreOver store count homes) (keeps : AllByRecursion IsSoundHome homes)
    (rests : List Rest) (are : rests ≡ map rest_of_home homes)
    (kept : (conn : ℕ) → conn < count → (b : Blocked) → block_of rests conn ≡ Some b → IsBlockKept b)
    (records : List Record) (capture : IsCapture version count records) (received : HaveReceived homes records) where
  sizes : length rests ≡ length homes
  sizes = ap (λ (l : List Rest). length l) are ∙ length-map homes rest_of_home

  module _ (conn : ℕ) (within : conn < count) where
    h : IsHeld store count homes conn
    h = is_held store count homes over keeps conn within

    home_is : rest_at rests conn ≡ Some (rest_of_home h.home)
    home_is = (λ i. slice_get (are i) (home_of (sizes i) conn)) ∙ slice_get-map rest_of_home homes (home_of (length homes) conn) ∙ ap (option_map rest_of_home) h.home_there

    block_is : block_of rests conn ≡ Some h.block
    block_is = (λ i. slice_get (blocks_left (home_is i)) (place_of (sizes i) conn)) ∙ h.block_there

    end_is : end_of rests conn ≡ Some (ended_of h.link)
    end_is = (λ i. slice_get (ends_left (home_is i)) (place_of (sizes i) conn)) ∙ slice_get-map ended_of h.home.links (place_of (length homes) conn) ∙ ap (option_map ended_of) h.link_there

    k : IsBlockKept h.block
    k = kept conn within h.block block_is

    s : Sessions
    s = received_by (conn_of h.link) (offered_to h.home.cores h.home.core records)

    streams : streams_of s ≡ streams_in records conn
    unfolding s
    streams =
        offered_streams h.home.cores h.home.core (conn_of h.link) records ((λ i. home_of (h.over.cores_is i) (h.conn_is i)) ∙ sym h.over.core_is)
        ∙ ap (streams_in records) h.conn_is

    end : ConnEnd h.block.work.table.slots h.block.work.calls s h.link.output h.link.ends
    unfolding s
    end = conn_end h.block h.link s k.work h.idle h.mark ((received (home_of (length homes) conn) h.home h.home_there).links (place_of (length homes) conn) h.link h.link_there)

    conn_same : h.block.work.conn ≡ conn
    conn_same = ap (λ (m : Mark). m.0) h.mark ∙ h.conn_is

    calls_same : calls_of_block (block_of rests conn) ≡ h.block.work.calls
    calls_same = ap calls_of_block block_is

    holds_same : holds_in (block_of rests conn) ≡ h.block.holds
    holds_same = ap holds_in block_is

    finished : h.block.work.finished ≡ length (commands_in records conn)
    finished = sym h.idle.finished ∙ end.finished ∙ ap (λ (l : List (List ℕ)). length (commands_over l)) streams

    ends_are : session_ends version (ends_in (end_of rests conn)) ≡ ends_of (streams_in records conn)
    ends_are =
        chosen_ends version (ends_in (end_of rests conn)) (streams_in records conn)
        (ap ends_in end_is ∙ end.ends_are ∙ ends_counted links.ends_from (λ before. refl) (λ before stream rest. refl) 0 s.closed s.current ∙ ap ends_of streams)
        (λ one. let none = closes-version_1 count conn records (subst (λ v. AllByRecursion (IsRecordOf v count) records) one capture.lawful) in let long = length-streams_in records conn in omega arith)

    -- it was served
    pub is_served : IsCarriedOut store.slots conn (streams_in records conn) (calls_of_block (block_of rests conn)) (left_of version rests conn)
    is_served = record {
      calls_are = ap dues_of calls_same ∙ end.dues ∙ (λ i. due (h.table_is i).slots (h.conn_is i) (commands_over (streams i)));
      texts_are = ap texts_in end_is ∙ end.texts ∙ (λ i. texts_of (commands_over (streams i)) (sym calls_same i));
      ends_are = ends_are;
      holds_are = subst (AreOf conn) (sym holds_same) (holds_of h.block.cores conn h.block.work.conn h.block.holds k.holds.each conn_same);
      held = ap held_in holds_same ∙ k.holds.all ∙ finished;
    }

    -- its holds are within their bounds
    pub are_holds : AllByRecursion IsHold (holds_in (block_of rests conn))
    are_holds =
        let few = over.connections in
        subst (AllByRecursion IsHold) (sym holds_same) (holds_within h.block.cores conn h.block.work.conn h.block.holds k.holds.few k.holds.each conn_same (omega arith))

    -- its commands are not more than can be counted
    pub few_commands : length (commands_in records conn) ≤ 2 ^ 40
    few_commands =
        let done : commands_of_frames h.block.work.taken ≡ k.work.done = k.work.frames ∙ ap (λ (x : Start). k.work.done ++ command_begun x) h.idle.begun ∙ append-nil k.work.done in
        let size = ap (λ (l : List Command). length l) done in
        let taken = length-map h.block.work.taken command_of in
        let count_is = k.work.count in
        let room = k.work.room in
        let all = finished in
        omega arith

-- ---- all connections

module _ (store : TableId) (shards version count : ℕ) (homes : List Homed) (over : AreOver store count homes) (keeps : AllByRecursion IsSoundHome homes)
    (rests : List Rest) (are : rests ≡ map rest_of_home homes) (slots : shards ≡ store.slots) (few : shards ≤ 256)
    (kept : (conn : ℕ) → conn < count → (b : Blocked) → block_of rests conn ≡ Some b → IsBlockKept b)
    (f : Finished) (merged : AreMerged shards (joined_to rests count) f.journal.entries)
    (holds : f.journal.holds ≡ all_holds count (left_of version rests)) (sessions : f.outputs.sessions ≡ all_sent count (left_of version rests))
    (version_is : f.outputs.version ≡ version) (lawful : AreOutputs f.outputs)
    (records : List Record) (capture : IsCapture version count records) (received : HaveReceived homes records) where
  are_served : AreServed shards count records (left_of version rests) (joined_to rests count) f.journal.entries
  are_served = record {
    histories = merged.histories;
    each = λ conn within. subst (λ n. IsCarriedOut n conn (streams_in records conn) (calls_of conn (joined_to rests count)) (left_of version rests conn)) (sym slots)
        (subst (λ calls. IsCarriedOut store.slots conn (streams_in records conn) calls (left_of version rests conn)) (sym (calls_below rests count conn within))
        (is_served store version count homes over keeps rests are kept records capture received conn within));
    others = calls_past rests count;
    closed = merged.closed;
    merged = merged.merged;
  }

  run : IsRun shards f.journal.entries count (commands_in records)
  run = is_run shards count records (left_of version rests) (joined_to rests count) f.journal.entries are_served

  own_within : (conn : ℕ) → AllByRecursion (IsCallWithin (2 ^ 40)) (of_connection conn f.journal.entries)
  own_within conn = dite (dec_lt conn count)
      (λ within. entries_within (2 ^ 40) shards conn (streams_in records conn) (of_connection conn f.journal.entries) (run.calls conn within)
      (few_commands store version count homes over keeps rests are kept records capture received conn within))
      (λ past. subst (AllByRecursion (IsCallWithin (2 ^ 40)))
      (sym (own_calls shards count records (left_of version rests) (joined_to rests count) f.journal.entries are_served conn ∙ calls_past rests count conn (omega arith))) tt)

  entries : AllByRecursion IsEntry f.journal.entries
  entries =
      merged_entries shards count merged.histories f.journal.entries few over.connections merged.closed.sound merged.merged
      (legal_below shards (λ number. empty_state) f.journal.entries run.legal)
      (merge_is_below shards merged.histories f.journal.entries merged.closed.sound merged.merged)
      run.connections own_within (replies_within (2 ^ 40) shards f.journal.entries run.legal)

  spans : Spans f.journal.holds count (commands_in records)
  spans =
      subst (λ hs. Spans hs count (commands_in records)) (sym holds)
      (holds_span shards count records (left_of version rests) (joined_to rests count) f.journal.entries are_served)

  held : AllByRecursion IsHold f.journal.holds
  held =
      subst (AllByRecursion IsHold) (sym holds)
      (all_holds_within IsHold (λ conn. (left_of version rests conn).holds) 0 count
      (λ conn least within. are_holds store version count homes over keeps rests are kept records capture received conn (omega arith)))

  -- the result is that of a run
  pub is_finished : IsResultOfRun shards version count records f
  is_finished = record {
    run = run;
    order = merged.merged.ordered;
    spans = spans;
    journal = record { ordered = merged.merged.ordered; entries = entries; rising = spans.rising; holds = held };
    fits = merged_fit shards merged.histories f.journal.entries merged.closed.sound merged.merged;
    version_is = version_is;
    outputs = sessions ∙ sent_is_outputs shards count records (left_of version rests) (joined_to rests count) f.journal.entries are_served;
    lawful = lawful;
  }

-- ---- the cores of holds

module _ (store : TableId) (version count : ℕ) (homes : List Homed) (over : AreOver store count homes) (keeps : AllByRecursion IsSoundHome homes)
    (rests : List Rest) (are : rests ≡ map rest_of_home homes)
    (kept : (conn : ℕ) → conn < count → (b : Blocked) → block_of rests conn ≡ Some b → IsBlockKept b) where
  -- the holds of a connection are by the cores that there are
  held_by : (conn : ℕ) → conn < count → AllByRecursion (IsHoldBy (length homes)) (holds_in (block_of rests conn))
  held_by conn within =
      let there : IsThere store rests conn = is_there store count homes over keeps conn within rests are in
      let is : block_of rests conn ≡ Some there.block = gather.block_is store rests conn there in
      let size : length rests ≡ length homes = ap (λ (l : List Rest). length l) are ∙ length-map homes rest_of_home in
      subst (AllByRecursion (IsHoldBy (length homes))) (sym (ap holds_in is))
      (holds_by there.block.cores (length homes) there.block.work.conn there.block.holds (there.cores_is ∙ size) (kept conn within there.block is).holds.each)

  -- and so are all holds
  pub all_held_by : (f : Finished) → f.journal.holds ≡ all_holds count (left_of version rests) → AllByRecursion (IsHoldBy (length homes)) f.journal.holds
  all_held_by f holds =
      subst (AllByRecursion (IsHoldBy (length homes))) (sym holds)
      (all_holds_within (IsHoldBy (length homes)) (λ conn. (left_of version rests conn).holds) 0 count (λ conn least within. held_by conn (omega arith)))
