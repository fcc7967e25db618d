-- What the next command keeps as it begins, for values that are given by equations.
use Rattle.std.proofs.Common.{◌≡◌, ◌≢◌, ◌⊎◌, inl, inr, ℕ, Bool, ◌+◌, ◌<◌, ◌≤◌, ◌^◌, List, [], ◌∷◌, ◌++◌, length, Some, Result, Ok, Err, IfOk, slice_get, refl, sym, ap, ◌∙◌, subst, arith}
use Rattle.std.specs.Prelude.{OnErr, ⊤}
use Rattle.std.proofs.lemmas.List.{length-map}
use Rattle.mc_calls.specs.declared.call.Call.{Call}
use Rattle.mc_calls.specs.declared.call.Call.TheVariants.{Set as SetCall}
use Rattle.mc_calls.specs.declared.call_reply.CallReply.{CallReply}
use Rattle.mc_calls.specs.declared.entry.Entry.{Entry}
use Rattle.mc_calls.specs.declared.entry.Tag.{Tag}
use Rattle.mc_calls.specs.Kind.{MayAnswer}
use Rattle.mc_parse.specs.declared.command.Command.{Command}
use Rattle.mc_parse.specs.declared.command.Command.TheVariants.{Store}
use Rattle.mc_parse.specs.declared.verb.Verb.TheVariants.{Set}
use Rattle.mc_parse.specs.OneSet.{IsSetBy}
use Rattle.mc_reply.specs.Text.{text}
use Rattle.mc_parse.specs.declared.shard_call.ShardCall.{ShardCall}
use Rattle.mc_parse.specs.Calls.{calls_of, tag_of}
use Rattle.mc_store.specs.Call.{WasBusy}
use Rattle.mc_store.specs.Pass.{Passed}
use Rattle.zy_base.specs.declared.outside.NoMemory.{NoMemory}
use Rattle.zy_calls.specs.Batch.{Batch, with_text, with_finished}
use Rattle.zy_frame.specs.Frame.{command_of}
use Rattle.zy_frame.specs.declared.frame_kind.FrameKind.{FrameKind}
use Rattle.zy_rx.specs.Ring.{RingName}
use Rattle.zy_conn.specs.declared.hold_end.HoldEnd.{HoldEnd}
use Rattle.zy_conn.specs.declared.hold_end.HoldEnd.TheVariants.{Drained, Limit, Spent, Busy}
use Rattle.zy_conn.specs.declared.calling.Made.{Made}
use Rattle.zy_conn.specs.declared.calling.Made.TheVariants as Mades
use Rattle.zy_conn.specs.declared.work.direct.Begins.{Begins}
use Rattle.zy_conn.specs.declared.work.direct.Begins.TheVariants.{Going, Finished, Stopped}
use Rattle.zy_conn.specs.Work.{Started, no_frame, frame_alone, command_read, Start, idle, raw, going, start_of, Worked, work_of_pass, mark_of}
use Rattle.zy_conn.specs.Kept.{KeepsCommands}
use Rattle.zy_conn.specs.Step.{IsMadeAsPart, SamePass, StepsOn, StopsBy, Makes}
use Rattle.zy_conn.specs.Direct.{IsMadeAlone, IsUnmade, finished_with, IsRead, IsTried, StartsTo, BeginsTo}
use Rattle.zy_conn.proofs.KeptLemmas.{kept_looks, finished_idle, kept_finishes}
use Rattle.zy_conn.proofs.StepLemmas.{IsMade, is_made, kept_begins_as, kept_reads_as, goes_begins_as}

-- as many commands are finished as can be counted, at most
pub few_finished : (w : Worked) → KeepsCommands w → w.begun ≡ idle → w.finished ≢ 2 ^ 40 → w.finished < 2 ^ 40
few_finished w k e below =
    let size = finished_idle w k e in
    let long = length-map w.taken command_of in
    let room = k.room in omega (arith, below)

goes_on : (a b c : Worked) → StepsOn a b → StepsOn b c → StepsOn a c
goes_on a b c one two = record { table = two.table ∙ one.table; mark = two.mark ∙ one.mark; steps = omega (arith, one.steps, two.steps) }

-- why the work stops depends only on its steps before
stops_from : (a b after : Worked) (end : HoldEnd) → a.trace ≡ b.trace → StopsBy a after end → StopsBy b after end
stops_from a b after Drained same stops = stops
stops_from a b after Limit same stops = stops
stops_from a b after Spent same stops = stops
stops_from a b after (Busy shard loaded found) same stops = record {
  asked = stops.asked;
  asked_is = stops.asked_is;
  busy = subst (λ t. WasBusy stops.asked.shard t after.trace shard loaded found) same stops.busy;
}

-- the work after the next command began
pub record IsBegun (a b : Worked) (result : Result Begins NoMemory) : Type 0 where
  pub kept : KeepsCommands b
  pub goes : StepsOn a b
  pub to : IfOk result (BeginsTo a b)
  pub err : OnErr result (b.finished ≡ a.finished)

module _ (p q : Passed) (r r' : RingName) (taken taken' known known' : List FrameKind) (s : Start) (sh : ℕ) (batch : Batch) (frame : FrameKind) (k : KeepsCommands (work_of_pass p r taken known s batch.finished sh batch.texts)) (e : s ≡ idle) (below : batch.finished ≢ 2 ^ 40) (ring : r' ≡ r) (is : taken' ≡ taken ++ frame ∷ []) (some : 1 ≤ p.table.slots) (limit : p.table.slots ≤ 256) (pass : SamePass p q) where
  abbrev first : Worked
  first = work_of_pass p r taken known s batch.finished sh batch.texts

  abbrev command : Command
  command = command_of frame

  abbrev calls : List ShardCall
  calls = calls_of p.table.slots (command_of frame)

  -- the work with this command begun, after the calls of a pass
  abbrev with : Passed → Start → Worked
  with pass' start = work_of_pass pass' r' taken' known' start batch.finished sh batch.texts

  kept_raw : KeepsCommands (with p (raw frame))
  kept_raw = kept_begins_as p r r' taken taken' known known' s (raw frame) batch.finished sh batch.texts frame k e below ring is refl

  kept_going : KeepsCommands (with p (going command calls []))
  kept_going = kept_reads_as p r r' taken taken' known known' s (going command calls []) batch.finished sh batch.texts frame k e below ring is some limit refl

  goes_to : (start : Start) → StepsOn first (with p start)
  goes_to start = goes_begins_as p r r' taken taken' known known' s start batch.finished sh batch.texts frame k e ring is

  -- the frame stays
  raw_same : q.calls ≡ p.calls → record (with p (raw frame)) { trace = q.trace } ≡ with q (raw frame)
  raw_same same = let t = pass.table in let c = pass.conn in cc

  raw_begun : q.calls ≡ p.calls → (none : NoMemory) → IsBegun first (with q (raw frame)) (Err none)
  raw_begun same none = record {
    kept = subst KeepsCommands (raw_same same) (kept_looks (with p (raw frame)) kept_raw known' q.trace);
    goes = goes_on first (with p (raw frame)) (with q (raw frame)) (goes_to (raw frame))
        (record { table = pass.table; mark = ap (λ (w : Worked). mark_of w) (sym (raw_same same)); steps = pass.steps });
    to = tt;
    err = refl;
  }

  module _ (replies' : List CallReply) where
    -- the command is read, and its first call is made or not
    made_on : {E : Type 0} (made : Result Made E) → IsMade (with p (going command calls [])) (with q (going command calls replies')) made → StepsOn first (with q (going command calls replies'))
    made_on made on = goes_on first (with p (going command calls [])) (with q (going command calls replies')) (goes_to (going command calls [])) on.goes

    none_made : IsUnmade p q replies' → IsMade {E = ⊤} (with p (going command calls [])) (with q (going command calls replies')) (Err tt)
    none_made unmade = is_made p q r' taken' known' (going command calls []) batch.finished sh batch.texts command calls [] replies' kept_going refl pass (Err tt) (unmade.same, unmade.none)

    module _ (asked : ShardCall) (only : calls ≡ asked ∷ []) where
      there : slice_get calls 0 ≡ Some asked
      there = ap (λ (l : List ShardCall). slice_get l 0) only

      one_made : IsMadeAlone batch.finished asked p q replies' → IsMade {E = ⊤} (with p (going command calls [])) (with q (going command calls replies')) (Ok Mades.Call)
      one_made alone =
          is_made p q r' taken' known' (going command calls []) batch.finished sh batch.texts command calls [] replies' kept_going refl pass (Ok Mades.Call)
          (asked, there, alone.entry, alone.part, alone.entered, alone.replied)

      finished_begun : IsMadeAlone batch.finished asked p q replies' → IsBegun first (record (with q idle) { finished = batch.finished + 1; batch = (finished_with batch command replies').texts }) (Ok Finished)
      finished_begun alone =
          let on = one_made alone in
          let whole : length calls ≤ length replies' = omega (arith, ap length only, ap length alone.replied) in record {
            kept = kept_finishes (with q (going command calls replies')) on.kept command calls replies' refl whole;
            goes = goes_on first (with q (going command calls replies')) _ (made_on (Ok Mades.Call) on) (record { table = refl; mark = refl; steps = omega arith });
            to = (refl, refl);
            err = tt;
          }

      stopped_begun : (end : HoldEnd) → Makes batch.finished calls [] p replies' q (Mades.Stopped end) → IsBegun first (with q (going command calls replies')) (Ok (Stopped end))
      stopped_begun end stops =
          let on : IsMade {E = ⊤} (with p (going command calls [])) (with q (going command calls replies')) (Ok (Mades.Stopped end)) =
          is_made p q r' taken' known' (going command calls []) batch.finished sh batch.texts command calls [] replies' kept_going refl pass (Ok (Mades.Stopped end)) stops in record {
            kept = on.kept;
            goes = made_on (Ok (Mades.Stopped end)) on;
            to = (stops_from (with p (going command calls [])) first (with q (going command calls replies')) end refl on.to, refl);
            err = tt;
          }

  module _ (replies' : List CallReply) (begun' : Started) (batch' : Batch) where
    -- the work as it is then
    abbrev last : Worked
    last = work_of_pass q r' taken' known' (start_of q.table.slots begun' replies') batch'.finished sh batch'.texts

    last_as : (result : Result Begins NoMemory) (start : Start) → start_of q.table.slots begun' replies' ≡ start → batch' ≡ batch → IsBegun first (with q start) result → IsBegun first last result
    last_as result start start_is same begun =
        subst (λ (b : Batch). IsBegun first (work_of_pass q r' taken' known' (start_of q.table.slots begun' replies') b.finished sh b.texts) result) (sym same)
        (subst (λ y. IsBegun first (with q y) result) (sym start_is) begun)

    going_is : begun' ≡ command_read command → start_of q.table.slots begun' replies' ≡ going command calls replies'
    going_is read = ap (λ b. start_of q.table.slots b replies') read ∙ ap (λ t. going command (calls_of t.slots command) replies') pass.table

    going_on : {E : Type 0} (made : Result Made E) (result : Result Begins NoMemory) → begun' ≡ command_read command → batch' ≡ batch
        → IsMade (with p (going command calls [])) (with q (going command calls replies')) made
        → IfOk result (BeginsTo first (with q (going command calls replies'))) → IsBegun first last result
    going_on made result read same on to =
        last_as result (going command calls replies') (going_is read) same (record { kept = on.kept; goes = made_on replies' made on; to = to; err = held result })
      where
        held : (result : Result Begins NoMemory) → OnErr result (batch.finished ≡ batch.finished)
        held (Ok x) = tt
        held (Err x) = refl

    read_begun : (result : Result Begins NoMemory) → IsRead p.table.slots frame p batch q begun' replies' batch' result → IsBegun first last result
    read_begun (Ok Going) read = going_on {E = ⊤} (Err tt) (Ok Going) read.reads read.batch_is (none_made replies' read.unmade) (tt, refl)
    read_begun (Ok Finished) read = absurd read.reads
    read_begun (Ok (Stopped end)) read = absurd read.reads
    read_begun (Err none) read =
        last_as (Err none) (raw frame) (ap (λ b. start_of q.table.slots b replies') read.reads) read.batch_is (raw_begun read.unmade.same none)

    tried_begun : (result : Result Begins NoMemory) → IsTried p.table.slots frame p batch q begun' replies' batch' result → IsBegun first last result
    tried_begun (Ok Going) tried = absurd tried.tries
    tried_begun (Ok Finished) tried =
        let got = tried.tries.0 in
        subst (λ (b : Batch). IsBegun first (work_of_pass q r' taken' known' (start_of q.table.slots begun' replies') b.finished sh b.texts) (Ok Finished)) (sym tried.tries.2)
        (subst (λ y. IsBegun first (work_of_pass q r' taken' known' y (batch.finished + 1) sh (finished_with batch command got).texts) (Ok Finished))
        (sym (ap (λ b. start_of q.table.slots b replies') tried.begun_is)) (finished_begun got tried.asked tried.only tried.tries.1))
    tried_begun (Ok (Stopped end)) tried =
        last_as (Ok (Stopped end)) (going command calls replies') (going_is tried.begun_is) tried.tries.2
        (stopped_begun replies' tried.asked tried.only end (tried.asked, there replies' tried.asked tried.only, tried.tries.0, tried.tries.1.same, tried.tries.1.none))
    tried_begun (Err none) tried = by tried.tries.0
      where
        by : (IsMadeAlone batch.finished tried.asked p q replies' ⊎ IsUnmade p q replies') → IsBegun first last (Err none)
        by (inl alone) = going_on (Ok Mades.Call) (Err none) tried.begun_is tried.tries.1 (one_made replies' tried.asked tried.only alone) tt
        by (inr unmade) = going_on {E = ⊤} (Err tt) (Err none) tried.begun_is tried.tries.1 (none_made replies' unmade) tt

    pub begun_as : (shards : ℕ) (result : Result Begins NoMemory) → shards ≡ p.table.slots → StartsTo shards frame p batch q begun' replies' batch' result → IsBegun first last result
    begun_as shards result same starts = by (subst (λ n. StartsTo n frame p batch q begun' replies' batch' result) same starts)
      where
        by : StartsTo p.table.slots frame p batch q begun' replies' batch' result → IsBegun first last result
        by (inl read) = read_begun result read
        by (inr tried) = tried_begun result tried

-- ---- a `set`

-- the entry of a call on its shard
abbrev pub entry_with : Tag → ShardCall → CallReply → ℕ → Entry
entry_with tag asked reply stamp = record { tag = tag; shard = asked.shard; call = asked.call; reply = reply; stamp = stamp }

-- it is that of this part of a command, by its tag
pub part_with : (connection index part : ℕ) (tag : Tag) (asked : ShardCall) (reply : CallReply) (stamp : ℕ) → tag ≡ tag_of connection index part → MayAnswer asked.call reply
    → IsMadeAsPart connection index part asked (entry_with tag asked reply stamp)
part_with connection index part tag asked reply stamp is may = record { due = rw is refl; kind = may }

-- the text of a `set`, whatever reply its call may get
pub set_said : (said : List ℕ) (shards : ℕ) (command : Command) (next : ShardCall) (quiet : Bool) (reply : CallReply)
    → ((key value : List ℕ) (flags : ℕ) (reply : CallReply) → MayAnswer (SetCall key flags value) reply → said ≡ text (Store Set key flags value quiet) (reply ∷ []))
    → IsSetBy shards command next quiet → MayAnswer next.call reply → said ≡ text command (reply ∷ [])
set_said said shards command next quiet reply says is may =
    says is.key is.value is.flags reply (subst (λ (c : Call). MayAnswer c reply) (ap (λ (n : ShardCall). n.call) is.next_is) may)
    ∙ ap (λ (c : Command). text c (reply ∷ [])) (sym is.command_is)

-- the batch with the text of a finished command
pub finished_as : (batch sent batch' : Batch) (said : List ℕ) (count : ℕ) (command : Command) (got : List CallReply) → said ≡ text command got → sent ≡ with_text batch said → count ≡ batch.finished
    → batch' ≡ with_finished sent (count + 1) → batch' ≡ finished_with batch command got
finished_as batch sent batch' said count command got same is at more =
    more ∙ ap (λ (b : Batch). with_finished b (count + 1)) is ∙ ap (λ n. with_finished (with_text batch said) (n + 1)) at
    ∙ ap (λ (t : List ℕ). with_finished (with_text batch t) (batch.finished + 1)) same
