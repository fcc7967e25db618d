-- What each step keeps, for values that are given by equations.
use Rattle.std.proofs.Common.{◌≡◌, ◌≢◌, inl, true, false, ℕ, ◌+◌, ◌≤◌, ◌^◌, List, [], ◌∷◌, ◌++◌, length, Some, Result, Ok, Err, MatchResult, IfOk, slice_get, refl, sym, ap, ◌∙◌, subst, arith, length-append}
use Rattle.std.specs.Prelude.{IsSome, OnOk, OnErr, option_map}
use Rattle.std.proofs.lemmas.Option.{slice_get_within, slice_get-map}
use Rattle.mc_calls.specs.declared.call_reply.CallReply.{CallReply}
use Rattle.mc_parse.specs.declared.command.Command.{Command}
use Rattle.mc_parse.specs.declared.shard_call.ShardCall.{ShardCall}
use Rattle.mc_parse.specs.Calls.{Due, calls_of, get_calls, get_at}
use Rattle.mc_store.specs.Call.{WasBusy}
use Rattle.mc_store.specs.Pass.{Passed}
use Rattle.zy_calls.specs.Batch.{Batch, with_text, with_finished}
use Rattle.zy_frame.specs.Frame.{command_of}
use Rattle.zy_frame.specs.declared.frame_kind.FrameKind.{FrameKind}
use Rattle.zy_rx.specs.Ring.{RingName}
use Rattle.zy_conn.specs.declared.hold_end.HoldEnd.{HoldEnd}
use Rattle.zy_conn.specs.declared.hold_end.HoldEnd.TheVariants.{Drained, Limit, Spent, Busy}
use Rattle.zy_conn.specs.declared.calling.Made.{Made}
use Rattle.zy_conn.specs.declared.calling.Made.TheVariants.{Call, Done, Stopped}
use Rattle.zy_conn.specs.Work.{Started, no_frame, frame_alone, command_read, is_going, is_alone, Start, idle, raw, going, start_of, Worked, work_of_pass, texts_taken, mark_of}
use Rattle.zy_conn.specs.Kept.{KeepsCommands}
use Rattle.zy_conn.specs.Hold.{call_due}
use Rattle.zy_conn.specs.Step.{IsGoing, IsAllMade, text_begun, calls_left, SamePass, CallStopsBy, Makes, MakesThis, StepsOn, StopsBy, MadeFrom}
use Rattle.zy_conn.proofs.KeptLemmas.{kept_looks, texts_begin, kept_begins, kept_reads, texts_call, kept_calls, kept_finishes}

-- ---- what is begun

-- nothing, where there is neither a command nor a frame
pub none_begun : (s : Started) → is_going s ≡ false → is_alone s ≡ false → s ≡ no_frame
none_begun no_frame none alone = refl
none_begun (frame_alone frame) none alone = cc
none_begun (command_read command) none alone = cc

-- a command is in progress where it is known with its calls
pub going_begun : (shards : ℕ) (s : Started) (replies : List CallReply) → IsGoing (start_of shards s replies) → is_going s ≡ true
going_begun shards no_frame replies is = absurd is
going_begun shards (frame_alone frame) replies is = absurd is
going_begun shards (command_read command) replies is = refl

pub all_made_going : (shards : ℕ) (s : Started) (replies : List CallReply) → IsAllMade (start_of shards s replies) → is_going s ≡ true
all_made_going shards no_frame replies is = absurd is
all_made_going shards (frame_alone frame) replies is = absurd is
all_made_going shards (command_read command) replies is = refl

-- ---- a frame is taken

module _ (p : Passed) (r r' : RingName) (taken taken' known known' : List FrameKind) (s s' : Start) (f sh : ℕ) (b : List (List ℕ)) (frame : FrameKind) (k : KeepsCommands (work_of_pass p r taken known s f sh b)) (e : s ≡ idle) where
  pub kept_begins_as : f ≢ 2 ^ 40 → r' ≡ r → taken' ≡ taken ++ frame ∷ [] → s' ≡ raw frame → KeepsCommands (work_of_pass p r' taken' known' s' f sh b)
  kept_begins_as below ring is begun =
      subst (λ y. KeepsCommands (work_of_pass p r' taken' known' y f sh b)) (sym begun)
      (subst (λ l. KeepsCommands (work_of_pass p r' l known' (raw frame) f sh b)) (sym is)
      (subst (λ y. KeepsCommands (work_of_pass p y (taken ++ frame ∷ []) known' (raw frame) f sh b)) (sym ring) (kept_begins (work_of_pass p r taken known s f sh b) k frame known' e below)))

  pub kept_reads_as : f ≢ 2 ^ 40 → r' ≡ r → taken' ≡ taken ++ frame ∷ [] → 1 ≤ p.table.slots → p.table.slots ≤ 256
      → s' ≡ going (command_of frame) (calls_of p.table.slots (command_of frame)) [] → KeepsCommands (work_of_pass p r' taken' known' s' f sh b)
  kept_reads_as below ring is some limit begun =
      subst (λ y. KeepsCommands (work_of_pass p r' taken' known' y f sh b)) (sym begun)
      (subst (λ l. KeepsCommands (work_of_pass p r' l known' (going (command_of frame) (calls_of p.table.slots (command_of frame)) []) f sh b)) (sym is)
      (subst (λ y. KeepsCommands (work_of_pass p y (taken ++ frame ∷ []) known' (going (command_of frame) (calls_of p.table.slots (command_of frame)) []) f sh b)) (sym ring)
      (kept_reads (work_of_pass p r (taken ++ frame ∷ []) known' (raw frame) f sh b) (kept_begins (work_of_pass p r taken known s f sh b) k frame known' e below) frame refl some limit)))

  -- the command of the frame is read, or the frame stays
  pub kept_begun_as : {A E : Type 0} (read : Result A E) (b' : Started) (replies' : List CallReply) → s' ≡ start_of p.table.slots b' replies' → replies' ≡ []
      → OnOk read (b' ≡ command_read (command_of frame)) → OnErr read (b' ≡ frame_alone frame)
      → f ≢ 2 ^ 40 → r' ≡ r → taken' ≡ taken ++ frame ∷ [] → 1 ≤ p.table.slots → p.table.slots ≤ 256 → KeepsCommands (work_of_pass p r' taken' known' s' f sh b)
  kept_begun_as (Ok x) b' replies' start none ok err below ring is some limit =
      kept_reads_as below ring is some limit
      (start ∙ ap (λ y. start_of p.table.slots y replies') ok ∙ ap (λ l. going (command_of frame) (calls_of p.table.slots (command_of frame)) l) none)
  kept_begun_as (Err x) b' replies' start none ok err below ring is some limit =
      kept_begins_as below ring is (start ∙ ap (λ y. start_of p.table.slots y replies') err)

  pub goes_begins_as : r' ≡ r → taken' ≡ taken ++ frame ∷ [] → StepsOn (work_of_pass p r taken known s f sh b) (work_of_pass p r' taken' known' s' f sh b)
  goes_begins_as ring is = record {
    table = refl;
    mark = (λ i. (p.conn, (ring i, (ap (λ l. texts_taken (work_of_pass p r l known' (raw frame) f sh b)) is ∙ texts_begin (work_of_pass p r taken known s f sh b) k frame known' e) i)));
    steps = omega arith;
  }

-- ---- a call is made, or not

-- the work after the next call
pub record IsMade {E : Type 0} (a b : Worked) (made : Result Made E) : Type 0 where
  pub kept : KeepsCommands b
  pub goes : StepsOn a b
  pub to : IfOk made (MadeFrom a b)

-- a call that was not made stops the work
stopped : (p q : Passed) (command : Command) (calls : List ShardCall) (replies replies' : List CallReply) (asked : ShardCall) (a b : Worked) (end : HoldEnd)
    → b.begun ≡ going command calls replies' → slice_get calls (length replies') ≡ Some asked → b.calls ≡ q.calls → a.trace ≡ p.trace → b.trace ≡ q.trace → CallStopsBy asked p q end → StopsBy a b end
stopped p q command calls replies replies' asked a b Drained e there c t u h = absurd h
stopped p q command calls replies replies' asked a b Limit e there c t u h = absurd h
stopped p q command calls replies replies' asked a b Spent e there c t u h =
    inl (subst IsSome (sym (ap call_due e ∙ there)) refl, subst (λ l. 2 ^ 40 ≤ length l) (sym c) h)
stopped p q command calls replies replies' asked a b (Busy shard loaded found) e there c t u h = record {
  asked = asked;
  asked_is = ap call_due e ∙ there;
  busy = subst (λ x. WasBusy asked.shard x b.trace shard loaded found) (sym t) (subst (λ x. WasBusy asked.shard p.trace x shard loaded found) (sym u) h);
}

module _ (p q : Passed) (r : RingName) (taken known : List FrameKind) (s : Start) (f sh : ℕ) (b : List (List ℕ)) (command : Command) (calls : List ShardCall) (replies replies' : List CallReply) (k : KeepsCommands (work_of_pass p r taken known s f sh b)) (e : s ≡ going command calls replies) where
  module _ (pass : SamePass p q) where
    same_made : q.calls ≡ p.calls → replies' ≡ replies → record (work_of_pass p r taken known s f sh b) { trace = q.trace } ≡ work_of_pass q r taken known (going command calls replies') f sh b
    same_made h g = let t = pass.table in let c = pass.conn in cc

    unmade : {E : Type 0} (made : Result Made E) → q.calls ≡ p.calls → replies' ≡ replies → IfOk made (MadeFrom (work_of_pass p r taken known s f sh b) (work_of_pass q r taken known (going command calls replies') f sh b))
        → IsMade (work_of_pass p r taken known s f sh b) (work_of_pass q r taken known (going command calls replies') f sh b) made
    unmade made h g to =
        let is = same_made h g in record {
          kept = subst KeepsCommands is (kept_looks (work_of_pass p r taken known s f sh b) k known q.trace);
          goes = record { table = pass.table; mark = ap mark_of (sym is); steps = pass.steps };
          to = to;
        }

    pub is_made : {E : Type 0} (made : Result Made E) → MatchResult made (Makes f calls replies p replies' q) (λ _. (q.calls ≡ p.calls) × (replies' ≡ replies))
        → IsMade (work_of_pass p r taken known s f sh b) (work_of_pass q r taken known (going command calls replies') f sh b) made
    is_made (Err x) h = unmade (Err x) h.0 h.1 tt
    is_made (Ok Done) h = unmade (Ok Done) h.1 h.2 (omega (arith, ap length h.2, h.0))
    is_made (Ok (Stopped end)) h =
        unmade (Ok (Stopped end)) h.3 h.4
        (stopped p q command calls replies replies' h.0 (work_of_pass p r taken known s f sh b) (work_of_pass q r taken known (going command calls replies') f sh b) end refl (ap (λ l. slice_get calls (length l)) h.4 ∙ h.1) refl refl refl h.2)
    is_made (Ok Call) h =
        let asked = h.0 in
        let entry = h.2 in
        let part = h.3 in
        let tag = ap (λ (d : Due). d.tag.index) part.due in
        let below = slice_get_within calls (length replies) asked h.1 in
        let long = length-append replies (entry.reply ∷ []) in
        let t = pass.table in
        let c = pass.conn in
        let is : record (work_of_pass p r taken known s f sh b) { begun = going command calls (replies ++ entry.reply ∷ []); calls = p.calls ++ entry ∷ []; trace = q.trace } ≡ work_of_pass q r taken known (going command calls replies') f sh b = (let h4 = h.4 in let h5 = h.5 in cc) in record {
          kept = subst KeepsCommands is (kept_calls (work_of_pass p r taken known s f sh b) k command calls replies e asked entry q.trace h.1 part);
          goes = record {
            table = pass.table;
            mark = ap mark_of (sym is) ∙ ap (λ l. (p.conn, (r, l))) (texts_call (work_of_pass p r taken known s f sh b) k command calls replies e entry (going command calls (replies ++ entry.reply ∷ [])) q.trace tag);
            steps = pass.steps;
          };
          to = ap calls_left e ∙ (omega (arith, ap length h.5));
        }

    -- the same, stated of the values that the step has
    pub is_made_as : {E : Type 0} (made : Result Made E) (index : ℕ) (listed : List ShardCall) (s' : Start) → index ≡ f → listed ≡ calls → s' ≡ going command calls replies'
        → MatchResult made (Makes index listed replies p replies' q) (λ _. (q.calls ≡ p.calls) × (replies' ≡ replies))
        → IsMade (work_of_pass p r taken known s f sh b) (work_of_pass q r taken known s' f sh b) made
    is_made_as made index listed s' i l e' h =
        subst (λ y. IsMade (work_of_pass p r taken known s f sh b) (work_of_pass q r taken known y f sh b) made) (sym e')
        (is_made made
        (subst (λ n. MatchResult made (Makes n calls replies p replies' q) (λ _. (q.calls ≡ p.calls) × (replies' ≡ replies))) i
        (subst (λ xs. MatchResult made (Makes index xs replies p replies' q) (λ _. (q.calls ≡ p.calls) × (replies' ≡ replies))) l h)))

-- ---- a command is finished

kept_ends : (w : Worked) (k : KeepsCommands w) (s : Start) → w.begun ≡ s → IsAllMade s → KeepsCommands (record w { begun = idle; finished = w.finished + 1; batch = w.batch ++ text_begun s ∷ [] })
kept_ends w k idle e whole = absurd whole
kept_ends w k (raw frame) e whole = absurd whole
kept_ends w k (going command calls replies) e whole = kept_finishes w k command calls replies e whole

module _ (p : Passed) (r : RingName) (taken known : List FrameKind) (s s' : Start) (sh : ℕ) (batch sent batch' : Batch) (k : KeepsCommands (work_of_pass p r taken known s batch.finished sh batch.texts)) where
  pub kept_ends_as : IsAllMade s → s' ≡ idle → (s2 : Start) → s2 ≡ s → sent ≡ with_text batch (text_begun s2) → (n : ℕ) → n ≡ sent.finished → batch' ≡ with_finished sent (n + 1)
      → KeepsCommands (work_of_pass p r taken known s' batch'.finished sh batch'.texts)
  kept_ends_as whole none s2 same is n at more =
      let finished : batch'.finished ≡ batch.finished + 1 = ap (λ (v : Batch). v.finished) more ∙ ap (λ m. m + 1) (at ∙ ap (λ (v : Batch). v.finished) is) in
      let texts : batch'.texts ≡ batch.texts ++ text_begun s ∷ [] = ap (λ (v : Batch). v.texts) more ∙ ap (λ (v : Batch). v.texts) is ∙ ap (λ y. batch.texts ++ text_begun y ∷ []) same in
      subst (λ y. KeepsCommands (work_of_pass p r taken known y batch'.finished sh batch'.texts)) (sym none)
      (subst (λ m. KeepsCommands (work_of_pass p r taken known idle m sh batch'.texts)) (sym finished)
      (subst (λ l. KeepsCommands (work_of_pass p r taken known idle (batch.finished + 1) sh l)) (sym texts) (kept_ends (work_of_pass p r taken known s batch.finished sh batch.texts) k s refl whole)))

-- ---- a get

-- the gets of keys are those of each key
pub key_there : (shards : ℕ) (keys : List (List ℕ)) (part : ℕ) → slice_get (get_calls shards keys) part ≡ option_map (get_at shards) (slice_get keys part)
key_there shards keys part = slice_get-map (get_at shards) keys part

-- what came of a call is what came of the next of the calls, where it is the next one
pub makes_next : {E : Type 0} (index : ℕ) (calls : List ShardCall) (asked : ShardCall) (replies : List CallReply) (before : Passed) (replies' : List CallReply) (after : Passed) (result : Result Made E) (otherwise : E → Type 0)
    → slice_get calls (length replies) ≡ Some asked → MatchResult result (MakesThis index asked replies before replies' after) otherwise
    → MatchResult result (Makes index calls replies before replies' after) otherwise
makes_next index calls asked replies before replies' after (Ok Call) otherwise there made = (asked, there, made.0, made.1, made.2, made.3)
makes_next index calls asked replies before replies' after (Ok Done) otherwise there made = absurd made
makes_next index calls asked replies before replies' after (Ok (Stopped end)) otherwise there made = (asked, there, made.0, made.1, made.2)
makes_next index calls asked replies before replies' after (Err e) otherwise there made = made
