-- What a connection's work keeps at each of its steps.
use Rattle.std.proofs.Common.{◌≡◌, ◌≢◌, ℕ, zero, suc, ◌+◌, ◌≤◌, ◌^◌, List, [], ◌∷◌, ◌++◌, length, take, Some, slice_get, refl, sym, ap, ◌∙◌, subst, arith, append_assoc, append-nil, length-append}
use Rattle.std.proofs.lemmas.List.{take-append-le, take_all, length-take-le, length-map, map-append}
use Rattle.std.proofs.lemmas.Option.{slice_get_within}
use Rattle.mc_calls.specs.declared.call_reply.CallReply.{CallReply}
use Rattle.mc_calls.specs.declared.entry.Entry.{Entry}
use Rattle.mc_calls.specs.Kind.{MayAnswer, AreAnswers}
use Rattle.mc_calls.specs.Replies.{replies_at}
use Rattle.mc_calls.proofs.EntryLemmas.{replies_at-push, replies_at-push_other, AreAnswers-push}
use Rattle.mc_parse.specs.declared.command.Command.{Command}
use Rattle.mc_parse.specs.declared.shard_call.ShardCall.{ShardCall}
use Rattle.mc_parse.specs.Calls.{Due, calls_of, due, due_at, due_of, dues_of, tag_of, tagged}
use Rattle.mc_parse.proofs.CallLemmas.{due-more, dues_of-more, tagged-append}
use Rattle.mc_reply.specs.Text.{text}
use Rattle.mc_reply.specs.Texts.{texts_of}
use Rattle.mc_reply.specs.Answers.{AnswerEach}
use Rattle.mc_reply.proofs.TextLemmas.{texts_of-more, length-texts_from, take-texts_of}
use Rattle.mc_store.specs.declared.store.view.Trace.{Trace}
use Rattle.zy_frame.specs.declared.frame_kind.FrameKind.{FrameKind}
use Rattle.mc_store.specs.Pass.{Passed}
use Rattle.zy_calls.specs.Batch.{Batch, no_text}
use Rattle.zy_frame.specs.Frame.{command_of}
use Rattle.zy_rx.specs.Ring.{RingName}
use Rattle.zy_conn.specs.Work.{Start, idle, raw, going, Worked, work_of_pass, commands_of_frames, texts_all, texts_taken}
use Rattle.zy_conn.specs.Kept.{command_begun, dues_begun, replies_begun, IsGoingOn, IsBegunCommand, KeepsCommands}
use Rattle.zy_conn.specs.Step.{IsMadeAsPart}

-- ---- lists

-- the first `count + 1` are the first `count` and the next one
pub take_get : {A : Type 0} (count : ℕ) (xs : List A) (x : A) → slice_get xs count ≡ Some x → take (suc count) xs ≡ take count xs ++ x ∷ []
take_get count [] x there = cc
take_get zero (y ∷ ys) x there = cc
take_get (suc count) (y ∷ ys) x there = ap (λ l. y ∷ l) (take_get count ys x there)

-- one further call got its reply
AnswerEach-push : (calls : List ShardCall) (replies : List CallReply) (call : ShardCall) (reply : CallReply) → AnswerEach calls replies → MayAnswer call.call reply
    → AnswerEach (calls ++ call ∷ []) (replies ++ reply ∷ [])
AnswerEach-push [] [] call reply each kind = (kind, tt)
AnswerEach-push [] (r ∷ replies) call reply each kind = absurd each
AnswerEach-push (c ∷ calls) [] call reply each kind = absurd each
AnswerEach-push (c ∷ calls) (r ∷ replies) call reply each kind = (each.0, AnswerEach-push calls replies call reply each.1 kind)

-- a further frame is a further command
commands_more : (frames : List FrameKind) (frame : FrameKind) → commands_of_frames (frames ++ frame ∷ []) ≡ commands_of_frames frames ++ command_of frame ∷ []
commands_more frames frame = map-append command_of frames (frame ∷ [])

-- it changes no text of the commands before it
texts_more : (count : ℕ) (commands : List Command) (command : Command) (entries : List Entry) → count ≤ length commands
    → take count (texts_of (commands ++ command ∷ []) entries) ≡ take count (texts_of commands entries)
texts_more count commands command entries within =
    let long = length-texts_from 0 commands entries in
    ap (take count) (texts_of-more commands command entries)
    ∙ take-append-le count (texts_of commands entries) (text command (replies_at (length commands) entries) ∷ []) (omega arith)

-- nothing was offered yet
kept_new : (p : Passed) (r : RingName) (known : List FrameKind) → r.capacity ≡ 64 → p.calls ≡ [] → KeepsCommands (work_of_pass p r [] known idle 0 0 [])
kept_new p r known slots none = record {
  slots = slots;
  done = [];
  frames = refl;
  count = refl;
  dues = ap dues_of none;
  kinds = subst AreAnswers (sym none) tt;
  begun = tt;
  now = ap (replies_at 0) none;
  later = λ index above. ap (replies_at index) none;
  texts = refl;
  shown = omega arith;
  room = omega arith;
}

pub kept_new_as : (p : Passed) (r : RingName) (taken known : List FrameKind) (batch : Batch) → r.capacity ≡ 64 → p.calls ≡ [] → taken ≡ [] → batch ≡ no_text 0
    → KeepsCommands (work_of_pass p r taken known idle batch.finished 0 batch.texts)
kept_new_as p r taken known batch slots none t is =
    subst (λ l. KeepsCommands (work_of_pass p r l known idle batch.finished 0 batch.texts)) (sym t)
    (subst (λ (v : Batch). KeepsCommands (work_of_pass p r [] known idle v.finished 0 v.texts)) (sym is) (kept_new p r known slots none))

-- ---- steps

module _ (w : Worked) (k : KeepsCommands w) where
  -- a look at the ring
  pub kept_looks : (known : List FrameKind) (trace : Trace) → KeepsCommands (record w { known = known; trace = trace })
  kept_looks known trace = record {
    slots = k.slots;
    done = k.done;
    frames = k.frames;
    count = k.count;
    dues = k.dues;
    kinds = k.kinds;
    begun = k.begun;
    now = k.now;
    later = k.later;
    texts = k.texts;
    shown = k.shown;
    room = k.room;
  }

  -- when no command is in progress, the commands of all frames taken are finished
  pub done_idle : w.begun ≡ idle → commands_of_frames w.taken ≡ k.done
  done_idle e = k.frames ∙ ap (λ s. k.done ++ command_begun s) e ∙ append-nil k.done

  pub finished_idle : w.begun ≡ idle → length (commands_of_frames w.taken) ≡ w.finished
  finished_idle e = ap length (done_idle e) ∙ k.count

  -- a frame is taken
  pub texts_begin : (frame : FrameKind) (known : List FrameKind) → w.begun ≡ idle
      → texts_taken (record w { taken = w.taken ++ frame ∷ []; known = known; begun = raw frame }) ≡ texts_taken w
  texts_begin frame known e =
      let size = finished_idle e in let shown = k.shown in
      ap (λ l. take w.shown (texts_of l w.calls)) (commands_more w.taken frame)
      ∙ texts_more w.shown (commands_of_frames w.taken) (command_of frame) w.calls (omega arith)

  pub kept_begins : (frame : FrameKind) (known : List FrameKind) → w.begun ≡ idle → w.finished ≢ 2 ^ 40
      → KeepsCommands (record w { taken = w.taken ++ frame ∷ []; known = known; begun = raw frame })
  kept_begins frame known e below =
      let size = finished_idle e in
      let long = length-map w.taken command_of in
      let room = k.room in record {
        slots = k.slots;
        done = k.done;
        frames = commands_more w.taken frame ∙ ap (λ l. l ++ command_of frame ∷ []) (done_idle e);
        count = k.count;
        dues = k.dues ∙ ap (λ s. due w.table.slots w.conn k.done ++ dues_begun w.conn w.finished s) e;
        kinds = k.kinds;
        begun = tt;
        now = k.now ∙ ap replies_begun e;
        later = k.later;
        texts = ap (λ l. l ++ w.batch) (texts_begin frame known e)
            ∙ (k.texts
            ∙ sym (ap (λ l. take w.finished (texts_of l w.calls)) (commands_more w.taken frame)
            ∙ texts_more w.finished (commands_of_frames w.taken) (command_of frame) w.calls (omega arith)));
        shown = k.shown;
        room = omega (arith, length-append w.taken (frame ∷ []));
      }

  -- the command of the frame that is begun is read
  pub kept_reads : (frame : FrameKind) → w.begun ≡ raw frame → 1 ≤ w.table.slots → w.table.slots ≤ 256
      → KeepsCommands (record w { begun = going (command_of frame) (calls_of w.table.slots (command_of frame)) [] })
  kept_reads frame e some limit = record {
    slots = k.slots;
    done = k.done;
    frames = k.frames ∙ ap (λ s. k.done ++ command_begun s) e;
    count = k.count;
    dues = k.dues ∙ ap (λ s. due w.table.slots w.conn k.done ++ dues_begun w.conn w.finished s) e;
    kinds = k.kinds;
    begun = record { some = some; limit = limit; all = refl; few = omega arith; answers = tt };
    now = k.now ∙ ap replies_begun e;
    later = k.later;
    texts = k.texts;
    shown = k.shown;
    room = k.room;
  }

  module _ (command : Command) (calls : List ShardCall) (replies : List CallReply) (e : w.begun ≡ going command calls replies) where
    pub going_on : IsGoingOn w.table.slots command calls replies
    going_on = subst (IsBegunCommand w.table.slots) e k.begun

    -- a call of the command is made
    pub texts_call : (entry : Entry) (start : Start) (trace : Trace) → entry.tag.index ≡ w.finished
        → texts_taken (record w { begun = start; calls = w.calls ++ entry ∷ []; trace = trace }) ≡ texts_taken w
    texts_call entry start trace tag = let shown = k.shown in take-texts_of w.shown (commands_of_frames w.taken) w.calls entry (omega arith)

    pub kept_calls : (asked : ShardCall) (entry : Entry) (trace : Trace) → slice_get calls (length replies) ≡ Some asked → IsMadeAsPart w.conn w.finished (length replies) asked entry
        → KeepsCommands (record w { begun = going command calls (replies ++ entry.reply ∷ []); calls = w.calls ++ entry ∷ []; trace = trace })
    kept_calls asked entry trace there part =
        let tag : entry.tag.index ≡ w.finished = ap (λ (d : Due). d.tag.index) part.due in
        let call : entry.call ≡ asked.call = ap (λ (d : Due). d.call.call) part.due in
        let shown = k.shown in
        let below = slice_get_within calls (length replies) asked there in
        let long : length (replies ++ entry.reply ∷ []) ≡ suc (length replies) = omega (arith, length-append replies (entry.reply ∷ [])) in
        let first : List ShardCall = take (length replies) calls in
        let size : length first ≡ length replies = length-take-le (length replies) calls (omega arith) in
        let at : 0 + length first ≡ length replies = omega arith in
        let more : take (length (replies ++ entry.reply ∷ [])) calls ≡ first ++ asked ∷ [] = ap (λ n. take n calls) long ∙ take_get (length replies) calls asked there in
        let one : tagged w.conn w.finished 0 (take (length (replies ++ entry.reply ∷ [])) calls) ≡ tagged w.conn w.finished 0 first ++ due_of entry ∷ [] =
        ap (tagged w.conn w.finished 0) more
        ∙ tagged-append w.conn w.finished 0 first (asked ∷ [])
        ∙ ap (λ n. tagged w.conn w.finished 0 first ++ record { tag = tag_of w.conn w.finished n; call = asked } ∷ []) at
        ∙ ap (λ (d : Due). tagged w.conn w.finished 0 first ++ d ∷ []) (sym part.due) in record {
          slots = k.slots;
          done = k.done;
          frames = k.frames ∙ ap (λ s. k.done ++ command_begun s) e;
          count = k.count;
          dues = dues_of-more w.calls entry
              ∙ ap (λ l. l ++ due_of entry ∷ []) (k.dues ∙ ap (λ s. due w.table.slots w.conn k.done ++ dues_begun w.conn w.finished s) e)
              ∙ append_assoc (due w.table.slots w.conn k.done) (tagged w.conn w.finished 0 first) (due_of entry ∷ [])
              ∙ ap (λ l. due w.table.slots w.conn k.done ++ l) (sym one);
          kinds = AreAnswers-push w.calls entry k.kinds (subst (λ c. MayAnswer c entry.reply) (sym call) part.kind);
          begun = record {
            some = going_on.some;
            limit = going_on.limit;
            all = going_on.all;
            few = omega arith;
            answers = subst (λ l. AnswerEach l (replies ++ entry.reply ∷ [])) (sym more) (AnswerEach-push first replies asked entry.reply going_on.answers part.kind);
          };
          now = replies_at-push w.finished w.calls entry tag ∙ ap (λ l. l ++ entry.reply ∷ []) (k.now ∙ ap replies_begun e);
          later = λ index above. replies_at-push_other index w.calls entry (omega arith) ∙ k.later index above;
          texts = ap (λ l. l ++ w.batch) (take-texts_of w.shown (commands_of_frames w.taken) w.calls entry (omega arith))
              ∙ (k.texts ∙ sym (take-texts_of w.finished (commands_of_frames w.taken) w.calls entry (omega arith)));
          shown = k.shown;
          room = k.room;
        }

    -- the command is finished
    pub kept_finishes : length calls ≤ length replies
        → KeepsCommands (record w { begun = idle; finished = w.finished + 1; batch = w.batch ++ text command replies ∷ [] })
    kept_finishes whole =
        let count = k.count in
        let frames : commands_of_frames w.taken ≡ k.done ++ command ∷ [] = k.frames ∙ ap (λ s. k.done ++ command_begun s) e in
        let mine : replies_at w.finished w.calls ≡ replies = k.now ∙ ap replies_begun e in
        let front : List (List ℕ) = texts_of k.done w.calls in
        let all : texts_all w ≡ front ++ text command replies ∷ [] =
        ap (λ l. texts_of l w.calls) frames ∙ texts_of-more k.done command w.calls
        ∙ ap (λ n. front ++ text command (replies_at n w.calls) ∷ []) k.count
        ∙ ap (λ r. front ++ text command r ∷ []) mine in
        let long = length-texts_from 0 k.done w.calls in
        let first : take w.finished (texts_all w) ≡ front =
        ap (take w.finished) all ∙ take-append-le w.finished front (text command replies ∷ []) (omega arith) ∙ take_all w.finished front (omega arith) in
        let size = length-append front (text command replies ∷ []) in
        let whole_size = ap length all in
        let shown = k.shown in record {
          slots = k.slots;
          done = k.done ++ command ∷ [];
          frames = frames ∙ sym (append-nil (k.done ++ command ∷ []));
          count = length-append k.done (command ∷ []) ∙ ap (λ n. n + 1) k.count;
          dues = k.dues ∙ ap (λ s. due w.table.slots w.conn k.done ++ dues_begun w.conn w.finished s) e
              ∙ ap (λ l. due w.table.slots w.conn k.done ++ tagged w.conn w.finished 0 l) (take_all (length replies) calls whole ∙ going_on.all)
              ∙ ap (λ n. due w.table.slots w.conn k.done ++ due_at w.table.slots w.conn n command) (sym k.count)
              ∙ sym (due-more w.table.slots w.conn k.done command)
              ∙ sym (append-nil (due w.table.slots w.conn (k.done ++ command ∷ [])));
          kinds = k.kinds;
          begun = tt;
          now = k.later (w.finished + 1) (omega arith);
          later = λ index above. k.later index (omega arith);
          texts = sym (append_assoc (texts_taken w) w.batch (text command replies ∷ []))
              ∙ ap (λ l. l ++ text command replies ∷ []) (k.texts ∙ first) ∙ sym all
              ∙ sym (take_all (w.finished + 1) (texts_all w) (omega arith));
          shown = omega arith;
          room = k.room;
        }
