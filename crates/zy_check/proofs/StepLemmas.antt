-- Walking through the entries: the connections.
use Rattle.std.specs.List.{slice_get, slice_set}
use Rattle.std.specs.Prelude.{IfSome}
use Rattle.std.proofs.Common.{◌≡◌, ◌↔◌, ℕ, ◌+◌, ◌<◌, ◌≤◌, Bool, true, List, [], ◌∷◌, ◌++◌, length, get_or, take, Option, None, Some, refl, sym, ap, ◌∙◌, subst, arith}
use Rattle.std.proofs.lemmas.List.{length-set, length-map, take_all}
use Rattle.std.proofs.lemmas.Option.{slice_get_within, slice_get_past, slice_get-get_or}
use mathlib.Core.Logic.{dite}
use native.Mathlib.Decide.{ℕ_discrete}
use Rattle.mc_calls.specs.declared.call.Call.{Call}
use Rattle.mc_calls.specs.declared.call_reply.CallReply.{CallReply}
use Rattle.mc_calls.specs.declared.entry.Entry.{Entry}
use Rattle.mc_calls.specs.Kind.{MayAnswer}
use Rattle.mc_calls.specs.Order.{of_connection}
use Rattle.mc_calls.specs.Shard.{State, reply_to}
use Rattle.zy_base.proofs.SetLemmas.{slice_get-set, slice_get-set_other}
use Rattle.mc_calls.proofs.EntryLemmas.{of_connection-push, of_connection-push_other}
use Rattle.mc_calls.proofs.KindLemmas.{reply_answers}
use Rattle.mc_parse.specs.declared.shard_call.ShardCall.{ShardCall}
use Rattle.mc_parse.specs.Calls.{Due, due_at, due_of, dues_of, tag_of}
use Rattle.mc_parse.proofs.CallLemmas.{dues_of-more}
use Rattle.zy_run.specs.Commands.{commands_held}
use Rattle.zy_capture.specs.Streams.{sessions_of}
use Rattle.zy_check.specs.declared.compared.Differing.{Differing}
use Rattle.zy_check.specs.declared.track.Track.{Track}
use Rattle.zy_check.specs.Given.{Given, due_in, IsNextCall, AreRight, HasEveryEntry, IsOutput}
use Rattle.zy_check.specs.Cause.{IsComplete, IsMissing}
use Rattle.zy_check.specs.Begun.{Begun, asked_in, IsCallAt}
use Rattle.zy_check.specs.Track.{HasMadeCalls, IsAtCall, IsAtEnd, StandsAtSession, AreCompared, with_reply}
use Rattle.zy_check.specs.Walk.{AreTracked, IsDueIn, IsNextIn}
use Rattle.zy_check.specs.Missing.{AreEnded}
use Rattle.zy_check.proofs.AskedLemmas.{none_left}
use Rattle.zy_check.proofs.DueLemmas.{tagged_at}
use Rattle.zy_check.proofs.ListLemmas.{there}
use Rattle.zy_check.proofs.RightLemmas.{whole_all}
use Rattle.zy_check.proofs.TrackLemmas.{next_due, answered, made_all, count_all, compared_all}
use Rattle.zy_check.proofs.WalkLemmas.{take_next, own_here}

-- ---- a connection after the calls of its entries before a place

-- what was asked of it so far
abbrev pub made_before : Given → ℕ → ℕ → List Due
made_before g at conn = dues_of (of_connection conn (take at g.entries))

made_size : (g : Given) (at conn : ℕ) → length (made_before g at conn) ≡ length (of_connection conn (take at g.entries))
made_size g at conn = length-map (of_connection conn (take at g.entries)) due_of

-- at a call: an entry that is this call is next
pub due_next : (g : Given) (at : ℕ) (e : Entry) (t : Track) (b : Begun) → e.tag.conn < length g.streams → HasMadeCalls g e.tag.conn t (made_before g at e.tag.conn) → t.begun ≡ Some b → length b.replies < length (asked_in b)
    → slice_get (due_at b.shards e.tag.conn t.commands b.command) (length b.replies) ≡ Some (due_of e) → IsNextCall g (take at g.entries) e
due_next g at e t b within has begun few due =
    let h : StandsAtSession g e.tag.conn t.session t.cursor (Some b) t.commands t.compared t.answered.items (made_before g at e.tag.conn) =
    subst (λ (o : Option Begun). StandsAtSession g e.tag.conn t.session t.cursor o t.commands t.compared t.answered.items (made_before g at e.tag.conn)) begun has in record {
      connection = within;
      call = ap (slice_get (due_in g e.tag.conn)) (sym (made_size g at e.tag.conn)) ∙ next_due g e.tag.conn t.session t.cursor b t.commands t.compared t.answered.items (made_before g at e.tag.conn) h few
          ∙ ap (λ (n : ℕ). slice_get (due_at n e.tag.conn t.commands b.command) (length b.replies)) (sym h.shards) ∙ due;
    }

-- and the entry that is next is this call
pub next_due_in : (g : Given) (at : ℕ) (e : Entry) (t : Track) (b : Begun) → HasMadeCalls g e.tag.conn t (made_before g at e.tag.conn) → t.begun ≡ Some b → length b.replies < length (asked_in b)
    → IsNextCall g (take at g.entries) e → slice_get (due_at b.shards e.tag.conn t.commands b.command) (length b.replies) ≡ Some (due_of e)
next_due_in g at e t b has begun few next =
    let h : StandsAtSession g e.tag.conn t.session t.cursor (Some b) t.commands t.compared t.answered.items (made_before g at e.tag.conn) =
    subst (λ (o : Option Begun). StandsAtSession g e.tag.conn t.session t.cursor o t.commands t.compared t.answered.items (made_before g at e.tag.conn)) begun has in
    ap (λ (n : ℕ). slice_get (due_at n e.tag.conn t.commands b.command) (length b.replies)) h.shards
    ∙ sym (next_due g e.tag.conn t.session t.cursor b t.commands t.compared t.answered.items (made_before g at e.tag.conn) h few)
    ∙ ap (slice_get (due_in g e.tag.conn)) (made_size g at e.tag.conn) ∙ next.call

-- so an entry is the call that is next if and only if it is next
pub next_exact : (g : Given) (at : ℕ) (e : Entry) (t : Track) (so : Bool) → e.tag.conn < length g.streams → HasMadeCalls g e.tag.conn t (made_before g at e.tag.conn) → IsAtCall t.begun
    → ((b : Begun) → t.begun ≡ Some b → (so ≡ true ↔ slice_get (due_at b.shards e.tag.conn t.commands b.command) (length b.replies) ≡ Some (due_of e))) → (so ≡ true ↔ IsNextCall g (take at g.entries) e)
next_exact g at e t so within has call exact = go t.begun refl call
  where
    go : (o : Option Begun) → t.begun ≡ o → IsAtCall o → (so ≡ true ↔ IsNextCall g (take at g.entries) e)
    go None is few = absurd few
    go (Some b) is few = (
      (λ y. due_next g at e t b within has is few ((exact b is).0 y)),
      (λ next. (exact b is).1 (next_due_in g at e t b has is few next)),
    )

-- it is the next call of the command in progress
pub next_in : (e : Entry) (tracks : List Track) (t : Track) (so : Bool) → e.tag.conn < length tracks → IsAtCall t.begun
    → ((b : Begun) → t.begun ≡ Some b → (so ≡ true ↔ slice_get (due_at b.shards e.tag.conn t.commands b.command) (length b.replies) ≡ Some (due_of e))) → so ≡ true → IsNextIn (slice_set tracks e.tag.conn t) e
next_in e tracks t so within call exact y =
    let size = length-set tracks e.tag.conn t in record {
      within = omega arith;
      due = λ x is.
          let both : Some t ≡ Some x = sym (slice_get-set tracks e.tag.conn t within) ∙ is in
          let same : t ≡ x = cc in
          subst (λ (z : Track). IsDueIn z.begun z.commands e) same (go t.begun refl call);
    }
  where
    go : (o : Option Begun) → t.begun ≡ o → IsAtCall o → IsDueIn o t.commands e
    go None is few = absurd few
    go (Some b) is few = (few, (exact b is).0 y)

-- at its end no entry is next
ended_as : (g : Given) (conn : ℕ) (t : Track) (made : List Due) → HasMadeCalls g conn t made → IsAtEnd g conn t → (made ≡ due_in g conn) × (t.commands ≡ length (commands_held g.streams conn))
ended_as g conn t made has end =
    let h : StandsAtSession g conn t.session t.cursor None t.commands t.compared t.answered.items made = subst (λ (o : Option Begun). StandsAtSession g conn t.session t.cursor o t.commands t.compared t.answered.items made) end.0 has in
    (made_all g conn t.session t.cursor t.commands t.compared t.answered.items made h end.1, count_all g conn t.session t.cursor t.commands t.compared t.answered.items made h end.1)

pub end_not_next : (g : Given) (at : ℕ) (e : Entry) (t : Track) → HasMadeCalls g e.tag.conn t (made_before g at e.tag.conn) → IsAtEnd g e.tag.conn t → IsNextCall g (take at g.entries) e → ⊥
end_not_next g at e t has end next =
    let made = made_before g at e.tag.conn in
    let all = (ended_as g e.tag.conn t made has end).0 in
    let past : slice_get made (length made) ≡ None = slice_get_past made (length made) (omega arith) in
    let both : None ≡ Some (due_of e) = sym past ∙ (λ i. slice_get (all i) (made_size g at e.tag.conn i)) ∙ next.call in
    absurd (cc)

-- ---- one connection of all

module _ (g : Given) (at : ℕ) (tracks : List Track) (tracked : AreTracked g at tracks) where
  -- a connection goes on after the same calls
  tracked_set : (conn : ℕ) (old new : Track) → slice_get tracks conn ≡ Some old → ((made : List Due) → HasMadeCalls g conn old made → HasMadeCalls g conn new made) → AreTracked g at (slice_set tracks conn new)
  tracked_set conn old new found kept =
      let within = slice_get_within tracks conn old found in record {
        count = length-set tracks conn new ∙ tracked.count;
        each = λ c t is. dite (ℕ_discrete c conn)
            (λ same.
            let both : Some new ≡ Some t = sym (slice_get-set tracks conn new within) ∙ (λ i. slice_get (slice_set tracks conn new) (sym same i)) ∙ is in
            let t_is : new ≡ t = cc in
            subst (λ (x : Track). HasMadeCalls g c x (made_before g at c)) t_is (subst (λ (n : ℕ). HasMadeCalls g n new (made_before g at n)) (sym same) (kept (made_before g at conn) (tracked.each conn old found))))
            (λ other. tracked.each c t (sym (slice_get-set_other tracks conn c new other) ∙ is));
      }

  -- the same of the connection at a place
  pub tracked_at : (conn : ℕ) (read new : Track) → conn < length tracks → ((made : List Due) → HasMadeCalls g conn (get_or tracks conn read) made → HasMadeCalls g conn new made) → AreTracked g at (slice_set tracks conn new)
  tracked_at conn read new within kept = tracked_set conn (get_or tracks conn read) new (slice_get-get_or tracks conn read within) kept

  -- it is after these calls
  pub has_made : (conn : ℕ) (read new : Track) → conn < length tracks → ((made : List Due) → HasMadeCalls g conn (get_or tracks conn read) made → HasMadeCalls g conn new made) → HasMadeCalls g conn new (made_before g at conn)
  has_made conn read new within kept = kept (made_before g at conn) (tracked.each conn (get_or tracks conn read) (slice_get-get_or tracks conn read within))

  -- one further entry was made
  pub tracked_on : (e : Entry) (new : Track) → slice_get g.entries at ≡ Some e → e.tag.conn < length tracks → HasMadeCalls g e.tag.conn new (made_before g at e.tag.conn ++ due_of e ∷ []) → AreTracked g (at + 1) (slice_set tracks e.tag.conn new)
  tracked_on e new is within has =
      let more : made_before g (at + 1) e.tag.conn ≡ made_before g at e.tag.conn ++ due_of e ∷ [] =
      ap (λ (l : List Entry). dues_of (of_connection e.tag.conn l)) (take_next g.entries at e is) ∙ ap dues_of (of_connection-push e.tag.conn (take at g.entries) e refl)
      ∙ dues_of-more (of_connection e.tag.conn (take at g.entries)) e in record {
        count = length-set tracks e.tag.conn new ∙ tracked.count;
        each = λ c t there_is. dite (ℕ_discrete c e.tag.conn)
            (λ same.
            let both : Some new ≡ Some t = sym (slice_get-set tracks e.tag.conn new within) ∙ (λ i. slice_get (slice_set tracks e.tag.conn new) (sym same i)) ∙ there_is in
            let t_is : new ≡ t = cc in
            subst (λ (x : Track). HasMadeCalls g c x (made_before g (at + 1) c)) t_is
            (subst (λ (n : ℕ). HasMadeCalls g n new (made_before g (at + 1) n)) (sym same) (subst (HasMadeCalls g e.tag.conn new) (sym more) has)))
            (λ other.
            let same : made_before g (at + 1) c ≡ made_before g at c =
            ap dues_of (ap (of_connection c) (take_next g.entries at e is) ∙ of_connection-push_other c (take at g.entries) e (λ f. other (sym f))) in
            subst (HasMadeCalls g c t) (sym same) (tracked.each c t (sym (slice_get-set_other tracks e.tag.conn c new other) ∙ there_is)));
      }

-- the entry is the call that is next, and its reply is taken
pub taken : (g : Given) (at : ℕ) (e : Entry) (t : Track) (reply : CallReply) → HasMadeCalls g e.tag.conn t (made_before g at e.tag.conn) → IsDueIn t.begun t.commands e → slice_get g.entries at ≡ Some e → reply ≡ e.reply
    → HasMadeCalls g e.tag.conn (record t { begun = with_reply t.begun reply }) (made_before g at e.tag.conn ++ due_of e ∷ [])
taken g at e t reply has due is same = go t.begun has due
  where
    go : (o : Option Begun) → StandsAtSession g e.tag.conn t.session t.cursor o t.commands t.compared t.answered.items (made_before g at e.tag.conn) → IsDueIn o t.commands e
        → StandsAtSession g e.tag.conn t.session t.cursor (with_reply o reply) t.commands t.compared t.answered.items (made_before g at e.tag.conn ++ due_of e ∷ [])
    go None h d = absurd d
    go (Some b) h d =
        answered g e.tag.conn t.session t.cursor b t.commands t.compared t.answered.items (made_before g at e.tag.conn) h e reply d.0
        (ap (λ (n : ℕ). slice_get (due_at n e.tag.conn t.commands b.command) (length b.replies)) (sym h.shards) ∙ d.1)
        (ap (slice_get (of_connection e.tag.conn g.entries)) (made_size g at e.tag.conn) ∙ own_here e.tag.conn g.entries at e is refl) same

-- it is at a call
pub due_at_call : (o : Option Begun) (index : ℕ) (e : Entry) → IsDueIn o index e → IsAtCall o
due_at_call None index e due = due
due_at_call (Some b) index e due = due.0

-- and the reply of the shard is of a kind that this call may get
pub due_kind : (index : ℕ) (e : Entry) (state : State) (reply : CallReply) (b : Begun) (call : ShardCall) → IsDueIn (Some b) index e → reply ≡ reply_to state e.call → slice_get (asked_in b) (length b.replies) ≡ Some call
    → MayAnswer call.call reply
due_kind index e state reply b call due same is =
    let none : 0 + length b.replies ≡ length b.replies = omega arith in
    let there : slice_get (due_at b.shards e.tag.conn index b.command) (length b.replies) ≡ Some (record { tag = tag_of e.tag.conn index (0 + length b.replies); call = call }) =
    tagged_at e.tag.conn index 0 (length b.replies) (asked_in b) call is in
    let both : Some (due_of e) ≡ Some (record { tag = tag_of e.tag.conn index (0 + length b.replies); call = call }) = sym due.1 ∙ there in
    let d : due_of e ≡ record { tag = tag_of e.tag.conn index (0 + length b.replies); call = call } = cc in
    let asked : e.call ≡ call.call = ap (λ (x : Due). x.call.call) d in
    subst (λ r. MayAnswer call.call r) (sym same) (subst (λ c. MayAnswer c (reply_to state e.call)) asked (reply_answers state e.call))

-- the connection of an entry that is next has this call next
pub due_here : (tracks : List Track) (e : Entry) (conn : ℕ) (t : Track) → IsNextIn tracks e → conn ≡ e.tag.conn → t ≡ get_or tracks conn t → IsDueIn t.begun t.commands e
due_here tracks e conn t next is got =
    next.due t (subst (λ n. slice_get tracks n ≡ Some t) is (slice_get-get_or tracks conn t (omega (arith, next.within, is)) ∙ ap Some (sym got)))

-- the call that is next is that of the entry
pub due_call : (begun : Option Begun) (index : ℕ) (e : Entry) (call : Call) → IsDueIn begun index e → ((b : Begun) → begun ≡ Some b → IsCallAt (asked_in b) (length b.replies) call) → call ≡ e.call
due_call None index e call due is = absurd due
due_call (Some b) index e call due is = go (slice_get (asked_in b) (length b.replies)) refl (is b refl)
  where
    go : (found : Option ShardCall) → slice_get (asked_in b) (length b.replies) ≡ found → IfSome found (λ (c : ShardCall). call ≡ c.call) → call ≡ e.call
    go None none same = absurd (omega (none_left (asked_in b) (length b.replies) (sym none) (omega (arith, due.0)), arith, due.0))
    go (Some c) there same =
        let none : 0 + length b.replies ≡ length b.replies = omega arith in
        let tagged : slice_get (due_at b.shards e.tag.conn index b.command) (length b.replies) ≡ Some (record { tag = tag_of e.tag.conn index (0 + length b.replies); call = c }) =
        tagged_at e.tag.conn index 0 (length b.replies) (asked_in b) c there in
        let both : Some (due_of e) ≡ Some (record { tag = tag_of e.tag.conn index (0 + length b.replies); call = c }) = sym due.1 ∙ tagged in
        let d : due_of e ≡ record { tag = tag_of e.tag.conn index (0 + length b.replies); call = c } = cc in
        same ∙ sym (ap (λ (x : Due). x.call.call) d)

-- ---- the end of the walk

-- all entries are before it
pub all_before : (g : Given) (conn : ℕ) → made_before g (length g.entries) conn ≡ dues_of (of_connection conn g.entries)
all_before g conn = ap (λ (l : List Entry). dues_of (of_connection conn l)) (take_all (length g.entries) g.entries (omega arith))

-- a connection at its end has no call without an entry
pub end_whole : (g : Given) (conn : ℕ) (t : Track) → HasMadeCalls g conn t (dues_of (of_connection conn g.entries)) → IsAtEnd g conn t → HasEveryEntry g conn
end_whole g conn t has end =
    let all = ap (λ (l : List Due). length l) (ended_as g conn t (dues_of (of_connection conn g.entries)) has end).0 in
    let size = length-map (of_connection conn g.entries) due_of in
    omega arith

-- one at a call has one, of the command that is begun
pub call_missing : (g : Given) (conn : ℕ) (t : Track) → AreRight g → ((c : ℕ) → c < conn → HasEveryEntry g c) → HasMadeCalls g conn t (dues_of (of_connection conn g.entries)) → IsAtCall t.begun → IsMissing g conn t.commands
call_missing g conn t right first has at = go t.begun has at
  where
    go : (o : Option Begun) → StandsAtSession g conn t.session t.cursor o t.commands t.compared t.answered.items (dues_of (of_connection conn g.entries)) → IsAtCall o → IsMissing g conn t.commands
    go None h few = absurd few
    go (Some b) h few =
        let call = there (asked_in b) (length b.replies) few in
        let size = length-map (of_connection conn g.entries) due_of in record {
          right = right;
          first = first;
          call = record { tag = tag_of conn t.commands (0 + length b.replies); call = call.0 };
          is_due = ap (slice_get (due_in g conn)) (sym size) ∙ next_due g conn t.session t.cursor b t.commands t.compared t.answered.items (dues_of (of_connection conn g.entries)) h few
              ∙ ap (λ (n : ℕ). slice_get (due_at n conn t.commands b.command) (length b.replies)) (sym h.shards) ∙ tagged_at conn t.commands 0 (length b.replies) (asked_in b) call.0 call.1;
          is_of = refl;
        }

-- one further connection is at its end
pub ends_more : (g : Given) (tracks : List Track) (conn : ℕ) (new : Track) → conn < length tracks → ((c : ℕ) (t : Track) → c < conn → slice_get tracks c ≡ Some t → IsAtEnd g c t) → IsAtEnd g conn new
    → (c : ℕ) (t : Track) → c < conn + 1 → slice_get (slice_set tracks conn new) c ≡ Some t → IsAtEnd g c t
ends_more g tracks conn new within ends end c t below is = dite (ℕ_discrete c conn)
    (λ same.
    let both : Some new ≡ Some t = sym (slice_get-set tracks conn new within) ∙ (λ i. slice_get (slice_set tracks conn new) (sym same i)) ∙ is in
    let t_is : new ≡ t = cc in
    subst (IsAtEnd g c) t_is (subst (λ (n : ℕ). IsAtEnd g n new) (sym same) end))
    (λ other. ends c t (omega arith) (sym (slice_get-set_other tracks conn c new other) ∙ is))

-- those at their ends have no call without an entry
pub ends_whole : (g : Given) (tracks : List Track) (conn : ℕ) → conn ≤ length tracks → AreTracked g (length g.entries) tracks → ((c : ℕ) (t : Track) → c < conn → slice_get tracks c ≡ Some t → IsAtEnd g c t)
    → (c : ℕ) → c < conn → HasEveryEntry g c
ends_whole g tracks conn most tracked ends c below =
    let t = there tracks c (omega arith) in
    end_whole g c t.0 (subst (HasMadeCalls g c t.0) (all_before g c) (tracked.each c t.0 t.1)) (ends c t.0 below t.1)

-- where all are at their ends, all is complete
pub all_ended : (g : Given) (tracks : List Track) → AreRight g → AreTracked g (length g.entries) tracks → ((c : ℕ) (t : Track) → slice_get tracks c ≡ Some t → IsAtEnd g c t) → IsComplete g × AreEnded g tracks
all_ended g tracks right tracked ends = (
  whole_all g right (λ c below.
      let size = tracked.count in
      let t = there tracks c (omega arith) in
      end_whole g c t.0 (has c t.0 t.1) (ends c t.0 t.1)),
  record { count = tracked.count; each = λ c t is. (has c t is, ends c t is) },
)
  where
    has : (c : ℕ) (t : Track) → slice_get tracks c ≡ Some t → HasMadeCalls g c t (dues_of (of_connection c g.entries))
    has c t is = subst (HasMadeCalls g c t) (all_before g c) (tracked.each c t is)

-- as many commands are done as there are
pub ended_count : (g : Given) (tracks : List Track) (conn : ℕ) (t : Track) → AreEnded g tracks → slice_get tracks conn ≡ Some t → t.commands ≡ length (commands_held g.streams conn)
ended_count g tracks conn t are is = let has = are.each conn t is in (ended_as g conn t (dues_of (of_connection conn g.entries)) has.0 has.1).1

-- if no output was found to differ, each is the expected one
pub end_outputs : (g : Given) (conn : ℕ) (t : Track) (made : List Due) → HasMadeCalls g conn t made → IsAtEnd g conn t → IsComplete g → t.compared.differing ≡ None → (s : ℕ) → s < length (sessions_of g.streams conn) → IsOutput g conn s
end_outputs g conn t made has end complete none s below =
    let h : StandsAtSession g conn t.session t.cursor None t.commands t.compared t.answered.items made = subst (λ (o : Option Begun). StandsAtSession g conn t.session t.cursor o t.commands t.compared t.answered.items made) end.0 has in
    let all : AreCompared g conn t.session [] t.compared.at None =
    subst (λ (o : Option Differing). AreCompared g conn t.session [] t.compared.at o) none (compared_all g conn t.session t.cursor t.commands t.compared t.answered.items made h end.1 complete) in
    let past = end.1 in
    all.0 s (omega arith)
