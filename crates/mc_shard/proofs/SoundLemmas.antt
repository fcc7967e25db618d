-- A shard is still sound after a call.
use Rattle.std.proofs.Common.{◌≡◌, ℕ, ◌<◌, List, [], ◌∷◌, ◌++◌, refl, sym, ap, subst, ◌∙◌}
use Rattle.std.specs.Prelude.{Option, None, Some, Result, Ok, Err, IfOk, OnOk}
use Rattle.mc_calls.specs.declared.call.Call.{Call}
use Rattle.mc_calls.specs.declared.call.Call.TheVariants.{Get}
use Rattle.mc_calls.specs.declared.call_reply.CallReply.{CallReply}
use Rattle.mc_calls.specs.declared.entry.Entry.{Entry}
use Rattle.mc_calls.specs.declared.entry.Tag.{Tag}
use Rattle.mc_calls.specs.declared.item.Item.{Item}
use Rattle.mc_calls.specs.declared.tallied.Tallied.{Tallied}
use Rattle.mc_calls.specs.Call.{key_of}
use Rattle.mc_calls.specs.Code.{tally}
use Rattle.mc_calls.specs.Counted.{CallCounts, calls_with}
use Rattle.mc_calls.specs.Shard.{State, empty_state, tallied, with_calls, Effect, keeps, Outcome, outcome_of, item_at, outcome_on, reply_to, state_with, state_after}
use Rattle.mc_calls.specs.Bounds.{FitsEntry}
use Rattle.mc_calls.specs.History.{IsHistory, replayed}
use Rattle.mc_calls.specs.Order.{last_stamp}
use Rattle.mc_calls.proofs.EntryLemmas.{last_stamp-push}
use Rattle.mc_calls.proofs.ReplayLemmas.{replayed-push, calls-state_with, IsHistory-push}
use Rattle.mc_calls.proofs.CountedLemmas.{tallied-replayed}
use Rattle.mc_shard.specs.declared.made.Made.{Made}
use Rattle.mc_shard.specs.Shard.{Kept, TallyCounts, state_of, entry_of, with_entry, state_past}
use Rattle.mc_shard.specs.Contents.{IsSound}

-- the counts of calls are those before the change
pub calls-made : (shards number : ℕ) (old made : State) (effect : Effect) → made ≡ state_with shards number old effect → made.calls ≡ old.calls
calls-made shards number old made effect is = ap (λ (s : State). s.calls) is ∙ calls-state_with shards number old effect

-- a call was counted after its change was made
pub noted : (shards number : ℕ) (old made new : State) (effect : Effect) (call : Call) (reply : CallReply) → made ≡ state_with shards number old effect
    → new ≡ with_calls made (calls_with made.calls call reply) → new ≡ with_calls (state_with shards number old effect) (calls_with old.calls call reply)
noted shards number old made new effect call reply is counted =
    counted ∙ ap (λ (calls : CallCounts). with_calls made (calls_with calls call reply)) (calls-made shards number old made effect is)
    ∙ ap (λ (s : State). with_calls s (calls_with old.calls call reply)) is

-- the shard after a call, from what each step of the call gives
pub IsSound-applied : (number shards last last' : ℕ) (contents contents' : State) (es es' : List Entry) (e : Entry) (key : Option (List ℕ)) (outcome : Outcome)
    → IsSound number shards last contents es
    → key ≡ key_of e.call
    → outcome ≡ outcome_of (tallied contents) e.call (item_at contents.items key)
    → contents' ≡ with_calls (state_with shards number contents outcome.effect) (calls_with contents.calls e.call outcome.reply)
    → es' ≡ es ++ e ∷ []
    → e.shard ≡ number
    → e.stamp ≡ last'
    → last < last'
    → e.reply ≡ outcome.reply
    → FitsEntry e
    → IsSound number shards last' contents' es'
IsSound-applied number shards last last' contents contents' es es' e key outcome sound key_is outcome_is contents_are longer here stamp above reply fits =
    let of_table : outcome ≡ outcome_on contents e.call = outcome_is ∙ ap (λ k. outcome_of (tallied contents) e.call (item_at contents.items k)) key_is in
    let past : contents' ≡ state_after shards number contents e.call = contents_are ∙ ap (λ (o : Outcome). with_calls (state_with shards number contents o.effect) (calls_with contents.calls e.call o.reply)) of_table in
    let answered : e.reply ≡ reply_to (replayed shards number empty_state es) e.call =
    reply ∙ ap (λ (o : Outcome). o.reply) of_table ∙ ap (λ (s : State). reply_to s e.call) sound.contents_are in
    let higher : last_stamp 0 es < e.stamp = subst (λ n. n < e.stamp) sound.last_is (subst (λ n. last < n) (sym stamp) above) in
    record {
      within = sound.within;
      few = sound.few;
      history_is = subst (IsHistory shards number) (sym longer) (IsHistory-push shards number es e sound.history_is here higher answered fits);
      contents_are = past ∙ ap (λ (s : State). state_after shards number s e.call) sound.contents_are ∙ sym (replayed-push shards number empty_state es e) ∙ ap (replayed shards number empty_state) (sym longer);
      last_is = sym stamp ∙ sym (last_stamp-push 0 es e) ∙ ap (last_stamp 0) (sym longer);
    }

-- a get changes no item
get_keeps : (counts : Tallied) (key : List ℕ) (found : Option Item) → (outcome_of counts (Get key) found).effect ≡ keeps
get_keeps counts key None = refl
get_keeps counts key (Some item) = refl

-- the shard after a get
pub IsSound-got : (number shards last stamp : ℕ) (contents contents' : State) (es es' : List Entry) (tag : Tag) (key : List ℕ) (reply : CallReply)
    → IsSound number shards last contents es
    → reply ≡ reply_to contents (Get key)
    → contents' ≡ with_calls contents (calls_with contents.calls (Get key) reply)
    → es' ≡ es ++ entry_of tag number (Get key) reply stamp ∷ []
    → last < stamp
    → FitsEntry (entry_of tag number (Get key) reply stamp)
    → IsSound number shards stamp contents' es'
IsSound-got number shards last stamp contents contents' es es' tag key reply sound answered counted longer above fits =
    let counts : Tallied = tallied contents in
    let found : Option Item = item_at contents.items (Some key) in
    let outcome : Outcome = outcome_of counts (Get key) found in
    IsSound-applied number shards last stamp contents contents' es es' (entry_of tag number (Get key) reply stamp) (Some key) outcome sound refl refl
    (counted ∙ ap (λ (r : CallReply). with_calls contents (calls_with contents.calls (Get key) r)) answered
    ∙ ap (λ (effect : Effect). with_calls (state_with shards number contents effect) (calls_with contents.calls (Get key) outcome.reply)) (sym (get_keeps counts key found)))
    longer refl refl above answered fits

-- the state of the shard after a call whose entry was appended
pub state_longer : (old new : Kept) (tag : Tag) (call : Call) (reply : CallReply) (stamp : ℕ)
    → new ≡ with_entry old (entry_of tag old.number call reply stamp) → state_of new ≡ state_past old call
state_longer old new tag call reply stamp longer =
    ap state_of longer ∙ replayed-push old.shards old.number empty_state old.history (entry_of tag old.number call reply stamp)

-- the shard after a call that was made, from the entry that was appended
pub state_by : {E : Type 0} (old new : Kept) (tag : Tag) (call given : Call) (result : Result Made E)
    → IfOk result (λ made. new ≡ with_entry old (entry_of tag old.number given made.reply made.stamp)) → given ≡ call → OnOk result (state_of new ≡ state_past old call)
state_by old new tag call given (Ok made) longer same =
    ap state_of longer ∙ replayed-push old.shards old.number empty_state old.history (entry_of tag old.number given made.reply made.stamp) ∙ ap (state_past old) same
state_by old new tag call given (Err refused) longer same = tt

-- what a tally answers is counted of the history
pub tally_counts : (shards number : ℕ) (es : List Entry) (call : Call) (reply : CallReply) → IsHistory shards number es
    → reply ≡ reply_to (replayed shards number empty_state es) call → TallyCounts call reply es
tally_counts shards number es call reply history answered is =
    answered ∙ ap (reply_to (replayed shards number empty_state es)) is ∙ ap tally (tallied-replayed shards number es history.replay)
