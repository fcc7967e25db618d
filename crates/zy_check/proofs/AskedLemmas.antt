-- The calls of a command that is begun, and its replies.
use Rattle.std.specs.List.{slice_get}
use Rattle.std.proofs.Common.{◌≡◌, ◌↔◌, ℕ, zero, suc, ◌+◌, ◌<◌, ◌≤◌, Bool, true, false, List, [], ◌∷◌, ◌++◌, length, take, Option, None, Some, refl, sym, ap, ◌∙◌, subst, arith}
use Rattle.std.proofs.lemmas.List.{length-append}
use Rattle.std.proofs.lemmas.Option.{slice_get_past}
use Rattle.mc_calls.specs.declared.call_reply.CallReply.{CallReply}
use Rattle.mc_calls.specs.declared.entry.Entry.{Entry}
use Rattle.mc_calls.specs.Kind.{MayAnswer}
use Rattle.mc_parse.specs.declared.command.Command.{Command}
use Rattle.mc_parse.specs.declared.shard_call.ShardCall.{ShardCall}
use Rattle.mc_parse.specs.Calls.{Due, due_of, tag_of, tagged, calls_of}
use Rattle.mc_parse.proofs.CallLemmas.{length-tagged}
use Rattle.mc_reply.specs.Answers.{AnswerEach}
use Rattle.zy_check.specs.Begun.{IsPartlyAnswered}
use Rattle.zy_check.proofs.DueLemmas.{tagged_at}

-- an entry is the call at a place exactly if it is this call
pub due_exact : (conn index part : ℕ) (calls : List ShardCall) (call : ShardCall) (e : Entry) (b : Bool) → slice_get calls part ≡ Some call
    → (b ≡ true ↔ due_of e ≡ record { tag = tag_of conn index part; call = call }) → (b ≡ true ↔ slice_get (tagged conn index 0 calls) part ≡ Some (due_of e))
due_exact conn index part calls call e b is exact =
    let none : 0 + part ≡ part = omega arith in
    let there : slice_get (tagged conn index 0 calls) part ≡ Some (record { tag = tag_of conn index part; call = call }) =
    tagged_at conn index 0 part calls call is ∙ ap (λ (n : ℕ). Some (record { tag = tag_of conn index n; call = call })) none in (
      (λ yes. there ∙ ap (λ (d : Due). Some d) (sym (exact.0 yes))),
      (λ same. let both : Some (due_of e) ≡ Some (record { tag = tag_of conn index part; call = call }) = sym same ∙ there in exact.1 (cc)),
    )

-- no entry is a call where there is no call
pub due_past : (conn index part : ℕ) (calls : List ShardCall) (e : Entry) → length calls ≤ part → (false ≡ true ↔ slice_get (tagged conn index 0 calls) part ≡ Some (due_of e))
due_past conn index part calls e past =
    let size = length-tagged conn index 0 calls in
    let none : slice_get (tagged conn index 0 calls) part ≡ None = slice_get_past (tagged conn index 0 calls) part (omega arith) in (
      (λ no. absurd (cc)),
      (λ same. let both : None ≡ Some (due_of e) = sym none ∙ same in absurd (cc)),
    )

-- one further reply
each_more : (calls : List ShardCall) (replies : List CallReply) (reply : CallReply) → length replies < length calls → ((call : ShardCall) → slice_get calls (length replies) ≡ Some call → MayAnswer call.call reply)
    → AnswerEach (take (length replies) calls) replies → AnswerEach (take (length replies + 1) calls) (replies ++ reply ∷ [])
each_more [] replies reply few kind each = absurd (omega arith)
each_more (call ∷ calls) [] reply few kind each = (kind call refl, tt)
each_more (call ∷ calls) (r ∷ replies) reply few kind each =
    let on : length (r ∷ replies) + 1 ≡ suc (length replies + 1) = omega arith in
    subst (λ (n : ℕ). AnswerEach (take n (call ∷ calls)) (r ∷ (replies ++ reply ∷ []))) (sym on) (each.0, each_more calls replies reply (omega arith) (λ c is. kind c is) each.1)

pub kept_more : (command : Command) (shards : ℕ) (next more : Option ShardCall) (replies : List CallReply) (reply : CallReply) → length replies < length (calls_of shards command)
    → ((call : ShardCall) → slice_get (calls_of shards command) (length replies) ≡ Some call → MayAnswer call.call reply) → more ≡ slice_get (calls_of shards command) (length replies + 1)
    → IsPartlyAnswered command shards next replies → IsPartlyAnswered command shards more (replies ++ reply ∷ [])
kept_more command shards next more replies reply few kind is kept =
    let long : length (replies ++ reply ∷ []) ≡ length replies + 1 = length-append replies (reply ∷ []) in record {
      some = kept.some;
      limit = kept.limit;
      next_is = is ∙ ap (λ (n : ℕ). slice_get (calls_of shards command) n) (sym long);
      few = omega arith;
      each = subst (λ (n : ℕ). AnswerEach (take n (calls_of shards command)) (replies ++ reply ∷ [])) (sym long) (each_more (calls_of shards command) replies reply few kind kept.each);
    }

-- if there is no call at a place, the calls before it are all
pub none_left : (calls : List ShardCall) (part : ℕ) → None ≡ slice_get calls part → part ≤ length calls → length calls ≡ part
none_left [] part none few = omega (arith, few)
none_left (call ∷ calls) zero none few = absurd (cc)
none_left (call ∷ calls) (suc part) none few = ap suc (none_left calls part none (omega (arith, few)))
