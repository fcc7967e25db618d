-- A list is legal if and only if each entry is answered as after the entries before it.
use Rattle.std.proofs.Common.{◌≡◌, ℕ, List, [], ◌∷◌, ◌++◌, refl, sym, ap, ◌∙◌, subst}
use Rattle.std.proofs.lemmas.List.{append_assoc, append-nil}
use Rattle.std.specs.FinMap.{len}
use Rattle.mc_calls.specs.declared.call.Call.{Call}
use Rattle.mc_calls.specs.declared.call.Call.TheVariants.{Tally}
use Rattle.mc_calls.specs.declared.entry.Entry.{Entry}
use Rattle.mc_calls.specs.Code.{tally}
use Rattle.mc_calls.specs.Counted.{counted}
use Rattle.mc_calls.specs.Shard.{empty_state, reply_to}
use Rattle.mc_calls.specs.Order.{at_shard}
use Rattle.mc_calls.specs.History.{IsReplay, replayed, IsLegal}
use Rattle.shard_laws.specs.Answered.{answer_after, AreAnswered}
use Rattle.mc_calls.proofs.LegalLemmas.{legal_parts}
use Rattle.mc_calls.proofs.ReplayLemmas.{IsLegal-push, IsLegal-front, IsLegal-shard, IsLegal-reply}
use Rattle.mc_calls.proofs.CountedLemmas.{tallied-replayed}

-- the items that are counted are those of the shard
pub items-counted : (shards number : ℕ) (es : List Entry) → IsReplay shards number empty_state es → (counted es).items ≡ len (replayed shards number empty_state es).items
items-counted shards number es replay = sym (ap (λ counts. counts.items) (tallied-replayed shards number es replay))

-- a shard answers each call as after these entries
answer_is : (shards number : ℕ) (before : List Entry) (call : Call) → IsReplay shards number empty_state before
    → reply_to (replayed shards number empty_state before) call ≡ answer_after shards number before call
answer_is shards number before Tally replay = ap tally (tallied-replayed shards number before replay)
answer_is shards number before call replay = refl

-- the entries of a legal list are answered so
answered_from : (shards : ℕ) (before es : List Entry) → IsLegal shards (before ++ es) → AreAnswered shards before es
answered_from shards before [] legal = tt
answered_from shards before (e ∷ es) legal =
    let whole : IsLegal shards ((before ++ e ∷ []) ++ es) = subst (IsLegal shards) (sym (append_assoc before (e ∷ []) es)) legal in
    let front = IsLegal-front shards (before ++ e ∷ []) es whole in (
      IsLegal-shard shards before e front,
      IsLegal-reply shards before e front
          ∙ answer_is shards e.shard (at_shard e.shard before) e.call (legal_parts shards (λ number. empty_state) before (IsLegal-front shards before (e ∷ []) front) e.shard),
      answered_from shards (before ++ e ∷ []) es whole,
    )

pub legal_answered : (shards : ℕ) (es : List Entry) → IsLegal shards es → AreAnswered shards [] es
legal_answered shards es legal = answered_from shards [] es legal

-- and a list that is answered so is legal
legal_from : (shards : ℕ) (before es : List Entry) → IsLegal shards before → AreAnswered shards before es → IsLegal shards (before ++ es)
legal_from shards before [] legal answered = subst (IsLegal shards) (sym (append-nil before)) legal
legal_from shards before (e ∷ es) legal answered =
    subst (IsLegal shards) (append_assoc before (e ∷ []) es)
    (legal_from shards (before ++ e ∷ []) es
    (IsLegal-push shards before e legal answered.0
    (answered.1 ∙ sym (answer_is shards e.shard (at_shard e.shard before) e.call (legal_parts shards (λ number. empty_state) before legal e.shard))))
    answered.2)

pub answered_legal : (shards : ℕ) (es : List Entry) → AreAnswered shards [] es → IsLegal shards es
answered_legal shards es answered = legal_from shards [] es tt answered
