-- Keys, each with its reply.
use Rattle.std.proofs.Common.{◌≡◌, ℕ, suc, List, [], ◌∷◌, length, refl, ap}
use Rattle.mc_calls.specs.declared.call_reply.CallReply.{CallReply}
use Rattle.mc_parse.specs.Calls.{get_calls}
use Rattle.mc_reply.specs.Answers.{AnswerEach}

-- there is a reply for each key
pub answered : (shards : ℕ) (keys : List (List ℕ)) (replies : List CallReply) → AnswerEach (get_calls shards keys) replies → length keys ≡ length replies
answered shards [] [] each = refl
answered shards [] (reply ∷ replies) each = absurd each
answered shards (key ∷ keys) [] each = absurd each
answered shards (key ∷ keys) (reply ∷ replies) each = ap suc (answered shards keys replies each.1)
