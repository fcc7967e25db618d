-- Lists of entries whose replies are those of the entries before them.
use Rattle.std.specs.Prelude.{◌≡◌, ℕ, ◌<◌, List, [], ◌∷◌, ◌++◌, ⊤}
use Rattle.mc_calls.specs.declared.entry.Entry.{Entry}
use Rattle.mc_calls.specs.declared.call.Call.{Call}
use Rattle.mc_calls.specs.declared.call.Call.TheVariants.{Tally}
use Rattle.mc_calls.specs.declared.call_reply.CallReply.{CallReply}
use Rattle.mc_calls.specs.Code.{tally}
use Rattle.mc_calls.specs.Counted.{counted}
use Rattle.mc_calls.specs.Shard.{empty_state, reply_to}
use Rattle.mc_calls.specs.History.{replayed}
use Rattle.mc_calls.specs.Order.{at_shard}

-- what a shard answers to a call after these entries of its own; a tally is answered by what is
-- counted of them
abbrev pub answer_after : ℕ → ℕ → List Entry → Call → CallReply
answer_after shards number before Tally = tally (counted before)
answer_after shards number before call = reply_to (replayed shards number empty_state before) call

-- each entry's shard is one of `shards` shards, and its reply is the one after the entries of this
-- shard that come before it
abbrev pub AreAnswered : ℕ → List Entry → List Entry → Type 0
AreAnswered shards before [] = ⊤
AreAnswered shards before (e ∷ es) =
    (e.shard < shards) × (e.reply ≡ answer_after shards e.shard (at_shard e.shard before) e.call)
    × AreAnswered shards (before ++ e ∷ []) es
