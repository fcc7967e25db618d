-- Each entry of a replay and of a legal list has a reply of a kind that the table of calls gives for its call.
use Rattle.std.proofs.Common.{ℕ, List, [], ◌∷◌, sym, subst}
use Rattle.mc_calls.specs.declared.entry.Entry.{Entry}
use Rattle.mc_calls.specs.Shard.{State, state_after}
use Rattle.mc_calls.specs.Kind.{MayAnswer, AreAnswers}
use Rattle.mc_calls.specs.History.{IsReplay, IsLegalFrom, states_after}
use Rattle.mc_calls.proofs.KindLemmas.{reply_answers}

-- the replies of a replay
pub replay_answers : (shards number : ℕ) (state : State) (es : List Entry) → IsReplay shards number state es → AreAnswers es
replay_answers shards number state [] replay = tt
replay_answers shards number state (e ∷ es) replay = (
  subst (MayAnswer e.call) (sym replay.0) (reply_answers state e.call),
  replay_answers shards number (state_after shards number state e.call) es replay.1,
)

-- the replies of a legal list
pub legal_answers : (shards : ℕ) (states : ℕ → State) (es : List Entry) → IsLegalFrom shards states es → AreAnswers es
legal_answers shards states [] legal = tt
legal_answers shards states (e ∷ es) legal = (
  subst (MayAnswer e.call) (sym legal.1) (reply_answers (states e.shard) e.call),
  legal_answers shards (states_after shards states e) es legal.2,
)
