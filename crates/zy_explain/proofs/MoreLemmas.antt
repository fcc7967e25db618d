-- What holds of a result, by cases on it.
use Rattle.std.specs.List.{slice_get}
use Rattle.std.proofs.Common.{◌≡◌, ℕ, Bool, true, List, Option, None, Some, Result, Ok, Err, IfOk, IfSome, ◌∙◌, sym, ap}
use Rattle.zy_base.specs.declared.outside.NoMemory.{NoMemory}
use Rattle.mc_allows.specs.declared.said.Said.{Said}
use Rattle.mc_answers.specs.Said.{said_calls}
use Rattle.mc_parse.specs.declared.command.Command.{Command}
use Rattle.mc_parse.specs.declared.command.Command.TheVariants as Commands
use Rattle.mc_parse.specs.declared.shard_call.ShardCall.{ShardCall}
use Rattle.mc_parse.specs.Calls.{calls_of, IsOnShard}
use Rattle.zy_confirm.specs.declared.store.Store.{Store}
use Rattle.zy_confirm.specs.Store.{MakesCall}
use Rattle.zy_explain.specs.Making.{IsOnShards, MayHaveLost, CarriesOut}
use Rattle.zy_explain.proofs.ShardLemmas.{said_same, on_shards}

module _ (shards part : ℕ) (command : Command) where
  pub said_by : (command ≡ Commands.Stats → ⊥) → (r : Result (Option ShardCall) NoMemory) → IfOk r (λ call. call ≡ slice_get (calls_of shards command) part)
      → IfOk r (λ call. call ≡ slice_get (said_calls shards command) part)
  said_by not (Ok found) is = is ∙ ap (λ (l : List ShardCall). slice_get l part) (sym (said_same shards command not))
  said_by not (Err refused) is = tt

  pub shards_by : (r : Result (Option ShardCall) NoMemory) → IfOk r (λ call. call ≡ slice_get (calls_of shards command) part) → IfOk r (λ call. IfSome call (IsOnShard shards)) → IfOk r (λ call. IfSome call (IsOnShards shards))
  shards_by (Ok found) is within = on_shards shards part command found is within
  shards_by (Err refused) is within = tt

pub carried_by : (may_lose : List ℕ → Bool) (old middle new : Store) (call : ShardCall) → MayHaveLost may_lose old middle → (r : Result (Option Said) NoMemory)
    → IfOk r (λ found. IfSome found (λ said. MakesCall middle new call said)) → IfOk r (λ found. IfSome found (CarriesOut may_lose old new call))
carried_by may_lose old middle new call lost (Ok None) makes = tt
carried_by may_lose old middle new call lost (Ok (Some said)) makes = record { middle = middle; lost = lost; makes = makes }
carried_by may_lose old middle new call lost (Err refused) makes = tt
