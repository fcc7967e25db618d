-- What the calls of a command are, and the shards that they are on.
use Rattle.std.proofs.Common.{◌≡◌, ℕ, ◌<◌, List, [], ◌∷◌, map, refl, ap, sym, subst}
use Rattle.std.specs.Prelude.{All, Option, None, Some, IfSome}
use Rattle.mc_calls.specs.Key.{shard_of}
use Rattle.mc_calls.specs.Call.{key_of}
use Rattle.mc_calls.specs.declared.call.Call.{Call}
use Rattle.mc_calls.specs.declared.call.Call.TheVariants.{Get as GetCall}
use Rattle.mc_parse.specs.declared.command.Command.{Command}
use Rattle.mc_parse.specs.Calls.{calls_of, at_key, get_at, on_shard}
use Rattle.mc_parse.proofs.CallLemmas.{all_calls}
use Rattle.mc_laws.specs.Calls.{asked_by, IsAtKey}

-- the calls of gets are the gets of the keys asked for
pub asked_by-gets : (shards : ℕ) (keys : List (List ℕ)) → asked_by (map (get_at shards) keys) ≡ map GetCall keys
asked_by-gets shards [] = refl
asked_by-gets shards (key ∷ keys) = ap (λ (rest : List Call). GetCall key ∷ rest) (asked_by-gets shards keys)

-- every call is on the shard of its key
pub all_at_keys : (shards : ℕ) (command : Command) → All (IsAtKey shards) (calls_of shards command)
all_at_keys shards command = all_calls (IsAtKey shards) shards (at_its_key shards) (no_key shards) command
  where
    no_key : (shards : ℕ) (call : Call) (shard : ℕ) → key_of call ≡ None → shard < shards → IsAtKey shards (on_shard call shard)
    no_key shards call shard is within = subst (λ (found : Option (List ℕ)). IfSome found (λ k. shard ≡ shard_of k shards)) (sym is) tt

    at_its_key : (shards : ℕ) (key : List ℕ) (call : Call) → key_of call ≡ Some key → IsAtKey shards (at_key shards key call)
    at_its_key shards key call is = subst (λ (found : Option (List ℕ)). IfSome found (λ k. shard_of key shards ≡ shard_of k shards)) (sym is) refl
