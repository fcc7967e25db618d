-- The keys of a command are those of its calls.
use Rattle.std.proofs.Common.{◌≡◌, ℕ, zero, suc, ◌+◌, List, [], ◌∷◌, map, refl, ap}
use Rattle.std.specs.Prelude.{Option, None, Some}
use Rattle.std.specs.List.{filter_map, range_with_len}
use Rattle.mc_calls.specs.Call.{key_of}
use Rattle.mc_calls.specs.declared.call.Call.{Call}
use Rattle.mc_parse.specs.declared.command.Command.{Command}
use Rattle.mc_parse.specs.OnAll.{made_by}
use Rattle.mc_parse.specs.Deed.{Deed, does_nothing, makes_one, gets_each, makes_on_all, deed_of}
use Rattle.mc_parse.specs.Calls.{calls_of, calls_by, call_alone, get_at, on_shard}
use Rattle.mc_parse.specs.Plain.{key_list, deed_keys, keys_of}
use Rattle.mc_parse.proofs.DeedLemmas.{no_key}
use Rattle.mc_laws.specs.Calls.{asked_by}

keys_of_gets : (shards : ℕ) (keys : List (List ℕ)) → filter_map key_of (asked_by (map (get_at shards) keys)) ≡ keys
keys_of_gets shards [] = refl
keys_of_gets shards (key ∷ keys) = ap (λ (l : List (List ℕ)). key ∷ l) (keys_of_gets shards keys)

no_keys : (call : Call) (first n : ℕ) → key_of call ≡ None → filter_map key_of (asked_by (map (on_shard call) (range_with_len first n))) ≡ []
no_keys call first zero is = refl
no_keys call first (suc n) is = rw is (no_keys call (first + 1) n is)

keys_of_deed : (shards : ℕ) (deed : Deed) → filter_map key_of (asked_by (calls_by shards deed)) ≡ deed_keys deed
keys_of_deed shards does_nothing = refl
keys_of_deed shards (makes_one call) = go (key_of call) refl
  where
    go : (found : Option (List ℕ)) → key_of call ≡ found → filter_map key_of (asked_by (call_alone shards call found)) ≡ key_list found
    go None is = refl
    go (Some key) is = rw is refl
keys_of_deed shards (gets_each keys) = keys_of_gets shards keys
keys_of_deed shards (makes_on_all made) = no_keys (made_by made) 0 shards (no_key made)

pub keys-calls_of : (shards : ℕ) (command : Command) → filter_map key_of (asked_by (calls_of shards command)) ≡ keys_of command
keys-calls_of shards command = keys_of_deed shards (deed_of command)
