-- The calls of a command are on their shards.
use Rattle.std.specs.List.{slice_get, range_with_len}
use Rattle.std.proofs.Common.{◌≡◌, ℕ, zero, suc, ◌<◌, List, [], ◌∷◌, map, Option, None, Some, IfSome, refl, sym, ap, ◌∙◌, subst}
use Rattle.mc_calls.specs.declared.call.Call.{Call}
use Rattle.mc_calls.specs.Call.{key_of}
use Rattle.mc_parse.specs.declared.command.Command.{Command}
use Rattle.mc_parse.specs.declared.command.Command.TheVariants as Commands
use Rattle.mc_parse.specs.declared.shard_call.ShardCall.{ShardCall}
use Rattle.mc_parse.specs.Calls.{on_shard, at_key, get_at, call_alone, calls_by, calls_of, IsOnShard}
use Rattle.mc_parse.specs.Deed.{Deed, does_nothing, makes_one, gets_each, makes_on_all, deed_of}
use Rattle.mc_parse.specs.OnAll.{made_by}
use Rattle.mc_parse.proofs.DeedLemmas.{no_key}
use Rattle.mc_answers.specs.Said.{said_calls}
use Rattle.zy_confirm.specs.Store.{IsOnItsShard}
use Rattle.zy_explain.specs.Making.{IsOnShards}

-- ---- one command

-- but for `stats`, something is said to each call
pub said_same : (shards : ℕ) (command : Command) → (command ≡ Commands.Stats → ⊥) → said_calls shards command ≡ calls_of shards command
said_same shards Commands.Stats not = absurd (not refl)
said_same shards (Commands.Store verb key flags value quiet) not = refl
said_same shards (Commands.Cas key flags unique value quiet) not = refl
said_same shards (Commands.Get keys unique) not = refl
said_same shards (Commands.Delete key quiet) not = refl
said_same shards (Commands.Count key up amount quiet) not = refl
said_same shards Commands.Version not = refl
said_same shards (Commands.Verbosity quiet) not = refl
said_same shards (Commands.Flush quiet) not = refl
said_same shards (Commands.Fault line quiet) not = refl
said_same shards (Commands.Meta meta) not = refl

-- ---- shards

mapped_some : {A B : Type 0} (f : A → B) (xs : List A) (i : ℕ) (y : B) → slice_get (map f xs) i ≡ Some y → (x : A) × (f x ≡ y)
mapped_some f [] i y is = absurd (cc)
mapped_some f (x ∷ xs) zero y is = (x, cc)
mapped_some f (x ∷ xs) (suc i) y is = mapped_some f xs i y is

alone : (shards part : ℕ) (own : Call) (call : ShardCall) (key : Option (List ℕ)) → key_of own ≡ key → slice_get (call_alone shards own key) part ≡ Some call → IsOnItsShard shards (key_of call.call) call.shard
alone shards part own call None is found = absurd (cc)
alone shards zero own call (Some key) is found =
    let same : at_key shards key own ≡ call = cc in
    subst (λ (c : ShardCall). IsOnItsShard shards (key_of c.call) c.shard) same (subst (λ (k : Option (List ℕ)). IsOnItsShard shards k (at_key shards key own).shard) (sym is) refl)
alone shards (suc part) own call (Some key) is found = absurd (cc)

by_deed : (shards part : ℕ) (deed : Deed) (call : ShardCall) → slice_get (calls_by shards deed) part ≡ Some call → call.shard < shards → IsOnItsShard shards (key_of call.call) call.shard
by_deed shards part does_nothing call found within = absurd (cc)
by_deed shards part (makes_one own) call found within = alone shards part own call (key_of own) refl found
by_deed shards part (gets_each keys) call found within =
    let one = mapped_some (get_at shards) keys part call found in
    subst (λ (c : ShardCall). IsOnItsShard shards (key_of c.call) c.shard) one.1 refl
by_deed shards part (makes_on_all made) call found within =
    let one = mapped_some (on_shard (made_by made)) (range_with_len 0 shards) part call found in
    subst (λ (k : Option (List ℕ)). IsOnItsShard shards k call.shard) (sym (ap (λ (c : ShardCall). key_of c.call) (sym one.1) ∙ no_key made)) within

-- a call of a command is on its shard
pub on_shards : (shards part : ℕ) (command : Command) (found : Option ShardCall) → found ≡ slice_get (calls_of shards command) part → IfSome found (IsOnShard shards) → IfSome found (IsOnShards shards)
on_shards shards part command None is within = tt
on_shards shards part command (Some call) is within = record { own = by_deed shards part (deed_of command) call (sym is) within; within = within }
