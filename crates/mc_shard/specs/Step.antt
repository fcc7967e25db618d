-- The steps that the code computes, as outcomes of the table of calls. No public clause cites this module.
use Rattle.std.specs.Prelude.{◌≡◌, ℕ, List, Option, None, Some, Result, IfOk}
use Rattle.mc_calls.specs.Shard.{Effect, Outcome, keeps, stores, removes, empties}
use Rattle.mc_shard.specs.declared.change.Change.{Change}
use Rattle.mc_shard.specs.declared.change.Change.TheVariants.{Nothing, Put, Remove, Clear}
use Rattle.mc_shard.specs.declared.change.Step.{Step}

-- the effect of a change made by a call on this key, or by a call without a key
abbrev pub effect_in : Option (List ℕ) → Change → Effect
effect_in key Nothing = keeps
effect_in None (Put flags value) = keeps
effect_in (Some key) (Put flags value) = stores key flags value
effect_in None Remove = keeps
effect_in (Some key) Remove = removes key
effect_in key Clear = empties

-- the outcome of a step by such a call
abbrev pub outcome_in : Option (List ℕ) → Step → Outcome
outcome_in key step = record { reply = step.reply; effect = effect_in key step.change }

-- a step that was not refused memory is this outcome of the table
abbrev pub Gives : {E : Type 0} → Option (List ℕ) → Result Step E → Outcome → Type 0
Gives key result outcome = IfOk result (λ step. outcome_in key step ≡ outcome)
