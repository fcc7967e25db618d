-- The entries of the serial run are in order.
use Rattle.std.proofs.Common.{ℕ, List, [], ◌∷◌, arith}
use Rattle.std.specs.Prelude.{None}
use Rattle.mc_calls.specs.Shard.{empty_state}
use Rattle.mc_calls.specs.History.{states_after}
use Rattle.mc_calls.specs.Order.{IsOrdered}
use Rattle.mc_parse.specs.declared.command.Command.{Command}
use Rattle.mc_parse.specs.Calls.{Due, due}
use Rattle.zy_run.specs.Serial.{made_entry, made, all_due, serial}
use Rattle.run_laws.proofs.AloneLemmas.{ordered-answered}

made_ordered : (shards : ℕ) (dues : List Due) → IsOrdered None (made shards dues)
made_ordered shards [] = tt
made_ordered shards (due ∷ dues) =
    (tt, ordered-answered shards (states_after shards (λ number. empty_state) (made_entry (λ number. empty_state) 1 due)) 2 (made_entry (λ number. empty_state) 1 due) dues (omega arith))

-- its entries are in the order of their stamps
pub serial_ordered : (shards count : ℕ) (commands : ℕ → List Command) → IsOrdered None (serial shards count commands)
serial_ordered shards count commands = made_ordered shards (all_due shards count commands)
