-- The run of one connection that is alone.
use Rattle.zy_run.specs.Serial.{made}
use Rattle.std.specs.Prelude.{ℕ, List}
use Rattle.mc_calls.specs.declared.entry.Entry.{Entry}
use Rattle.mc_parse.specs.declared.command.Command.{Command}
use Rattle.mc_parse.specs.Calls.{due}

-- the entries of a connection that has the shards to itself
abbrev pub alone : ℕ → ℕ → List Command → List Entry
alone shards conn commands = made shards (due shards conn commands)
