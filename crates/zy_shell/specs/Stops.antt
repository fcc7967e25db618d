-- How reading an input stops. No public clause cites this module.
use Rattle.std.specs.Prelude.{⊤}
use Rattle.zy_input.specs.declared.stop.Refusal.{Refusal}
use Rattle.zy_read.specs.declared.stop.Stop.{Stop}
use Rattle.zy_read.specs.declared.stop.Stop.TheVariants as Stops
use Rattle.zy_read.specs.Seen.{Side, HasRisen}
use Rattle.zy_shell.specs.Input.{Input, IsRefusedFor}

-- the input was read no further, for its cause: it is rejected for this fault, or a read failed
abbrev pub StopsAs : Input → Side → Stop Refusal → Type 0
StopsAs input source (Stops.Refused refusal) = IsRefusedFor input source.before refusal
StopsAs input source Stops.ReadFault = HasRisen source
StopsAs input source Stops.NoMemory = ⊤
