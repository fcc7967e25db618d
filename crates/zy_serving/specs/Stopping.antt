-- Why driving the cores of a capture stopped. No public clause cites this module.
use Rattle.std.specs.Prelude.{Option, Some, None}
use Rattle.zy_capture.specs.declared.capture_fault.CaptureFault.{CaptureFault}
use Rattle.zy_read.specs.declared.stop.Stop.{Stop}
use Rattle.zy_read.specs.declared.stop.Stop.TheVariants as Stops
use Rattle.zy_rounds.specs.declared.driven.Driven.{Driven}
use Rattle.zy_rounds.specs.declared.driven.Driven.TheVariants.{Settled, Broken, NoMemory}

-- the cause of a run that did not settle: that for which its feeder broke, and otherwise that an allocation failed
abbrev pub stop_after : Driven → Option (Stop CaptureFault) → Stop CaptureFault
stop_after (Settled cores) stop = Stops.NoMemory
stop_after (Broken cores) (Some stop) = stop
stop_after (Broken cores) None = Stops.NoMemory
stop_after (NoMemory cores) stop = Stops.NoMemory
