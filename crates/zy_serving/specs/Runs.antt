-- How serving a capture ends, before anything is written.
use Rattle.std.specs.Prelude.{◌≡◌, ℕ, List, Result, Ok, Err, ⊤, IfSome}
use Rattle.zy_capture.specs.declared.capture_fault.CaptureFault.{CaptureFault}
use Rattle.zy_capture.specs.Verdict.{verdict}
use Rattle.zy_capture.specs.Verdict.Verdict.{Bad}
use Rattle.zy_read.specs.declared.stop.Stop.{Stop}
use Rattle.zy_read.specs.declared.stop.Stop.TheVariants as Stops
use Rattle.zy_finish.specs.declared.finishing.Finished.{Finished}
use Rattle.zy_command_line.specs.declared.request.Run.{Run}
use Rattle.zy_read.specs.Seen.{Side, HasRisen, OfGiven}
use Rattle.zy_serving.specs.Headline.{IsServed}

-- a call stopped for its cause: the bytes have this fault, if they are reported, or a read failed
abbrev pub StopsFor : {F : Type 0} → (F → List ℕ → Type 0) → Side → Stop F → Type 0
StopsFor HasFault source (Stops.Refused fault) = IfSome source.before (HasFault fault)
StopsFor HasFault source Stops.ReadFault = HasRisen source
StopsFor HasFault source Stops.NoMemory = ⊤

-- a capture was served, or it stopped
abbrev pub RunsTo : Run → Side → Result Finished (Stop CaptureFault) → Type 0
RunsTo run source (Ok done) =
    OfGiven source (λ bytes. IsServed run bytes done.journal done.outputs)
RunsTo run source (Err stop) = StopsFor (λ fault bytes. verdict bytes ≡ Bad fault) source stop
