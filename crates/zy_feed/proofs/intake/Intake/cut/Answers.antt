use Rattle.zy_read.specs.declared.stop.Stop.TheVariants.{Refused}
use Rattle.zy_capture.specs.declared.capture_fault.CaptureFault.TheVariants.{TooLong}
use Rattle.zy_feed.proofs.ReadLemmas.{too_long}
use Rattle.zy_feed.proofs.intake.Intake.cut.Goals as goal

pub returns-clause-value : goal.returns-clause-value
returns-clause-value g c first records bytes has =
    let read = c.loop.invariant.read first records bytes has in
    too_long g.S.Source.rest g.S.Source.faults first c.loop.source c.loop.self records bytes read.0 c.loop.counter (Refused TooLong) c.loop-test.false read.1.0 read.1.1
