use Rattle.std.proofs.Common.{refl}
use Rattle.zy_capture.specs.Capture.{spelling}
use Rattle.zy_gen.proofs.making.generate.Goals as goal

pub returns-in-Ok : goal.returns-in-Ok
unfolding spelling
returns-in-Ok c = record { value = rw (c.in-Ok.ensures.ok, c.new-2.ensures.value, c.new.ensures, c.from.ensures) refl }
