use Rattle.std.proofs.Common.{length}
use Rattle.zy_core.proofs.NapLemmas.{naps}
use Rattle.zy_core.proofs.logical_core.Core.nap.Goals as goal

pub returns-clause-nap : goal.returns-clause-nap
returns-clause-nap g c =
    naps (length c.args.shared.now.rings) c.args.self.now c.set_announcement.new.self c.rest_if_idle-nap.new.self c.set_announcement-2.new.self c.args.pass.now
    c.rest_if_idle-nap.new.pass c.set_announcement.new.self.control.trace.sleepers.value c.set_announcement-2.new.self.control.trace.sleepers.value c.rest_if_idle-nap.result
    c.set_announcement.ensures.value c.set_announcement.ensures.role c.set_announcement-2.ensures.value c.rest_if_idle-nap.ensures.nap c.rest_if_idle-nap.ensures.rested
