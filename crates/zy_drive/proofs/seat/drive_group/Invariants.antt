use Rattle.std.proofs.Common.{◌≡◌}
use Rattle.zy_core.specs.Cores.{identities}
use Rattle.zy_rounds.specs.Resting.{CanRest}
use Rattle.zy_drive.proofs.seat.drive_group.Given as goal

abbrev pub invariant-loop : goal.invariant-loop
invariant-loop g l =
    (goal.iterator-loop g).can_next l.iterator' × (goal.iterator-loop g).is_finite l.iterator'
    × (identities l.group.cores ≡ identities l.fn.group.cores)
    × (l.watch.table ≡ l.fn.driving.shared.now.control.id)
    × CanRest l.fn.driving.bells.now (identities l.fn.group.cores) l.rester
