use Rattle.std.proofs.Common.{arith}
use Rattle.zy_control.proofs.MoveLemmas.{watcher_enters}
use Rattle.zy_control.proofs.control.Control.watch.Goals as goal

pub load_new_seat-found-requires : goal.load_new_seat-found-requires
load_new_seat-found-requires c =
    let wide = c.self.invariant.0 in
    (omega arith, watcher_enters c.self.inside.table.shared.key c.self.inside.table.shared.table_id.slots)
