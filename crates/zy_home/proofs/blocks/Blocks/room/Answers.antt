use Rattle.std.proofs.Common.{List, length, arith, ap}
use Rattle.zy_conn.specs.Block.{Blocked}
use Rattle.zy_home.proofs.BlockLemmas.{length-blocks_in}
use Rattle.zy_home.proofs.blocks.Blocks.room.Goals as goal

pub returns : goal.returns
returns c =
    let long = length-blocks_in c.self.inside.slots.items in
    let same = ap (λ (l : List Blocked). length l) c.self.view_is in
    let size = c.len.ensures in record { value = omega arith }
