use Rattle.std.proofs.Common.{rules, arith}
use Rattle.zy_shuffle.proofs.GiveLemmas.{splits_as}
use Rattle.zy_shuffle.proofs.ring.Ring.split.Goals as goal

pub split_seat-requires : goal.split_seat-requires
split_seat-requires g c = let i = c.self.invariant in (search rules, omega arith, splits_as g.T.Marked.mark g.T.Marked.label _ _ _ c.home.inside.seat.me c.home.invariant)
