use Rattle.std.proofs.Common.{◌≡◌, ◌+◌, ◌≤◌, length}
use Rattle.zy_home.specs.Offer.{Offers}
use Rattle.zy_home.proofs.link.offer_all.Given as goal

abbrev pub invariant-loop-inlet : goal.invariant-loop-inlet
invariant-loop-inlet l = record {
  ring : l.inlet.ring ≡ l.fn.inlet.ring;
  offers : Offers l.fn.inlet l.fn.waiting l.inlet l.waiting;
  room : length l.fn.inlet.sent + l.fn.inlet.free ≤ length l.inlet.sent + l.inlet.free;
}

abbrev pub decreases-loop-inlet : goal.decreases-loop-inlet
decreases-loop-inlet l = length l.waiting
