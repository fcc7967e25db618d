use Rattle.std.proofs.Common.{◌≡◌, drop}
use Rattle.zy_home.specs.Home.{IsSoundBut, SameFor}
use Rattle.zy_home.specs.Links.{homed}
use Rattle.zy_home.specs.Receiving.{SettlesOn}
use Rattle.zy_home.proofs.links.Links.settle_all.Given as goal

abbrev pub invariant-loop-i : goal.invariant-loop-i
invariant-loop-i l = record {
  on : SettlesOn (homed l.fn.pass l.fn.slots.items l.fn.self) (homed l.pass l.slots.items l.self);
  left : IsSoundBut (drop l.i l.fn.self.touched.items) (homed l.pass l.slots.items l.self);
  same : SameFor l.i (homed l.fn.pass l.fn.slots.items l.fn.self) (homed l.pass l.slots.items l.self);
  kept : (l.self.touched ≡ l.fn.self.touched) × (l.self.refused ≡ l.fn.self.refused);
  still : l.i ≡ 0 → (l.self ≡ l.fn.self) × (l.pass ≡ l.fn.pass) × (l.slots.items ≡ l.fn.slots.items);
}
