use Rattle.std.proofs.Common.{◌≡◌, ◌≤◌, [], false, length, true}
use Rattle.zy_shuffle.specs.Pass.{Held}
use Rattle.zy_conn.specs.Block.{Blocked}
use Rattle.zy_home.specs.Home.{IsSoundBut, IsSoundHome}
use Rattle.zy_home.specs.Links.{AreOfCore, SameConns, homed}
use Rattle.zy_home.specs.Receiving.{CutsAll}
use Rattle.zy_home.proofs.links.Links.cut_all.Given as goal

abbrev pub invariant-loop-count : goal.invariant-loop-count
invariant-loop-count l = record {
  whole : (pass : Held Blocked) → CutsAll (homed pass l.slots.items l.fn.self) l.fn.outlet.taken (homed pass l.slots.items l.self) l.outlet.taken l.count;
  left : (pass : Held Blocked) → IsSoundHome (homed pass l.slots.items l.fn.self) → IsSoundBut l.self.touched.items (homed pass l.slots.items l.self);
  room : length l.self.touched.items ≤ l.count;
  same : SameConns l.fn.self l.self;
  own : AreOfCore l.self;
  still : l.fn.self.ended ≡ true → (l.self ≡ record l.fn.self { touched = l.self.touched }) × (l.self.touched.items ≡ []);
  live : l.self.refused ≡ false;
  ring : l.outlet.ring ≡ l.fn.outlet.ring;
}
