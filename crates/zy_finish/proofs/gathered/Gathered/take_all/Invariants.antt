use Rattle.std.proofs.Common.{◌≡◌, length}
use Rattle.zy_finish.specs.Rest.{AreTaken, HasGathered}
use Rattle.zy_finish.proofs.gathered.Gathered.take_all.Given as goal

-- the connections below this one were taken from their homes
abbrev pub invariant-loop-conn : goal.invariant-loop-conn
invariant-loop-conn l = record {
  cores : length l.rests.items ≡ length l.fn.rests.items;
  table : l.self.root.table ≡ l.fn.self.root.table;
  given : l.self.root.given ≡ l.fn.self.root.given;
  taken : AreTaken l.fn.rests.items l.conn l.rests.items;
  gathered : HasGathered l.fn.self.outputs.version l.fn.rests.items l.conn l.self;
}
