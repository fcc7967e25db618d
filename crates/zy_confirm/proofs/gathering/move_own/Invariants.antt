use Rattle.std.proofs.Common.{◌≡◌, ◌-◌, length}
use Rattle.zy_confirm.specs.Gathering.{MovesOwn}
use Rattle.zy_confirm.proofs.gathering.move_own.Given as goal

abbrev pub invariant-loop : goal.invariant-loop
invariant-loop l = record {
  moved : MovesOwn l.shard l.shards l.fn.items l.fn.all l.items l.all;
  left : length l.items.entries ≡ length l.fn.items.entries - l.counter;
}
