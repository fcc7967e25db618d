use Rattle.std.proofs.Common.{◌≡◌, [], ap, sym, subst, arith}
use Rattle.std.specs.Prelude.{false}
use Rattle.mc_shard.specs.Places.{Held, AreEmpty}
use Rattle.mc_shard.proofs.LineLemmas.{all_pushed}
use Rattle.mc_shard.proofs.places.growing.empty_lines.Goals as goal

pub loop-preserved : goal.loop-preserved
loop-preserved c = record {
  empty = subst AreEmpty (sym c.push_reserved.ensures.items)
      (all_pushed (λ (line : Held). (line.slots ≡ []) × (line.marked ≡ false)) c.loop.lines.items c.new.result c.loop.invariant.empty
      (ap (λ (line : Held). line.slots) c.new.ensures.value, ap (λ (line : Held). line.marked) c.new.ensures.value));
  count = omega (arith, c.push_reserved.ensures.len, c.loop.invariant.count);
  room = omega (arith, c.push_reserved.ensures.capacity, c.loop.invariant.room);
}
