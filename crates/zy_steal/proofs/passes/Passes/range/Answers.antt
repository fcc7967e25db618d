use Rattle.std.proofs.Common.{◌∙◌, subst, arith}
use Rattle.zy_steal.specs.Range.{MissesAt}
use Rattle.zy_steal.proofs.RangeLemmas.{ranges_on}
use Rattle.zy_steal.proofs.passes.Passes.range.Goals as goal

pub loop-at-preserved : goal.loop-at-preserved
loop-at-preserved g c =
    let i = c.loop-at.invariant in
    let limits = i.limits in
    let more = c.loop-at-test.true in record {
      core = c.look.ensures.kept ∙ i.core;
      limits = (omega arith, omega arith);
      ranges = ranges_on c.args.self.now.core c.args.self.now.items c.loop-at.self.items c.look.new.self.items c.args.looks.now c.loop-at.looks c.look.new.looks c.args.from c.loop-at.at limits.0 i.ranges
          (subst (λ k. MissesAt k c.loop-at.self.items c.look.new.self.items c.loop-at.looks c.look.new.looks c.loop-at.at) i.core c.in-None.ensures.value);
    }
