use Rattle.std.proofs.Common.{◌≤◌, length, refl, arith}
use Rattle.zy_feed.proofs.FeedLemmas.{end_offered, all_ended}
use Rattle.zy_feed.proofs.feeder.CaptureFeeder.end.Goals as goal

pub returns-then-core-count-clause-leads : goal.returns-then-core-count-clause-leads
returns-then-core-count-clause-leads g c =
    let last : length c.args.self.now.inlets ≤ c.args.core = omega (arith, c.if-core-count.true, c.count.ensures.value) in
    all_ended g.S.Source.rest g.S.Source.faults c.args.self.now.source.now c.args.self.now.intake c.args.self.now.inlets c.args.core last

pub returns-then-offer_end-clause-leads : goal.returns-then-offer_end-clause-leads
returns-then-offer_end-clause-leads g c =
    end_offered g.S.Source.rest g.S.Source.faults c.args.self.now.source.now c.args.self.now.intake c.args.self.now.inlets c.offer_end.new.self c.args.core (c.if-offer_end.ensures.ok refl)
