use Rattle.std.proofs.Common.{rules, ◌≡◌, Ok, Err, Some, None}
use Rattle.zy_feed.specs.declared.stage.Stage.TheVariants as Stages
use Rattle.zy_feed.specs.Feeding.{feeding}
use Rattle.zy_feed.specs.Leads.{leads_on}
use Rattle.zy_feed.proofs.FeedLemmas.{cut_leads, cut_ends, cut_stops}
use Rattle.zy_feed.proofs.feeder.CaptureFeeder.cut.Goals as goal

pub returns-in-Ok-Some-clause-leads : goal.returns-in-Ok-Some-clause-leads
returns-in-Ok-Some-clause-leads g c =
    let is : c.cut.result ≡ Ok (Some c.in-Ok-Some.record) = search rules in
    leads_on g.S.Source.rest g.S.Source.faults
    (feeding c.args.self.now.source.now c.args.self.now.intake c.args.self.now.inlets Stages.Cutting)
    (feeding c.cut.new.source c.cut.new.self c.args.self.now.inlets (Stages.Waiting c.item_of.result))
    (feeding c.deliver.new.self.source.now c.deliver.new.self.intake c.deliver.new.self.inlets c.deliver.new.self.stage)
    (cut_leads g.S.Source.rest g.S.Source.faults c.args.self.now.source.now c.cut.new.source c.args.self.now.intake c.cut.new.self c.args.self.now.inlets c.cut.result c.in-Ok-Some.record c.item_of.result is c.item_of.ensures.value c.cut.ensures.value)
    c.deliver.ensures.leads

pub returns-in-Ok-None-clause-leads : goal.returns-in-Ok-None-clause-leads
returns-in-Ok-None-clause-leads g c =
    let is : c.cut.result ≡ Ok None = search rules in
    leads_on g.S.Source.rest g.S.Source.faults
    (feeding c.args.self.now.source.now c.args.self.now.intake c.args.self.now.inlets Stages.Cutting)
    (feeding c.cut.new.source c.cut.new.self c.args.self.now.inlets (Stages.Ending 0))
    (feeding c.end.new.self.source.now c.end.new.self.intake c.end.new.self.inlets c.end.new.self.stage)
    (cut_ends g.S.Source.rest g.S.Source.faults c.args.self.now.source.now c.cut.new.source c.args.self.now.intake c.cut.new.self c.args.self.now.inlets c.cut.result is c.cut.ensures.value)
    c.end.ensures.leads

pub returns-in-Err-clause-leads : goal.returns-in-Err-clause-leads
returns-in-Err-clause-leads g c =
    let is : c.cut.result ≡ Err c.in-Err.stop = search rules in
    cut_stops g.S.Source.rest g.S.Source.faults c.args.self.now.source.now c.cut.new.source c.args.self.now.intake c.cut.new.self c.args.self.now.inlets c.cut.result c.in-Err.stop is c.cut.ensures.count c.cut.ensures.value
