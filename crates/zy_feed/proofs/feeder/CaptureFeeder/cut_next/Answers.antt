use Rattle.std.proofs.Common.{◌≡◌, Ok, Some, length, refl}
use Rattle.zy_capture.specs.declared.record.Record.{Record}
use Rattle.zy_capture.specs.declared.record.Record.TheVariants as Kinds
use Rattle.zy_feed.specs.declared.stage.Stage.TheVariants as Stages
use Rattle.zy_feed.specs.Feeding.{feeding}
use Rattle.zy_feed.specs.Leads.{leads_on}
use Rattle.zy_feed.proofs.FeedLemmas.{cut_leads, held_cuts}
use Rattle.zy_feed.proofs.feeder.CaptureFeeder.cut_next.Goals as goal

pub returns-in-Some-clause-leads : goal.returns-in-Some-clause-leads
returns-in-Some-clause-leads g c =
    let now = c.args.self.now.source.now in
    let cut : Record = Kinds.Segment c.in-Some.segment in
    leads_on g.S.Source.rest g.S.Source.faults
    (feeding now c.args.self.now.intake c.args.self.now.inlets Stages.Cutting)
    (feeding now c.cut_held.new.self c.args.self.now.inlets (Stages.Waiting c.item_of.result))
    (feeding c.deliver.new.self.source.now c.deliver.new.self.intake c.deliver.new.self.inlets c.deliver.new.self.stage)
    (cut_leads g.S.Source.rest g.S.Source.faults now now c.args.self.now.intake c.cut_held.new.self c.args.self.now.inlets (Ok (Some cut)) cut c.item_of.result refl c.item_of.ensures.value
    (λ first records bytes has. held_cuts g.S.Source.rest g.S.Source.faults first now c.args.self.now.intake c.cut_held.new.self records bytes (length c.args.self.now.intake.left) cut c.in-Some.ensures.some has))
    c.deliver.ensures.leads
