use Rattle.std.proofs.Common.{sym, subst}
use Rattle.zy_feed.specs.declared.stage.Stage.{Stage}
use Rattle.zy_feed.specs.declared.stage.Stage.TheVariants as Stages
use Rattle.zy_feed.specs.Feeding.{feeding, LeadsTo}
use Rattle.zy_feed.proofs.FeedLemmas.{delivered}
use Rattle.zy_feed.proofs.feeder.CaptureFeeder.deliver.Goals as goal

pub returns-in-None-clause-leads : goal.returns-in-None-clause-leads
returns-in-None-clause-leads g c =
    subst (λ (s : Stage). LeadsTo g.S.Source.rest g.S.Source.faults (feeding c.args.self.now.source.now c.args.self.now.intake c.args.self.now.inlets (Stages.Waiting c.args.item)) (feeding c.args.self.now.source.now c.args.self.now.intake c.deliver.new.self s))
    (sym c.requires.cutting)
    (delivered g.S.Source.rest g.S.Source.faults c.args.self.now.source.now c.args.self.now.intake c.args.self.now.inlets c.deliver.new.self c.args.item c.in-None.ensures.ok)
