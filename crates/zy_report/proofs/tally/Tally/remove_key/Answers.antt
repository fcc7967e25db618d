use Rattle.zy_report.proofs.TallyLemmas.{without_key}
use Rattle.zy_report.proofs.tally.Tally.remove_key.Goals as goal

pub returns-clause-value : goal.returns-clause-value
returns-clause-value c =
    rw (← c.self.view_is)
    (λ keys are. without_key c.self.inside.keys.keys c.remove.new.self.keys c.args.key keys are c.remove.result c.remove.ensures.updates.0 c.remove.ensures.test c.remove.ensures.len)
