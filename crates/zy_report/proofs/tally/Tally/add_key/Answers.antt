use Rattle.zy_report.proofs.TallyLemmas.{with_key}
use Rattle.zy_report.proofs.tally.Tally.add_key.Goals as goal
use Rattle.zy_report.proofs.tally.Tally.add_key.Goals.{in-Ok, in-Err}

pub returns-clause-ok : goal.returns-clause-ok
returns-clause-ok c = elim c.match-insert.branch [
  | in-Ok w ↦ rw (w.result-is, ← c.self.view_is) (λ keys are. with_key c.self.inside.keys.keys c.insert.new.self.keys c.args.key keys are w.in-Ok.field-0 w.in-Ok.ensures.updates.0 w.in-Ok.ensures.added w.in-Ok.ensures.len)
  | in-Err w ↦ rw w.result-is tt
]
