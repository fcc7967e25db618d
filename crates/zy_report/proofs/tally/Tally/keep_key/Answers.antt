use Rattle.zy_report.proofs.TallyLemmas.{flushed}
use Rattle.zy_report.proofs.tally.Tally.keep_key.Goals as goal

pub returns-in-Flush-clause-ok : goal.returns-in-Flush-clause-ok
returns-in-Flush-clause-ok c = λ keys are. flushed keys c.args.call.now c.args.reply.now c.clear.new.self.keys c.in-Flush.is c.clear.ensures.empty
