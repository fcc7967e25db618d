use Rattle.zy_read.proofs.Feeding.{fed, told, lasts}
use Rattle.zy_read.proofs.reads.feed.Goals as goal

pub returns-clause-fed : goal.returns-clause-fed
returns-clause-fed g c = fed g.R.Reads.format g.R.Reads.wants c.args.reader.now c.step.new.self c.args.byte c.step.result c.step.ensures.value

pub returns-clause-exact : goal.returns-clause-exact
returns-clause-exact g c = told g.R.Reads.format g.R.Reads.wants c.args.reader.now c.step.new.self c.args.byte c.step.result c.step.ensures.value

pub returns-clause-lasts : goal.returns-clause-lasts
returns-clause-lasts g c = lasts g.R.Reads.format g.met.R.Reads.lasting g.R.Reads.wants c.args.reader.now c.step.new.self c.args.byte c.step.result c.step.ensures.value
