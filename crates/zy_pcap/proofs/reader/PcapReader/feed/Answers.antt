use Rattle.zy_pcap.proofs.ReadLemmas.{fed, told, lasts}
use Rattle.zy_pcap.proofs.reader.PcapReader.feed.Goals as goal

pub returns-clause-fed : goal.returns-clause-fed
returns-clause-fed c = fed c.args.self.now c.step.new.self c.args.byte c.step.result c.step.ensures.port c.step.ensures.value

pub returns-clause-exact : goal.returns-clause-exact
returns-clause-exact c = told c.args.self.now c.step.new.self c.args.byte c.step.result c.step.ensures.value

pub returns-clause-lasts : goal.returns-clause-lasts
returns-clause-lasts c = lasts c.args.self.now c.step.new.self c.args.byte c.step.result c.step.ensures.value
