use Rattle.std.proofs.Common.{take, subst}
use Rattle.zy_pcap.specs.Standing.{PcapReading, FeedsFile}
use Rattle.zy_pcap.proofs.ReadLemmas.{run_stands}
use Rattle.zy_pcap.proofs.reader.PcapReader.take_run.Goals as goal

pub returns-clause-fed : goal.returns-clause-fed
returns-clause-fed c =
    let new : PcapReading = record { port = c.self.inside.port; place = c.take_run.new.self; kept = c.self.inside.kept.flows.items } in
    subst (λ (r : PcapReading). FeedsFile r new (take c.take_run.result c.args.bytes.now)) c.self.view_is
    (run_stands c.self.inside.port c.self.inside.records c.take_run.new.self c.self.inside.kept.flows.items (take c.take_run.result c.args.bytes.now) c.take_run.ensures.fed)
