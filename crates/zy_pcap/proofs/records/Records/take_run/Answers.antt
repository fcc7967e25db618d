use Rattle.std.proofs.Common.{rules, take}
use Rattle.zy_pcap.proofs.FrameLemmas.{run_fed}
use Rattle.zy_pcap.proofs.records.Records.take_run.Goals as goal

pub returns-in-Frame-clause-fed : goal.returns-in-Frame-clause-fed
returns-in-Frame-clause-fed c =
    run_fed c.args.self.now c.append.new.self (take c.min-run.result c.args.bytes.now) c.in-Frame.others (search rules) (search rules) (search rules) (search rules) c.append.ensures.value
