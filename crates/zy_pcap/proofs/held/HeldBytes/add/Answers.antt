use Rattle.std.proofs.Common.{arith}
use Rattle.zy_pcap.proofs.HeldLemmas.{held_already}
use Rattle.zy_pcap.proofs.held.HeldBytes.add.Goals as goal

pub returns-then-begin-bytes-clause-ok : goal.returns-then-begin-bytes-clause-ok
returns-then-begin-bytes-clause-ok c = held_already c.args.self.now c.args.bytes.now c.args.from (omega arith)
