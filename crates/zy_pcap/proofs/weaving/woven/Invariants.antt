use Rattle.zy_pcap.specs.Held.{woven_at}
use Rattle.zy_pcap.proofs.WeaveLemmas.{Weaves}
use Rattle.zy_pcap.proofs.weaving.woven.Given as goal

-- the row has what is there, and these runs are left
abbrev pub invariant-loop-begin : goal.invariant-loop-begin
invariant-loop-begin l = Weaves (woven_at l.fn.runs l.fn.bytes l.fn.from) l.fn.from l.fn.limit l.fn.bytes l.woven.items l.begin-iterator
