use Rattle.std.proofs.Common.{◌≡◌, ◌≤◌, ◌+◌, ◌++◌, replicate, vec_capacity}
use Rattle.std.specs.Prelude.{None}
use Rattle.zy_pcap.proofs.kept_flows.KeptFlows.put_last.Given as goal

-- free numbers were added
abbrev pub invariant-loop : goal.invariant-loop
invariant-loop l = record {
  added : l.self.flows.items ≡ l.initial.self.flows.items ++ replicate l.counter None;
  room : l.number + 1 ≤ vec_capacity l.self.flows;
}
