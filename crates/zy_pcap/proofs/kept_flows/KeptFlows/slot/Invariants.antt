use Rattle.std.proofs.Common.{◌≡◌, ◌-◌, ◌+◌, ◌*◌, ◌<◌}
use Rattle.zy_pcap.specs.Flow.{slot_from, slot_of}
use Rattle.zy_pcap.specs.Kept.{kept_keys}
use Rattle.zy_pcap.proofs.kept_flows.KeptFlows.slot.Given as goal

-- the numbers before this one are those of other flows
abbrev pub invariant-loop-count : goal.invariant-loop-count
invariant-loop-count l = record {
  below : l.group < 128;
  rest : slot_from (kept_keys l.self.flows.items) l.key (l.group + 128 * l.count) (32 - l.count) ≡ slot_of (kept_keys l.self.flows.items) l.key;
}
