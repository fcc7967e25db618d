use Rattle.std.proofs.Common.{◌∙◌, ◌%◌, sym, ap, arith}
use Rattle.zy_pcap.specs.Kept.{kept_keys}
use Rattle.zy_pcap.proofs.SlotLemmas.{slot_start, slot_next}
use Rattle.zy_pcap.proofs.kept_flows.KeptFlows.slot.Goals as goal

pub loop-count-init : goal.loop-count-init
loop-count-init c = record {
  below = omega arith;
  rest = slot_start (kept_keys c.args.self.now.flows.items) c.args.key.now (c.toeplitz-group.result % 128) (ap (λ h. h % 128) c.toeplitz-group.ensures.value);
}

pub loop-count-preserved : goal.loop-count-preserved
loop-count-preserved c = record {
  below = c.loop-count.invariant.below;
  rest = slot_next (kept_keys c.args.self.now.flows.items) c.args.key.now c.in-Some.other.now (c.toeplitz-group.result % 128) c.loop-count.count c.loop-count-test.true (sym c.in-Some.ensures.value) (sym c.eq.ensures ∙ c.if-eq.false) c.loop-count.invariant.rest;
}
