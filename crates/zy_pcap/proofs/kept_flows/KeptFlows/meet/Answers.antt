use Rattle.std.proofs.Common.{◌∙◌, sym}
use Rattle.zy_pcap.specs.Packet.{packet_with}
use Rattle.zy_pcap.proofs.FlowLemmas.{flows_known, flows_new, flows_full, key_there}
use Rattle.zy_pcap.proofs.kept_flows.KeptFlows.meet.Goals as goal

pub returns-in-Known-clause-value : goal.returns-in-Known-clause-value
returns-in-Known-clause-value c =
    let there = key_there c.args.self.now.flows.items c.in-Known.number c.args.segment.now.flow c.in-Known.ensures.holder in
    flows_known c.args.self.now.flows.items c.go_on.new.self.flows.items there.0 (packet_with c.args.segment.now c.args.payload.now) c.in-Known.number c.args.at c.go_on.result
    (sym c.slot.ensures.value ∙ c.in-Known.is) there.1.0 there.1.1 there.1.2 c.go_on.ensures.value

pub returns-in-New-clause-value : goal.returns-in-New-clause-value
returns-in-New-clause-value c =
    flows_new c.args.self.now.flows.items c.begin.new.self.flows.items (packet_with c.args.segment.now c.args.payload.now) c.in-New.number c.args.at c.begin.result (sym c.slot.ensures.value ∙ c.in-New.is) c.begin.ensures.value

pub returns-in-Full-clause-value : goal.returns-in-Full-clause-value
returns-in-Full-clause-value c = flows_full c.args.self.now.flows.items (packet_with c.args.segment.now c.args.payload.now) c.args.at (sym c.slot.ensures.value ∙ c.in-Full.is)
