use Rattle.std.proofs.Common.{◌≡◌, ◌∙◌, refl, ap, subst}
use Rattle.std.specs.Prelude.{None}
use Rattle.std.proofs.lemmas.Option.{slice_get-get_or}
use Rattle.zy_pcap.specs.declared.kept_flow.KeptFlow.{KeptFlow}
use Rattle.zy_pcap.specs.Packet.{packet_with}
use Rattle.zy_pcap.specs.Kept.{MeetsSessions}
use Rattle.zy_pcap.proofs.kept_flows.KeptFlows.go_on.Goals as goal

pub returns-in-Some-clause-value : goal.returns-in-Some-clause-value
returns-in-Some-clause-value c = λ flow is.
    let one = slice_get-get_or c.args.self.now.flows.items c.args.number None c.requires.within in
    let two = slice_get-get_or c.args.self.now.flows.items c.args.number c.index_mut.result.now c.requires.within in
    let same : c.in-Some.flow ≡ flow = cc in (
      c.meet.new.self,
      (
        refl,
        c.meet.ensures.key ∙ ap (λ (f : KeptFlow). f.key) same,
        subst (λ (f : KeptFlow). MeetsSessions (packet_with c.args.segment.now c.args.payload.now) c.args.at f.sessions.items c.meet.new.self.sessions.items c.meet.result) same c.meet.ensures.value,
      ),
    )
