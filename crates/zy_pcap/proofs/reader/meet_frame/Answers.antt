use Rattle.std.proofs.Common.{◌∙◌, sym, refl}
use Rattle.zy_pcap.proofs.ReadLemmas.{frame_taken}
use Rattle.zy_pcap.proofs.reader.meet_frame.Goals as goal

pub returns-in-Taken-clause-frame : goal.returns-in-Taken-clause-frame
returns-in-Taken-clause-frame c =
    rw (← c.begun-at.ensures.value, ← c.frame-frame.ensures.value)
    (frame_taken c.args.port c.begun-at.result c.frame-frame.result.now _ c.in-Taken.segment c.args.kept.now.flows.items c.meet.new.self.flows.items c.meet.result (sym c.judge.ensures.value ∙ c.in-Taken.is) refl c.meet.ensures.value)
