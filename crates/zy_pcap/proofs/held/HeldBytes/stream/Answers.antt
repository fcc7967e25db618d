use Rattle.std.proofs.Common.{sym, ◌∙◌}
use Rattle.zy_pcap.proofs.HeldLemmas.{held_stream}
use Rattle.zy_pcap.proofs.held.HeldBytes.stream.Goals as goal

pub returns : goal.returns
returns c = record { value = c.as_slice.ensures.value ∙ sym (held_stream c.args.self.now c.requires.whole) }
