use Rattle.std.proofs.Common.{refl}
use Rattle.zy_pcap.specs.declared.held.HeldBytes.{HeldBytes}
use Rattle.zy_pcap.proofs.HeldLemmas.{held_popped}
use Rattle.zy_pcap.proofs.held.HeldBytes.forget_first.Goals as goal

pub returns-then-is_over-clause-same : goal.returns-then-is_over-clause-same
returns-then-is_over-clause-same c =
    let new : HeldBytes = record { front = c.args.self.now.front; runs = c.pop_first.new.self } in
    held_popped c.args.self.now new c.pop_first.result (c.is_over.ensures.value c.if-is_over.true) c.pop_first.ensures.variant c.pop_first.ensures.removal refl
