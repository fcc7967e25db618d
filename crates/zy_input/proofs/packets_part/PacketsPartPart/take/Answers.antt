use Rattle.std.proofs.Common.{rules, ◌≡◌, take}
use Rattle.std.specs.Prelude.{Ok, Err}
use Rattle.zy_read.specs.declared.not_taken.NotTaken.TheVariants.{Fault}
use Rattle.zy_input.proofs.PacketLemmas.{packets_on, packets_faulty}
use Rattle.zy_input.proofs.packets_part.PacketsPartPart.take.Goals as goal

pub returns-in-Ok-clause-value : goal.returns-in-Ok-clause-value
returns-in-Ok-clause-value c port bytes stands goes_on =
    let told : c.feed_piece-taken.result.answer ≡ Ok tt = search rules in
    rw (← c.left.ensures.value)
    (packets_on port c.args.self.now c.feed_piece-taken.new.self bytes (take c.feed_piece-taken.result.taken c.left.result.now) c.feed_piece-taken.result.answer told stands c.feed_piece-taken.ensures.port
    c.feed_piece-taken.ensures.fed c.feed_piece-taken.ensures.exact)

pub returns-in-Err-Fault-clause-value : goal.returns-in-Err-Fault-clause-value
returns-in-Err-Fault-clause-value c port bytes stands goes_on more =
    let told : c.feed_piece-taken.result.answer ≡ Err (Fault c.in-Err-Fault.fault) = search rules in
    rw (← c.left.ensures.value)
    (packets_faulty port c.args.self.now bytes (take c.feed_piece-taken.result.taken c.left.result.now) more c.feed_piece-taken.result.answer c.in-Err-Fault.fault told stands c.feed_piece-taken.ensures.lasts)
