use Rattle.std.proofs.Common.{rules, ◌≡◌, take}
use Rattle.std.specs.Prelude.{Err}
use Rattle.zy_read.specs.declared.not_taken.NotTaken.TheVariants.{Fault}
use Rattle.zy_input.proofs.ItemsLemmas.{fault_in_piece}
use Rattle.zy_input.proofs.items_part.ItemsPartPart.take.Goals as goal

pub returns-in-Err-Fault-clause-value : goal.returns-in-Err-Fault-clause-value
returns-in-Err-Fault-clause-value c setting bytes stands goes_on more =
    let told : c.feed_piece-taken.result.answer ≡ Err (Fault c.in-Err-Fault.fault) = search rules in
    rw (← c.left.ensures.value)
    (fault_in_piece c.args.self.now c.feed_piece-taken.new.self bytes (take c.feed_piece-taken.result.taken c.left.result.now) more c.feed_piece-taken.result.answer c.in-Err-Fault.fault told stands goes_on
    c.feed_piece-taken.ensures.fed c.feed_piece-taken.ensures.exact)
