use Rattle.std.proofs.Common.{subst}
use Rattle.zy_input.specs.Keeping.{KeepsRecords}
use Rattle.zy_input.specs.Kinds.{replies_keeping}
use Rattle.zy_input.proofs.OrderLemmas.{outputs_made, may_add, output_kept}
use Rattle.zy_input.proofs.replies_part.OutputsKeep.add.Goals as goal

pub add-requires : goal.add-requires
add-requires c = record { next = may_add c.requires.adding.0 c.args.made.now c.args.item c.in-Some.outputs c.requires.adding.1 c.in-Some.is }

pub unreachable-requires : goal.unreachable-requires
unreachable-requires c = absurd (outputs_made c.requires.adding.0 c.args.made.now c.args.item c.requires.adding.1 c.in-None.is)

pub returns-in-Ok : goal.returns-in-Ok
returns-in-Ok c = record {
  value = λ given number kept.
      output_kept c.requires.adding.0 c.args.made.now c.in-Some.outputs c.add.new.self c.args.item given number c.requires.adding.1 c.in-Some.is (subst (λ o. KeepsRecords replies_keeping o number given) c.in-Some.is kept) c.in-Ok.ensures.ok;
}
