use Rattle.std.proofs.Common.{refl, ap, ◌∙◌}
use Rattle.zy_conn.specs.Block.{label_in}
use Rattle.zy_home.proofs.place.settle_at.Goals as goal

pub returns-in-Err-clause-err : goal.returns-in-Err-clause-err
returns-in-Err-clause-err g c = record {
  block = c.give_room.new.self;
  label = ap label_in c.give_room.ensures.same ∙ c.settle-settled.ensures.label ∙ c.requires.due.label;
  pass_is = refl;
  slot_is = c.put-in-Err.ensures.value;
}
