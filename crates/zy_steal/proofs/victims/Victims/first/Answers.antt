use Rattle.std.proofs.Common.{arith}
use Rattle.zy_steal.proofs.TurnLemmas.{first_is}
use Rattle.zy_steal.proofs.victims.Victims.first.Goals as goal

pub returns : goal.returns
returns c = rw (← c.self.view_is) (record {
  value = ((let some = c.if-others-eq0.false in omega arith), λ _. first_is c.self.inside.core c.self.inside.calls _);
})
