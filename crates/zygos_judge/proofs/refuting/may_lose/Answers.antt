use Rattle.std.proofs.Common.{sym, ◌∙◌}
use Rattle.zygos_judge.proofs.CallLemmas.{lasting_lost}
use Rattle.zygos_judge.proofs.refuting.may_lose.Goals as goal

pub returns : goal.returns
returns c = record {
  lost = λ count records outputs hold may.
      (c.has_exptime.ensures.exact count records hold).1
      (lasting_lost c.args.lasting.now c.args.rules count records outputs c.args.key.now c.if-rules.false (sym c.contains.ensures ∙ c.if-contains.false) may);
}
