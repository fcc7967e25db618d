use Rattle.std.proofs.Common.{arith}
use Rattle.zy_confirm.proofs.TimingLemmas.{unended_by}
use Rattle.zy_confirm.proofs.timing.is_unended.Goals as goal

pub returns : goal.returns
returns c = record {
  unended = λ yes records conn session index answered are same within ended.
      unended_by records conn session c.args.marks.now c.args.before c.args.moment c.moment_at.result c.moment_at.ensures.value (c.is_before.ensures.before yes) are within (omega (arith, same, ended));
}
