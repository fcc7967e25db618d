use Rattle.std.proofs.Common.{◌∙◌}
use Rattle.zy_journal.proofs.WalkLemmas.{first_before}
use Rattle.zy_journal.proofs.heads.and_before.Goals as goal

pub returns-in-Some : goal.returns-in-Some
returns-in-Some c = record {
  value = λ rests high less is before.
      (first_before rests c.args.shard high c.in-Some.stamp c.args.least less (is ∙ c.in-Some.is) c.if-stamp-least.true before, λ no. cc);
}
