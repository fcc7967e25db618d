use Rattle.std.proofs.Common.{sym, subst, [], ◌∷◌}
use Rattle.mc_parse.specs.declared.command.Command.TheVariants as Commands
use Rattle.mc_parse.specs.declared.meta.Meta.{Meta}
use Rattle.mc_answers.specs.Said.{FitsCommand}
use Rattle.mc_answered.proofs.marked.may_be_said.Goals as goal

pub returns-in-Get : goal.returns-in-Get
returns-in-Get c = record {
  value = λ is. subst (λ (m : Meta). FitsCommand (Commands.Meta m) (c.args.said.now ∷ [])) (sym c.in-Get.is) (c.is_got.ensures.value c.in-Get.key is);
}
