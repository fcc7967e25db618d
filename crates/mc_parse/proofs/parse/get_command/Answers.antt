use Rattle.std.proofs.Common.{sym, ◌∙◌}
use Rattle.mc_parse.specs.Words.{words}
use Rattle.mc_parse.proofs.GetLemmas.{gets_long}
use Rattle.mc_parse.proofs.parse.get_command.Goals as goal

pub returns-in-Ok-false-clause-value : goal.returns-in-Ok-false-clause-value
returns-in-Ok-false-clause-value c = c.fault.ensures.value ∙ sym (gets_long c.args.unique (words c.args.text.now) (sym c.in-Ok-false.ensures.value ∙ c.in-Ok-false.field-0-test))
