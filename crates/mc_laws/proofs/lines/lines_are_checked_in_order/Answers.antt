use Rattle.std.proofs.Common.{ap}
use Rattle.std.specs.Prelude.{Option}
use Rattle.mc_parse.specs.declared.error_line.ErrorLine.TheVariants.{Unknown}
use Rattle.mc_parse.specs.declared.name.Name.{Name}
use Rattle.mc_parse.specs.Form.{find, form_after}
use Rattle.mc_laws.proofs.CheckLemmas.{form_after-count, form_after-noreply, form_after-keys, form_after-numbers, form_after-asks}
use Rattle.mc_laws.proofs.lines.lines_are_checked_in_order.Goals as goal

pub returns-clause-name : goal.returns-clause-name
returns-clause-name c = λ name words is. ap (λ (found : Option Name). find found Unknown (λ name. form_after name words)) is

pub returns-clause-after : goal.returns-clause-after
returns-clause-after c = λ n words name is. ap (λ (found : Option Name). find found Unknown (λ name. form_after name words)) is

pub returns-clause-count : goal.returns-clause-count
returns-clause-count c = form_after-count

pub returns-clause-noreply : goal.returns-clause-noreply
returns-clause-noreply c = form_after-noreply

pub returns-clause-keys : goal.returns-clause-keys
returns-clause-keys c = form_after-keys

pub returns-clause-numbers : goal.returns-clause-numbers
returns-clause-numbers c = form_after-numbers

pub returns-clause-value : goal.returns-clause-value
returns-clause-value c = form_after-asks
