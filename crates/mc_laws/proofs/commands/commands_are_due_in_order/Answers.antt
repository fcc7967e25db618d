use Rattle.mc_parse.proofs.CallLemmas.{due-more, due-append, due_within}
use Rattle.mc_laws.proofs.commands.commands_are_due_in_order.Goals as goal

pub returns-clause-more : goal.returns-clause-more
returns-clause-more c = due-more

pub returns-clause-joined : goal.returns-clause-joined
returns-clause-joined c = due-append

pub returns-clause-within : goal.returns-clause-within
returns-clause-within c = due_within
