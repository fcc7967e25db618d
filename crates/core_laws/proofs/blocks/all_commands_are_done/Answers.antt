use Rattle.core_laws.proofs.BlockLemmas.{done_calls, done_texts, done_count}
use Rattle.core_laws.proofs.blocks.all_commands_are_done.Goals as goal

pub returns-clause-calls : goal.returns-clause-calls
returns-clause-calls c = done_calls

pub returns-clause-texts : goal.returns-clause-texts
returns-clause-texts c = done_texts

pub returns-clause-count : goal.returns-clause-count
returns-clause-count c = done_count
