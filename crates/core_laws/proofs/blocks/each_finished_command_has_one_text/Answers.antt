use Rattle.core_laws.proofs.BlockLemmas.{one_text, taken_texts}
use Rattle.core_laws.proofs.blocks.each_finished_command_has_one_text.Goals as goal

pub returns-clause-count : goal.returns-clause-count
returns-clause-count c = one_text

pub returns-clause-taken : goal.returns-clause-taken
returns-clause-taken c = taken_texts
