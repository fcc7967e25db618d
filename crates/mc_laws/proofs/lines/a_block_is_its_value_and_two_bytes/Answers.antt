use Rattle.std.proofs.Common.{◌++◌, ap, ◌∙◌}
use Rattle.mc_parse.specs.Form.{line_form}
use Rattle.mc_parse.specs.Need.{need}
use Rattle.mc_parse.specs.Meaning.{line_end, block_command, large_command, block_command_for}
use Rattle.mc_laws.proofs.CheckLemmas.{large-fault, block-fault, block-value}
use Rattle.mc_laws.proofs.lines.a_block_is_its_value_and_two_bytes.Goals as goal

pub returns-clause-large : goal.returns-clause-large
unfolding need large_command
returns-clause-large c = λ line large. large-fault (line_form line) large

pub returns-clause-bad : goal.returns-clause-bad
unfolding need block_command
returns-clause-bad c = λ line block fits bad. block-fault (line_form line) block fits bad

pub returns-clause-value : goal.returns-clause-value
unfolding block_command
returns-clause-value c = λ line value ask quiet is. ap (block_command_for (value ++ line_end)) is ∙ block-value ask quiet value
