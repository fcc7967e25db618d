use Rattle.std.proofs.Common.{ap}
use Rattle.mc_parse.specs.Need.{need, need_for}
use Rattle.mc_parse.specs.Meaning.{line_command, command_for}
use Rattle.mc_laws.proofs.lines.a_faulty_line_is_answered.Goals as goal

pub returns-clause-need : goal.returns-clause-need
unfolding need
returns-clause-need c = λ line found is. ap need_for is

pub returns-clause-value : goal.returns-clause-value
unfolding line_command
returns-clause-value c = λ line found is. ap command_for is
