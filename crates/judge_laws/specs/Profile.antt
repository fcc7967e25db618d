-- What a run of the profile says to the calls of a command.
use Rattle.std.specs.Prelude.{List, []}
use Rattle.mc_calls.specs.declared.call_reply.CallReply.{CallReply}
use Rattle.mc_parse.specs.declared.command.Command.{Command}
use Rattle.mc_parse.specs.declared.command.Command.TheVariants.{Stats}
use Rattle.mc_allows.specs.declared.said.Said.{Said}
use Rattle.mc_answers.specs.Said.{all_replied}

-- what was said to the calls of a command that got these replies: those to the tallies of `stats` do not count
abbrev pub said_by : Command → List CallReply → List Said
said_by Stats replies = []
said_by command replies = all_replied replies
