use Rattle.std.proofs.Common.{◌-◌, List, length}
use Rattle.mc_parse.specs.declared.command.Command.{Command}
use Rattle.zy_check.specs.Cursor.{HasGivenCommands}
use Rattle.zy_check.proofs.cursor.Cursor.next.Given as goal

abbrev pub decreases-loop-self : goal.decreases-loop-self
decreases-loop-self l = length l.stream - l.self.at

abbrev pub invariant-loop-self : goal.invariant-loop-self
invariant-loop-self l = (given : List Command) → HasGivenCommands l.fn.self l.stream given → HasGivenCommands l.self l.stream given
