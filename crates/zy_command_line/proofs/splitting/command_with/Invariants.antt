use Rattle.std.proofs.Common.{◌≡◌, map, take}
use Rattle.clap.specs.Words.{app_of}
use Rattle.zy_command_line.specs.Splitting.{option_rule, app_with}
use Rattle.zy_command_line.proofs.splitting.command_with.Given as goal

abbrev pub invariant-loop-option : goal.invariant-loop-option
invariant-loop-option l = app_of l.command ≡ app_with l.fn.name (map option_rule (map (λ n. n.now) (take l.option-index l.fn.names)))
