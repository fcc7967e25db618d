use Rattle.std.proofs.Common.{◌∙◌, ap₂}
use Rattle.clap.specs.Words.{with_rule}
use Rattle.zy_command_line.proofs.Rows.{one_more}
use Rattle.zy_command_line.proofs.splitting.command_with.Goals as goal

pub loop-option-preserved : goal.loop-option-preserved
loop-option-preserved c =
    c.in-Ok.ensures.shape c.option_with.ensures.local ∙ ap₂ with_rule c.loop-option.invariant c.option_with.ensures.value
    ∙ one_more c.args.name.now c.args.names.now c.loop-option.option-index _ c.loop-option-test.true
