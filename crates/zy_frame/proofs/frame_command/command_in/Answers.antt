use Rattle.std.proofs.Common.{arith, ap, length}
use Rattle.zy_frame.specs.declared.form.Form.TheVariants as Forms
use Rattle.zy_frame.proofs.FrameFits.{fits_form}
use Rattle.zy_frame.proofs.frame_command.command_in.Goals as goal

pub parse_read_in-requires-clause-within : goal.parse_read_in-requires-clause-within
parse_read_in-requires-clause-within c =
    let f = fits_form c.frame.inside.form Forms.Line c.frame.inside.line c.frame.inside.gap c.frame.inside.bytes c.in-Line.is c.frame.invariant.0 in
    f.0

pub parse_read_block-command-requires-clause-within : goal.parse_read_block-command-requires-clause-within
parse_read_block-command-requires-clause-within c =
    let f = fits_form c.frame.inside.form Forms.Block c.frame.inside.line c.frame.inside.gap c.frame.inside.bytes c.in-Block.is c.frame.invariant.0 in
    rw c.in_ok-line-in-Block.ensures.line f.0

pub parse_large-requires-clause-within : goal.parse_large-requires-clause-within
parse_large-requires-clause-within c =
    let f = fits_form c.frame.inside.form Forms.Large c.frame.inside.line c.frame.inside.gap c.frame.inside.bytes c.in-Large.is c.frame.invariant.0 in
    omega (arith, f.0, ap length c.bytes.ensures.value)
