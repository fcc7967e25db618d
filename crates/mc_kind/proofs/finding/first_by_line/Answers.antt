use Rattle.std.proofs.Common.{sym, ◌∙◌}
use Rattle.mc_kind.proofs.LineLemmas.{quiet_whole}
use Rattle.mc_kind.proofs.finding.first_by_line.Goals as goal

pub returns-then-is_quiet : goal.returns-then-is_quiet
returns-then-is_quiet c = record { value = quiet_whole c.args.command.now c.args.bytes.now (sym c.is_quiet.ensures.value ∙ c.if-is_quiet.true) }
