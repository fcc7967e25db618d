use Rattle.std.proofs.Common.{◌≡◌, sym, ◌∙◌}
use Rattle.zy_check.specs.declared.verdict.Verdict.TheVariants.{Yes, No}
use Rattle.zy_self.specs.Tested.{traffic_bytes}
use Rattle.zy_self.proofs.CheckLemmas.{only_yes}
use Rattle.zy_self.proofs.testing.certify.Goals as goal

pub unreachable-requires : goal.unreachable-requires
unreachable-requires c =
    let yes : c.in_ok-check.field-0 ≡ Yes =
    only_yes c.args.run (traffic_bytes c.args.traffic) c.args.streams.now c.args.done.now.journal c.args.done.now.outputs c.in_ok-check.field-0
    c.served_runs_check.ensures.only c.requires.streams c.requires.served c.in_ok-check.ensures.verdict in
    let no : No c.in-No.field-0 ≡ Yes = sym c.in-No.is ∙ yes in
    cc
