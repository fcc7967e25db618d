use Rattle.std.proofs.Common.{rules, ◌≡◌, length, sym, ap, ◌∙◌}
use Rattle.std.proofs.lemmas.List.{nil_from_length}
use Rattle.zy_frame.specs.Progress.{in_line}
use Rattle.zy_frame.specs.Steps.{progress_of}
use Rattle.zy_frame.proofs.Feeding.{single_fed, single_due}
use Rattle.zy_frame.proofs.framer.Framer.single_frame.Goals as goal

pub returns-in-Line-clause-fed : goal.returns-in-Line-clause-fed
returns-in-Line-clause-fed c =
    let zero : length c.bytes.result.now ≡ 0 = search rules in
    let none = nil_from_length c.in-Line.kept (sym (ap length c.bytes.ensures.value) ∙ zero) in
    single_fed c.args.self.now c.args.piece (sym c.self.view_is ∙ ap progress_of c.in-Line.is ∙ ap in_line none) c.take_single.result c.take_single.ensures.value

pub returns-in-Line-clause-due : goal.returns-in-Line-clause-due
returns-in-Line-clause-due c =
    let zero : length c.bytes.result.now ≡ 0 = search rules in
    let none = nil_from_length c.in-Line.kept (sym (ap length c.bytes.ensures.value) ∙ zero) in
    single_due c.args.self.now c.args.piece (sym c.self.view_is ∙ ap progress_of c.in-Line.is ∙ ap in_line none) c.take_single.result c.take_single.ensures.value
