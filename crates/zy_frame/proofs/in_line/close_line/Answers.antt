use Rattle.std.proofs.Common.{[], ◌∷◌, ◌++◌, length, sym, ◌∙◌, ap, arith}
use Rattle.mc_parse.specs.Need.{need}
use Rattle.zy_frame.specs.declared.frame_kind.FrameKind.{FrameKind}
use Rattle.zy_frame.specs.Line.{chomped}
use Rattle.zy_frame.proofs.LineEnds.{length-chomped}
use Rattle.zy_frame.proofs.GoingOn.{is_line_frame}
use Rattle.zy_frame.proofs.StepLemmas.{line_frame, closes_other}
use Rattle.zy_frame.proofs.in_line.close_line.Goals as goal

pub read_need-requires : goal.read_need-requires
read_need-requires c =
    let same = c.chomp.ensures.value ∙ ap chomped c.bytes.ensures.value in
    record { within = omega (arith, ap length same, length-chomped c.args.kept.now, c.requires.short.short) }

pub of_line-requires-clause-frame : goal.of_line-requires-clause-frame
of_line-requires-clause-frame c =
    let same = c.chomp.ensures.value ∙ ap chomped c.bytes.ensures.value in
    rw (c.replace-line.ensures.value ∙ c.chomp_kept.ensures.value)
    (is_line_frame c.args.kept.now c.requires.short (ap need (sym same) ∙ sym c.read_need.ensures.value ∙ c.in-Nothing.is))

pub returns-in_ok-append-in-Nothing-clause-value : goal.returns-in_ok-append-in-Nothing-clause-value
returns-in_ok-append-in-Nothing-clause-value c =
    let same = c.chomp.ensures.value ∙ ap chomped c.bytes.ensures.value in
    line_frame c.args.kept.now c.replace-line.result c.replace-line.new.dest c.args.frames.now c.append.new.frames c.requires.short (ap need (sym same) ∙ sym c.read_need.ensures.value ∙ c.in-Nothing.is)
    (c.replace-line.ensures.value ∙ c.chomp_kept.ensures.value) (c.replace-line.ensures.after ∙ c.new.ensures.value) (c.in_ok-append-in-Nothing.ensures.ok ∙ ap (λ (f : FrameKind). c.args.frames.now ++ f ∷ []) c.of_line.ensures.value)

pub returns-in_default-clause-value : goal.returns-in_default-clause-value
returns-in_default-clause-value c =
    let same = c.chomp.ensures.value ∙ ap chomped c.bytes.ensures.value in
    closes_other c.args.kept.now c.read_need.result c.args.frames.now c.requires.short (ap need (sym same) ∙ sym c.read_need.ensures.value) c.in_default.not-Nothing
