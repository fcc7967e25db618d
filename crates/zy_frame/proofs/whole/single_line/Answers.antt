use Rattle.std.proofs.Common.{◌∷◌, [], refl, ap, ◌∙◌}
use Rattle.zy_frame.specs.declared.frame_kind.FrameKind.{FrameKind}
use Rattle.zy_frame.specs.declared.state.State.TheVariants.{Line}
use Rattle.zy_frame.proofs.GoingOn.{is_line_frame}
use Rattle.zy_frame.proofs.StepLemmas.{line_short, line_moves, line_frame}
use Rattle.zy_frame.proofs.WholeLemmas.{single_line, single_first}
use Rattle.zy_frame.proofs.whole.single_line.Goals as goal

pub of_line-requires-clause-frame : goal.of_line-requires-clause-frame
of_line-requires-clause-frame c =
    let line = single_line c.args.piece c.bytes.result.now c.chomp-line.result.now c.args.at c.bytes.ensures.value c.chomp-line.ensures.value in
    rw (c.truncate.ensures.value ∙ single_first c.args.piece c.chomp-line.result.now c.args.at line)
    (is_line_frame _ (line_short c.args.piece c.args.at c.requires.line c.requires.short) c.requires.alone)

pub of_line-requires-clause-parsed : goal.of_line-requires-clause-parsed
of_line-requires-clause-parsed c =
    let line = single_line c.args.piece c.bytes.result.now c.chomp-line.result.now c.args.at c.bytes.ensures.value c.chomp-line.ensures.value in
    rw (c.truncate.ensures.value ∙ single_first c.args.piece c.chomp-line.result.now c.args.at line) c.requires.parsed

pub returns : goal.returns
returns c =
    let line = single_line c.args.piece c.bytes.result.now c.chomp-line.result.now c.args.at c.bytes.ensures.value c.chomp-line.ensures.value in
    record {
      value = line_moves [] c.args.piece c.args.at (Line []) [] (c.of_line.result ∷ []) c.requires.line
          (line_frame _ c.truncate.new.self [] [] (c.of_line.result ∷ []) (line_short c.args.piece c.args.at c.requires.line c.requires.short) c.requires.alone
          (c.truncate.ensures.value ∙ single_first c.args.piece c.chomp-line.result.now c.args.at line) refl
          (ap (λ (f : FrameKind). f ∷ []) c.of_line.ensures.value));
    }
