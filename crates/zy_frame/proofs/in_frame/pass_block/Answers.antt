use Rattle.std.proofs.Common.{[], ◌∷◌, ◌++◌, ap, ◌∙◌}
use Rattle.zy_frame.specs.declared.frame_kind.FrameKind.{FrameKind}
use Rattle.zy_frame.proofs.GoingOn.{is_large_frame}
use Rattle.zy_frame.proofs.StepLemmas.{large_moves, large_ends}
use Rattle.zy_frame.proofs.in_frame.pass_block.Goals as goal

pub returns-then-bytes-left-clause-value : goal.returns-then-bytes-left-clause-value
returns-then-bytes-left-clause-value c =
    large_moves c.args.wanted.now.line c.args.bytes.now c.args.wanted.now.size c.args.wanted.now.left c.args.frames.now c.requires.keeps c.requires.some c.if-bytes-left.true

pub of_large-requires : goal.of_large-requires
of_large-requires c =
    let keeps = c.requires.keeps in
    record {
      frame = rw (c.replace-line.ensures.value ∙ c.chomp_kept.ensures.value)
          (is_large_frame c.args.wanted.now.line c.args.wanted.now.size keeps.awaits.short keeps.awaits.sized keeps.large);
    }

pub returns-clause-value : goal.returns-clause-value
returns-clause-value c =
    large_ends c.args.wanted.now.line c.args.bytes.now c.replace-line.result c.args.wanted.now.size c.args.wanted.now.left c.args.frames.now c.append.new.frames c.requires.keeps c.if-bytes-left.false
    (c.replace-line.ensures.value ∙ c.chomp_kept.ensures.value) (c.in_ok-append.ensures.ok ∙ ap (λ (f : FrameKind). c.args.frames.now ++ f ∷ []) c.of_large.ensures.value)
