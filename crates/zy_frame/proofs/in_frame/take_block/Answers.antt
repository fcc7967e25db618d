use Rattle.std.proofs.Common.{[], ◌∷◌, ◌++◌, length, arith, ap, ◌∙◌}
use Rattle.zy_frame.specs.declared.frame_kind.FrameKind.{FrameKind}
use Rattle.zy_frame.proofs.LineEnds.{length-chomped}
use Rattle.zy_frame.proofs.GoingOn.{is_block_frame}
use Rattle.zy_frame.proofs.StepLemmas.{block_moves, block_ends, block_length}
use Rattle.zy_frame.proofs.in_frame.take_block.Goals as goal

pub returns-then-bytes-left-clause-value : goal.returns-then-bytes-left-clause-value
returns-then-bytes-left-clause-value c =
    rw c.in_ok-grow_block.ensures.ok (block_moves c.args.wanted.now.line c.args.block.now c.args.bytes.now c.args.wanted.now.size c.args.wanted.now.left c.args.frames.now
    c.requires.keeps c.requires.some c.if-bytes-left.true)

pub joined-requires-clause-frame : goal.joined-requires-clause-frame
joined-requires-clause-frame c =
    let keeps = c.requires.keeps in
    rw (c.replace-line.ensures.value ∙ c.chomp_kept.ensures.value, c.replace-block.ensures.value ∙ c.in_ok-keep.ensures.ok)
    (is_block_frame c.args.wanted.now.line _ c.args.wanted.now.size keeps.awaits.short keeps.awaits.sized keeps.small
    (block_length c.args.wanted.now.line c.args.block.now c.args.bytes.now c.args.wanted.now.size c.args.wanted.now.left keeps c.if-bytes-left.false))

pub returns-clause-value : goal.returns-clause-value
returns-clause-value c =
    block_ends c.args.wanted.now.line c.args.block.now c.args.bytes.now c.replace-line.result c.replace-block.result c.args.wanted.now.size c.args.wanted.now.left c.args.frames.now c.append.new.frames
    c.requires.keeps c.if-bytes-left.false (c.replace-line.ensures.value ∙ c.chomp_kept.ensures.value) (c.replace-block.ensures.value ∙ c.in_ok-keep.ensures.ok)
    (c.in_ok-append.ensures.ok ∙ ap (λ (f : FrameKind). c.args.frames.now ++ f ∷ []) c.in_ok-frame.ensures.value)

pub joined-requires-clause-short : goal.joined-requires-clause-short
joined-requires-clause-short c =
    omega (arith, ap length (c.replace-line.ensures.value ∙ c.chomp_kept.ensures.value), length-chomped c.args.wanted.now.line, c.requires.keeps.awaits.short.short)
