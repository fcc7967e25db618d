use Rattle.std.proofs.Common.{List, ℕ, [], ◌∷◌, ◌++◌, ◌∙◌, arith, ap, length, take, subst}
use Rattle.std.proofs.lemmas.List.{length-take}
use Rattle.zy_frame.specs.declared.frame_kind.FrameKind.{FrameKind}
use Rattle.zy_frame.specs.declared.state.State.TheVariants.{Line}
use Rattle.zy_frame.specs.Steps.{ClosesTo, after_line}
use Rattle.zy_frame.proofs.StepLemmas.{front_no_feed, line_moves, long_frame, line_whole}
use Rattle.zy_frame.proofs.in_line.end_line.Goals as goal

pub returns-then-bytes-at-gt-LINE_LIMIT-clause-value : goal.returns-then-bytes-at-gt-LINE_LIMIT-clause-value
returns-then-bytes-at-gt-LINE_LIMIT-clause-value c =
    let h = c.requires.line in
    line_moves c.args.kept.now c.args.bytes.now c.args.at _ c.args.frames.now c.append.new.frames h
    (long_frame c.args.kept.now (take c.args.at c.args.bytes.now) c.truncate.new.self c.args.frames.now c.append.new.frames c.requires.short (front_no_feed c.args.bytes.now c.args.at h)
    (omega (arith, ap length c.bytes.ensures.value, length-take c.args.at c.args.bytes.now, h.within, c.if-bytes-at-gt-LINE_LIMIT.true)) c.truncate.ensures.value
    (c.in_ok-append.ensures.ok ∙ ap (λ (f : FrameKind). c.args.frames.now ++ f ∷ []) c.long.ensures.value))

pub close_line-requires : goal.close_line-requires
close_line-requires c = record {
  short = rw c.in_ok-keep.ensures.ok (line_whole c.args.kept.now (take c.args.at c.args.bytes.now) c.requires.short (front_no_feed c.args.bytes.now c.args.at c.requires.line)
      (omega (arith, ap length c.bytes.ensures.value, length-take c.args.at c.args.bytes.now, c.requires.line.within, c.if-bytes-at-gt-LINE_LIMIT.false)));
}

pub returns-clause-value : goal.returns-clause-value
returns-clause-value c =
    let state = after_line c.in_ok-need.need (Line c.close_line.new.kept) in
    line_moves c.args.kept.now c.args.bytes.now c.args.at state c.args.frames.now c.close_line.new.frames c.requires.line
    (subst (λ (l : List ℕ). ClosesTo l state c.args.frames.now c.close_line.new.frames) c.in_ok-keep.ensures.ok c.in_ok-need.ensures.value)
