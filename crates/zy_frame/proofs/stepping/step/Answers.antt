use Rattle.std.proofs.Common.{[], ◌∷◌, ◌++◌, ◌∙◌, ap}
use Rattle.zy_frame.specs.declared.frame_kind.FrameKind.{FrameKind}
use Rattle.zy_frame.specs.Steps.{LineAt}
use Rattle.zy_frame.proofs.StepLemmas.{long_goes_on, long_ends_at, quit_goes_on}
use Rattle.zy_frame.proofs.stepping.step.Goals as goal

-- in a line
pub end_line-requires-clause-line : goal.end_line-requires-clause-line
end_line-requires-clause-line c = record { within = c.in-Some.ensures.value.0; ends = c.in-Some.ensures.value.1 }

-- in a line that is too long
pub returns-in_ok-append-in-Some-line_end-clause-value : goal.returns-in_ok-append-in-Some-line_end-clause-value
returns-in_ok-append-in-Some-line_end-clause-value c =
    let h : LineAt c.args.bytes.now c.in-Some-line_end.at = record { within = c.in-Some-line_end.ensures.value.0; ends = c.in-Some-line_end.ensures.value.1 } in
    rw (c.in-Long.is, c.begin_line.ensures.value) (long_ends_at c.args.bytes.now c.in-Some-line_end.at c.args.frames.now c.append.new.frames h
    (c.in_ok-append-in-Some-line_end.ensures.ok ∙ ap (λ (f : FrameKind). c.args.frames.now ++ f ∷ []) c.long.ensures.value))

pub returns-in-None-line_end-clause-value : goal.returns-in-None-line_end-clause-value
returns-in-None-line_end-clause-value c = rw c.in-Long.is (long_goes_on c.args.bytes.now c.args.frames.now c.requires.some c.in-None-line_end.ensures.value)

-- after a quit line
pub returns-in-Quit-clause-value : goal.returns-in-Quit-clause-value
returns-in-Quit-clause-value c = rw c.in-Quit.is (quit_goes_on c.args.bytes.now c.args.frames.now c.requires.some)
