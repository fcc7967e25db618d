use Rattle.std.proofs.Common.{◌∷◌, ◌++◌, [], refl, List, ℕ, length, take, arith, ap, sym, ◌∙◌, subst}
use Rattle.mc_parse.specs.Need.{need}
use Rattle.mc_parse.specs.Parsed.{IsParsed}
use Rattle.zy_frame.specs.declared.frame_kind.FrameKind.{FrameKind}
use Rattle.zy_frame.specs.declared.state.State.TheVariants.{Line}
use Rattle.zy_frame.proofs.GoingOn.{is_line_frame}
use Rattle.zy_frame.proofs.StepLemmas.{line_short, line_moves, line_frame, closes_other}
use Rattle.zy_frame.specs.Steps.{after_line}
use Rattle.zy_frame.proofs.WholeLemmas.{line_within, line_first, parsed_for}
use Rattle.zy_frame.proofs.whole.take_request.Goals as goal

pub read_need-need-requires : goal.read_need-need-requires
read_need-need-requires c = record { within = omega (arith, ap length c.chomp.ensures.value, line_within c.args.bytes.now c.args.at, c.requires.short) }

-- a line that takes no block
pub first_part-requires-clause-within : goal.first_part-requires-clause-within
first_part-requires-clause-within c =
    omega (arith, ap length c.chomp-in-Nothing.ensures.value, line_within c.args.bytes.now c.args.at, c.requires.line.within)

pub of_line-requires-clause-frame : goal.of_line-requires-clause-frame
of_line-requires-clause-frame c =
    let bytes = c.args.bytes.now in
    rw (c.in_ok-line-in-Nothing.ensures.value ∙ ap (λ (l : List ℕ). take (length l) bytes) c.chomp-in-Nothing.ensures.value ∙ line_first bytes c.args.at)
    (is_line_frame (take c.args.at bytes) (line_short bytes c.args.at c.requires.line c.requires.short) (ap need (sym c.chomp.ensures.value) ∙ sym c.read_need-need.ensures.value ∙ c.in-Nothing.is))

pub of_line-requires-clause-parsed : goal.of_line-requires-clause-parsed
of_line-requires-clause-parsed c =
    let bytes = c.args.bytes.now in
    rw (c.in_ok-line-in-Nothing.ensures.value ∙ ap (λ (l : List ℕ). take (length l) bytes) c.chomp-in-Nothing.ensures.value ∙ line_first bytes c.args.at)
    (subst (λ (l : List ℕ). IsParsed l c.read_need-need.new.parsed) c.chomp.ensures.value c.read_need-need.ensures.parsed)

pub returns-in_ok-append-in-Nothing-clause-value : goal.returns-in_ok-append-in-Nothing-clause-value
returns-in_ok-append-in-Nothing-clause-value c =
    let bytes = c.args.bytes.now in
    let line = c.in_ok-line-in-Nothing.ensures.value ∙ ap (λ (l : List ℕ). take (length l) bytes) c.chomp-in-Nothing.ensures.value ∙ line_first bytes c.args.at in
    rw (c.in-Nothing.is, c.requires.empty)
    (line_moves [] bytes c.args.at (Line []) c.args.frames.now c.append.new.frames c.requires.line
    (line_frame (take c.args.at bytes) c.in_ok-line-in-Nothing.line [] c.args.frames.now c.append.new.frames (line_short bytes c.args.at c.requires.line c.requires.short)
    (ap need (sym c.chomp.ensures.value) ∙ sym c.read_need-need.ensures.value ∙ c.in-Nothing.is) line refl
    (c.in_ok-append-in-Nothing.ensures.ok ∙ ap (λ (f : FrameKind). c.args.frames.now ++ f ∷ []) c.of_line.ensures.value)))

-- a line that takes a block of which bytes are missing, or a quit line
pub returns-in_ok-keep-in_default : goal.returns-in_ok-keep-in_default
returns-in_ok-keep-in_default c =
    let bytes = c.args.bytes.now in
    let kept = c.in_ok-keep-in_default.ensures.ok ∙ ap (λ (l : List ℕ). l ++ take c.args.at bytes) c.requires.empty in
    let what = c.read_need-need.result in
    record {
      value = rw kept (line_moves [] bytes c.args.at (after_line what (Line (take c.args.at bytes))) c.args.frames.now c.args.frames.now c.requires.line
          (closes_other (take c.args.at bytes) what c.args.frames.now (line_short bytes c.args.at c.requires.line c.requires.short)
          (ap need (sym c.chomp.ensures.value) ∙ sym c.read_need-need.ensures.value) c.in_default.not-Nothing));
      parsed = rw kept (parsed_for what (take c.args.at bytes) c.read_need-need.new.parsed (subst (λ (l : List ℕ). IsParsed l c.read_need-need.new.parsed) c.chomp.ensures.value c.read_need-need.ensures.parsed));
      err = tt;
    }
