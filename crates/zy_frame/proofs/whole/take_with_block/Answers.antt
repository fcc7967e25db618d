use Rattle.std.proofs.Common.{◌≡◌, ◌+◌, ◌-◌, ◌++◌, List, ℕ, [], ◌∷◌, length, take, drop, arith, ap, ◌∙◌}
use Rattle.std.proofs.lemmas.List.{length-take, length-drop}
use Rattle.zy_frame.specs.declared.frame_kind.FrameKind.{FrameKind}
use Rattle.zy_frame.specs.Line.{chomped}
use Rattle.zy_frame.proofs.StepLemmas.{line_short, whole_moves}
use Rattle.zy_frame.proofs.WholeLemmas.{line_within, line_near, line_in, block_last, is_whole_frame}
use Rattle.zy_frame.proofs.whole.take_with_block.Goals as goal

pub first_part-requires-clause-within : goal.first_part-requires-clause-within
first_part-requires-clause-within c = omega (arith, c.requires.whole, length-drop (c.args.at + 1) c.args.bytes.now, c.requires.line.within)

pub overflow_sub-at : goal.overflow_sub-at
overflow_sub-at c = omega (arith, ap length c.chomp-line.ensures.value, line_within c.args.bytes.now c.args.at)

-- the first bytes, of which it is told what the others say
line_is : (bytes chomp whole : List ℕ) (at more : ℕ) → chomp ≡ chomped (take at bytes) → whole ≡ take (at + 1 + more) bytes → take (length chomp) whole ≡ chomped (take at bytes)
line_is bytes chomp whole at more line all =
    ap (λ (l : List ℕ). take (length l) whole) line ∙ ap (take (length (chomped (take at bytes)))) all ∙ line_in bytes at (at + 1 + more) (omega arith)

block_is : (bytes chomp whole : List ℕ) (at more : ℕ) → chomp ≡ chomped (take at bytes) → whole ≡ take (at + 1 + more) bytes → drop (length chomp + (at + 1 - length chomp)) whole ≡ take more (drop (at + 1) bytes)
block_is bytes chomp whole at more line all =
    ap (drop (length chomp + (at + 1 - length chomp))) all ∙ block_last bytes (length chomp) at more (omega (arith, ap length line, line_within bytes at))

pub of_whole-requires : goal.of_whole-requires
of_whole-requires c =
    let bytes = c.args.bytes.now in
    let h = c.requires.line in
    let some = h.within in
    let same = ap length c.chomp-line.ensures.value in
    let line = line_is bytes c.chomp-line.result.now c.in_ok-whole.whole c.args.at (c.args.size + 2) c.chomp-line.ensures.value c.in_ok-whole.ensures.value in
    let block = block_is bytes c.chomp-line.result.now c.in_ok-whole.whole c.args.at (c.args.size + 2) c.chomp-line.ensures.value c.in_ok-whole.ensures.value in
    record {
      frame = rw (line, block) (is_whole_frame bytes c.args.at c.args.size (line_short bytes c.args.at h c.requires.short) c.requires.sized c.requires.small c.requires.whole);
      parsed = rw line c.requires.parsed;
      within = omega (arith, same, line_within bytes c.args.at, ap length c.in_ok-whole.ensures.value, length-take (c.args.at + 1 + (c.args.size + 2)) bytes, some);
      short = omega (arith, same, line_within bytes c.args.at, c.requires.short);
      near = omega (arith, same, line_near bytes c.args.at (omega arith));
    }

pub returns-clause-value : goal.returns-clause-value
returns-clause-value c =
    let bytes = c.args.bytes.now in
    let h = c.requires.line in
    let line = line_is bytes c.chomp-line.result.now c.in_ok-whole.whole c.args.at (c.args.size + 2) c.chomp-line.ensures.value c.in_ok-whole.ensures.value in
    let block = block_is bytes c.chomp-line.result.now c.in_ok-whole.whole c.args.at (c.args.size + 2) c.chomp-line.ensures.value c.in_ok-whole.ensures.value in
    whole_moves bytes _ _ c.args.at c.args.size c.args.frames.now c.append.new.frames h (line_short bytes c.args.at h c.requires.short) c.requires.sized c.requires.small c.requires.whole line block
    (c.in_ok-append.ensures.ok ∙ ap (λ (f : FrameKind). c.args.frames.now ++ f ∷ []) c.of_whole.ensures.value)
