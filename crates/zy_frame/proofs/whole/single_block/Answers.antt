use Rattle.std.proofs.Common.{◌≡◌, ◌≤◌, ◌+◌, ◌∷◌, [], List, ℕ, length, drop, arith, ap}
use Rattle.std.proofs.lemmas.List.{length-drop}
use Rattle.zy_frame.specs.declared.frame_kind.FrameKind.{FrameKind}
use Rattle.zy_frame.proofs.StepLemmas.{line_short, whole_moves}
use Rattle.zy_frame.proofs.WholeLemmas.{line_within, line_near, single_line, single_first, single_rest, is_whole_frame}
use Rattle.zy_frame.proofs.whole.single_block.Goals as goal

-- the whole block has come
all_there : (piece : List ℕ) (at size : ℕ) → at + 1 + (size + 2) ≡ length piece → size + 2 ≤ length (drop (at + 1) piece)
all_there piece at size all = omega (arith, length-drop (at + 1) piece)

pub overflow_sub-at : goal.overflow_sub-at
overflow_sub-at c =
    let line = single_line c.args.piece c.bytes.result.now c.chomp-line.result.now c.args.at c.bytes.ensures.value c.chomp-line.ensures.value in
    omega (arith, ap length line, line_within c.args.piece c.args.at)

pub of_whole-requires : goal.of_whole-requires
of_whole-requires c =
    let piece = c.args.piece in
    let h = c.requires.line in
    let some = h.within in
    let line = single_line piece c.bytes.result.now c.chomp-line.result.now c.args.at c.bytes.ensures.value c.chomp-line.ensures.value in
    let same = ap length line in
    let first = single_first piece c.chomp-line.result.now c.args.at line in
    let rest = single_rest piece c.chomp-line.result.now c.args.at c.args.size line c.requires.all in
    record {
      frame = rw (first, rest) (is_whole_frame piece c.args.at c.args.size (line_short piece c.args.at h c.requires.short) c.requires.sized c.requires.small (all_there piece c.args.at c.args.size c.requires.all));
      parsed = rw first c.requires.parsed;
      within = omega (arith, same, line_within piece c.args.at, some);
      short = omega (arith, same, line_within piece c.args.at, c.requires.short);
      near = omega (arith, same, line_near piece c.args.at (omega arith));
    }

pub returns : goal.returns
returns c =
    let piece = c.args.piece in
    let h = c.requires.line in
    let line = single_line piece c.bytes.result.now c.chomp-line.result.now c.args.at c.bytes.ensures.value c.chomp-line.ensures.value in
    record {
      value = whole_moves piece _ _ c.args.at c.args.size [] (c.of_whole.result ∷ []) h (line_short piece c.args.at h c.requires.short) c.requires.sized c.requires.small
          (all_there piece c.args.at c.args.size c.requires.all) (single_first piece c.chomp-line.result.now c.args.at line) (single_rest piece c.chomp-line.result.now c.args.at c.args.size line c.requires.all)
          (ap (λ (f : FrameKind). f ∷ []) c.of_whole.ensures.value);
    }
