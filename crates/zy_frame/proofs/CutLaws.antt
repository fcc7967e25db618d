-- The frames and commands of a stream are those of its cut, and those of a prefix come first.
use Rattle.std.proofs.Common.{◌≡◌, ℕ, List, [], ◌∷◌, ◌++◌, map, refl, ap, ◌∙◌, append_assoc}
use Rattle.std.proofs.lemmas.List.{map-append}
use Rattle.mc_parse.specs.declared.command.Command.{Command}
use Rattle.zy_frame.specs.declared.frame_kind.FrameKind.{FrameKind}
use Rattle.zy_frame.specs.Frame.{frame_of, command_of}
use Rattle.zy_frame.specs.Cut.{Cut, Splits, cut_of, frames_of, commands_of, joined}
use Rattle.zy_frame.proofs.CutLemmas.{splits_only, splits_cut, cut_of-joined}

-- ---- one cut

pub cut_of-front : (stream more rest : List ℕ) (pieces : List (List ℕ)) → Splits stream pieces rest → (cut_of (stream ++ more)).pieces ≡ pieces ++ (cut_of (rest ++ more)).pieces
cut_of-front stream more rest pieces s =
    ap (λ (x : List ℕ). (cut_of (x ++ more)).pieces) s.whole ∙ ap (λ (x : List ℕ). (cut_of x).pieces) (append_assoc (joined pieces) rest more)
    ∙ ap (λ (c : Cut). c.pieces) (cut_of-joined pieces (rest ++ more) s.each)

-- ---- frames

pub frames_of_splits : (stream : List ℕ) (pieces : List (List ℕ)) (rest : List ℕ) → Splits stream pieces rest → frames_of stream ≡ map frame_of pieces
unfolding frames_of
frames_of_splits stream pieces rest s = ap (λ (c : Cut). map frame_of c.pieces) (splits_only stream pieces rest s)

pub frames_first : (stream more : List ℕ) → (later : List FrameKind) × (frames_of (stream ++ more) ≡ frames_of stream ++ later)
unfolding frames_of
frames_first stream more = (
  map frame_of (cut_of ((cut_of stream).rest ++ more)).pieces,
  ap (map frame_of) (cut_of-front stream more (cut_of stream).rest (cut_of stream).pieces (splits_cut stream))
      ∙ map-append frame_of (cut_of stream).pieces (cut_of ((cut_of stream).rest ++ more)).pieces,
)

commands_by : (pieces : List (List ℕ)) → map command_of (map frame_of pieces) ≡ map (λ piece. command_of (frame_of piece)) pieces
commands_by [] = refl
commands_by (piece ∷ pieces) = ap (λ (l : List Command). command_of (frame_of piece) ∷ l) (commands_by pieces)

pub commands_of_splits : (stream : List ℕ) (pieces : List (List ℕ)) (rest : List ℕ) → Splits stream pieces rest
    → commands_of stream ≡ map (λ piece. command_of (frame_of piece)) pieces
commands_of_splits stream pieces rest s = ap (map command_of) (frames_of_splits stream pieces rest s) ∙ commands_by pieces

pub commands_first : (stream more : List ℕ) → (later : List Command) × (commands_of (stream ++ more) ≡ commands_of stream ++ later)
commands_first stream more =
    let first = frames_first stream more in
    (map command_of first.0, ap (map command_of) first.1 ∙ map-append command_of (frames_of stream) first.0)

-- ---- the empty stream, and what comes after quit

pub frames_of_nil : frames_of [] ≡ []
unfolding frames_of cut_of
frames_of_nil = refl
