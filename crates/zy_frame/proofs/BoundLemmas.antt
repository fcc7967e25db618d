-- The commands of frames are within their bounds; and those of plain lines are plain.
use Rattle.std.specs.Prelude.{nat_lt, if◌then◌else◌, Option, None, Some, MatchOption, ⊤}
use Rattle.std.specs.List.{AllByRecursion}
use Rattle.std.proofs.Common.{◌≡◌, ℕ, ◌+◌, ◌-◌, ◌≤◌, List, [], ◌∷◌, length, map, Bool, true, false, refl, arith, length-take}
use borrow.Author.Tests.{ltb-false}
use Rattle.mc_calls.specs.Shard.{value_limit}
use Rattle.mc_calls.specs.Bounds.{IsValue}
use Rattle.mc_parse.specs.declared.need.Need.{Need}
use Rattle.mc_parse.specs.declared.need.Need.TheVariants as Needs
use Rattle.mc_parse.specs.Words.{line_limit}
use Rattle.mc_parse.specs.Form.{line_form}
use Rattle.mc_parse.specs.Need.{need}
use Rattle.mc_parse.specs.Meaning.{value_of}
use Rattle.mc_parse.specs.Bounds.{IsCommand}
use Rattle.mc_parse.specs.Plain.{IsOwnCommand, IsOwnForm}
use Rattle.mc_parse.proofs.BoundLemmas.{line_within, block_within, large_within}
use Rattle.mc_parse.proofs.PlainLemmas.{line_own, block_own, large_own}
use Rattle.zy_frame.specs.declared.frame_kind.FrameKind.{FrameKind}
use Rattle.zy_frame.specs.declared.frame_kind.FrameKind.TheVariants as Kinds
use Rattle.zy_frame.specs.Line.{Ended, first_line, chomped}
use Rattle.zy_frame.specs.Frame.{IsFrameText, tail_by, tail_length, frame_by, frame_at, frame_in, frame_of, command_of}
use Rattle.zy_frame.specs.Cut.{cut_of, frames_of, commands_of}
use Rattle.zy_frame.proofs.CutLemmas.{splits_cut}

-- ---- bounds

abbrev IsSmall : FrameKind → Type 0
IsSmall (Kinds.Line line) = ⊤
IsSmall (Kinds.Block line block) = IsValue (value_of block)
IsSmall (Kinds.Large line) = ⊤
IsSmall Kinds.Long = ⊤

frame_within : (frame : FrameKind) → IsSmall frame → IsCommand (command_of frame)
frame_within (Kinds.Line line) small = line_within line
frame_within (Kinds.Block line block) small = block_within line block small
frame_within (Kinds.Large line) small = large_within line
frame_within Kinds.Long small = (tt, tt)

value_small : (block : List ℕ) (size : ℕ) → size ≤ value_limit → Some (size + 2) ≡ Some (length block) → IsValue (value_of block)
value_small block size most is =
    let long : size + 2 ≡ length block = cc in
    omega (arith, length-take (length block - 2) block)

needed_small : (n : Need) (line after : List ℕ) → tail_by n ≡ Some (length after) → IsSmall (frame_by n line after)
needed_small Needs.Nothing line after is = tt
needed_small (Needs.Block bytes) line after is = go (nat_lt value_limit bytes) refl
  where
    go : (b : Bool) → nat_lt value_limit bytes ≡ b → IsSmall (if b then Kinds.Large line else Kinds.Block line after)
    go true over = tt
    go false over = value_small after bytes (ltb-false value_limit bytes over) is
needed_small Needs.Quit line after is = tt

ended_small : (line after : List ℕ) → tail_length line ≡ Some (length after) → IsSmall (frame_at line after)
ended_small line after is = go (nat_lt line_limit (length line)) is
  where
    go : (b : Bool) → (if b then Some 0 else tail_by (need (chomped line))) ≡ Some (length after) → IsSmall (if b then Kinds.Long else frame_by (need (chomped line)) (chomped line) after)
    go true tail = tt
    go false tail = needed_small (need (chomped line)) (chomped line) after tail

text_small : (text : List ℕ) → IsFrameText text → IsSmall (frame_of text)
text_small text is = go (first_line text) is
  where
    go : (o : Option Ended) → MatchOption o ⊥ (λ ended. tail_length ended.line ≡ Some (length ended.after)) → IsSmall (frame_in o)
    go None none = absurd none
    go (Some ended) tail = ended_small ended.line ended.after tail

pieces_within : (pieces : List (List ℕ)) → AllByRecursion IsFrameText pieces → AllByRecursion IsCommand (map command_of (map frame_of pieces))
pieces_within [] each = tt
pieces_within (piece ∷ pieces) each = (frame_within (frame_of piece) (text_small piece each.0), pieces_within pieces each.1)

-- the commands of a stream are within their bounds
pub stream_within : (stream : List ℕ) → AllByRecursion IsCommand (commands_of stream)
unfolding frames_of
stream_within stream = pieces_within (cut_of stream).pieces (splits_cut stream).each

-- ---- plain lines

-- the command of a plain line is plain, and calls its keys alone, whatever follows the line
pub frame_own : (IsOwn : List ℕ → Type 0) (n : Need) (line after : List ℕ) → IsOwnForm IsOwn (line_form line) → IsOwnCommand IsOwn (command_of (frame_by n line after))
frame_own IsOwn Needs.Nothing line after own = line_own IsOwn line own
frame_own IsOwn (Needs.Block bytes) line after own = go (nat_lt value_limit bytes)
  where
    go : (b : Bool) → IsOwnCommand IsOwn (command_of (if b then Kinds.Large line else Kinds.Block line after))
    go true = large_own IsOwn line
    go false = block_own IsOwn line after own
frame_own IsOwn Needs.Quit line after own = record { plain = (tt, tt); keys = tt }
