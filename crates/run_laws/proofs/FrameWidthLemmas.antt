-- How wide the command of a frame is: its keys and letters are fewer than the bytes of its text.
use Rattle.std.specs.Prelude.{nat_lt, if◌then◌else◌, Option, None, Some, MatchOption}
use Rattle.std.proofs.Common.{◌≡◌, ℕ, ◌+◌, ◌≤◌, List, ◌∷◌, length, Bool, true, false, refl, ap, arith, length-append}
use Rattle.mc_calls.specs.Shard.{value_limit}
use Rattle.mc_parse.specs.declared.need.Need.{Need}
use Rattle.mc_parse.specs.declared.need.Need.TheVariants as Needs
use Rattle.mc_parse.specs.Need.{need}
use Rattle.mc_parse.specs.Words.{line_limit}
use Rattle.mc_laws.proofs.WidthLemmas.{width, line_command_width, block_command_width, large_command_width}
use Rattle.zy_frame.specs.declared.frame_kind.FrameKind.TheVariants as Kinds
use Rattle.zy_frame.specs.Line.{Ended, first_line, chomped, line_feed}
use Rattle.zy_frame.specs.Frame.{IsFrameText, tail_length, frame_by, frame_at, frame_in, frame_of, command_of}
use Rattle.zy_frame.proofs.LineEnds.{length-chomped}
use Rattle.zy_frame.proofs.LineLemmas.{spelled}

needed_width : (n : Need) (line after : List ℕ) → width (command_of (frame_by n line after)) ≤ length line
needed_width Needs.Nothing line after = line_command_width line
needed_width (Needs.Block bytes) line after = go (nat_lt value_limit bytes)
  where
    go : (b : Bool) → width (command_of (if b then Kinds.Large line else Kinds.Block line after)) ≤ length line
    go true = large_command_width line
    go false = block_command_width line after
needed_width Needs.Quit line after = omega arith

frame_width : (line after : List ℕ) → width (command_of (frame_at line after)) ≤ length line
frame_width line after = go (nat_lt line_limit (length line))
  where
    go : (b : Bool) → width (command_of (if b then Kinds.Long else frame_by (need (chomped line)) (chomped line) after)) ≤ length line
    go true = omega arith
    go false = omega (arith, needed_width (need (chomped line)) (chomped line) after, length-chomped line)

-- a command has fewer keys and letters than its frame text has bytes
pub text_width : (text : List ℕ) → IsFrameText text → width (command_of (frame_of text)) + 1 ≤ length text
text_width text is = go (first_line text) refl is
  where
    go : (o : Option Ended) → first_line text ≡ o → MatchOption o ⊥ (λ ended. tail_length ended.line ≡ Some (length ended.after)) → width (command_of (frame_in o)) + 1 ≤ length text
    go None found none = absurd none
    go (Some ended) found tail =
        let whole = ap length (spelled text ended found).text_is in
        let size = length-append ended.line (line_feed ∷ ended.after) in
        omega (arith, whole, size, frame_width ended.line ended.after)
