-- The cut of a stream into frame texts and a rest, and the frames and commands of a stream.
use Rattle.std.specs.Prelude.{◌≡◌, ℕ, zero, suc, nat_le, if◌then◌else◌, Bool, false, List, []}
use Rattle.std.specs.Prelude.{◌∷◌, ◌++◌, length, take, drop, map, Option, None, Some, is_none}
use Rattle.std.specs.List.{AllByRecursion}
use Rattle.mc_parse.specs.declared.command.Command.{Command}
use Rattle.zy_frame.specs.declared.frame_kind.FrameKind.{FrameKind}
use Rattle.zy_frame.specs.Line.{Ended, first_line, line_feed}
use Rattle.zy_frame.specs.Frame.{tail_length, IsFrameText, frame_of, command_of}

-- ---- the cut

-- the pieces one after another
abbrev pub joined : List (List ℕ) → List ℕ
joined [] = []
joined (piece ∷ pieces) = piece ++ joined pieces

-- the stream is the pieces and then the rest, every piece is a frame text, and the rest begins with
-- none
pub record Splits (stream : List ℕ) (pieces : List (List ℕ)) (rest : List ℕ) : Type 0 where
  pub whole : stream ≡ joined pieces ++ rest
  pub each : AllByRecursion IsFrameText pieces
  pub partial : (text more : List ℕ) → rest ≡ text ++ more → IsFrameText text → ⊥

-- ---- the same, computed

-- a frame text at the start of a stream, and the bytes after it
pub record Piece : Type 0 where
  pub text : List ℕ
  pub rest : List ℕ

-- a line, its line feed and the bytes that belong to its frame, if all of them have come
abbrev pub piece_with : List ℕ → Option ℕ → List ℕ → Option Piece
piece_with line None after = None
piece_with line (Some tail) after = if nat_le tail (length after)
    then Some (record { text = line ++ line_feed ∷ take tail after; rest = drop tail after })
    else None

-- the line with its tail, if it has ended and all of its tail has come
abbrev pub piece_in : Option Ended → Option Piece
piece_in None = None
piece_in (Some ended) = piece_with ended.line (tail_length ended.line) ended.after

-- the frame text with which the stream begins, if it begins with one
abbrev pub first_piece : List ℕ → Option Piece
first_piece stream = piece_in (first_line stream)

-- the pieces of a stream and its rest
pub record Cut : Type 0 where
  pub pieces : List (List ℕ)
  pub rest : List ℕ

-- the piece is cut off, and the rest is cut; with no piece the stream is the rest
abbrev pub cut_after : (List ℕ → Cut) → List ℕ → Option Piece → Cut
cut_after cut stream None = record { pieces = []; rest = stream }
cut_after cut stream (Some piece) =
    record { pieces = piece.text ∷ (cut piece.rest).pieces; rest = (cut piece.rest).rest }

-- at most `count` frame texts are cut off
abbrev pub cut_within : ℕ → List ℕ → Cut
cut_within zero stream = record { pieces = []; rest = stream }
cut_within (suc count) stream = cut_after (cut_within count) stream (first_piece stream)

-- frame texts are cut off while the stream begins with one; each has a byte, so there are at most
-- as many as bytes
unfoldable pub cut_of : List ℕ → Cut
cut_of stream = cut_within (length stream) stream

-- ---- frames and commands

-- the frames of a stream
unfoldable pub frames_of : List ℕ → List FrameKind
frames_of stream = map frame_of (cut_of stream).pieces

-- the commands of a stream
abbrev pub commands_of : List ℕ → List Command
commands_of stream = map command_of (frames_of stream)

-- whether the line has ended and has no frame, as only a quit line has none
abbrev pub quits_in : Option Ended → Bool
quits_in None = false
quits_in (Some ended) = is_none (tail_length ended.line)

-- whether the rest of a stream begins with a quit line
unfoldable pub meets_quit : List ℕ → Bool
meets_quit stream = quits_in (first_line (cut_of stream).rest)
