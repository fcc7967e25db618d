-- What feeding pieces of a stream appends, piece after piece.
use Rattle.std.specs.Prelude.{◌≡◌, ℕ, List, [], ◌∷◌, ◌++◌, ⊤}
use Rattle.zy_frame.specs.declared.frame_kind.FrameKind.{FrameKind}
use Rattle.zy_frame.specs.Cut.{frames_of}

-- a piece that was fed, and the frames that it gave
pub record Fed : Type 0 where
  pub piece : List ℕ
  pub given : List FrameKind

-- each piece gave the frames that the stream so far has beyond those that it had before
abbrev pub GivesEach : List ℕ → List Fed → Type 0
GivesEach stream [] = ⊤
GivesEach stream (fed ∷ more) =
    (frames_of (stream ++ fed.piece) ≡ frames_of stream ++ fed.given)
    × GivesEach (stream ++ fed.piece) more

-- the bytes of all pieces
abbrev pub fed_bytes : List Fed → List ℕ
fed_bytes [] = []
fed_bytes (fed ∷ more) = fed.piece ++ fed_bytes more

-- the frames that all pieces gave
abbrev pub fed_frames : List Fed → List FrameKind
fed_frames [] = []
fed_frames (fed ∷ more) = fed.given ++ fed_frames more
