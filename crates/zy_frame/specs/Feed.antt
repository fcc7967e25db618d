-- What feeding pieces of a stream appends.
use Rattle.std.specs.Prelude.{◌≡◌, ℕ, List, ◌++◌}
use Rattle.zy_frame.specs.declared.frame_kind.FrameKind.{FrameKind}
use Rattle.zy_frame.specs.Cut.{frames_of}

-- the frames that a stream has beyond those that it had without its last piece were appended
pub record Appends (fed piece : List ℕ) (before after : List FrameKind) : Type 0 where
  pub given : List FrameKind
  pub appended : after ≡ before ++ given
  pub due : frames_of (fed ++ piece) ≡ frames_of fed ++ given

-- the first of those frames were appended
pub record AppendsFirst (fed piece : List ℕ) (before after : List FrameKind) : Type 0 where
  pub given : List FrameKind
  pub lost : List FrameKind
  pub appended : after ≡ before ++ given
  pub due : frames_of (fed ++ piece) ≡ frames_of fed ++ (given ++ lost)
