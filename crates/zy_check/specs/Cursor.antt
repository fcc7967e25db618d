-- How far a cursor has come in a stream. No public clause cites this module.
use Rattle.std.specs.Prelude.{◌≡◌, ℕ, ◌≤◌, List, [], ◌∷◌, ◌++◌, length, take, map, Option, None, Some}
use Rattle.mc_parse.specs.declared.command.Command.{Command}
use Rattle.zy_frame.specs.declared.frame_kind.FrameKind.{FrameKind}
use Rattle.zy_frame.specs.Frame.{command_of}
use Rattle.zy_frame.specs.Cut.{commands_of}
use Rattle.zy_frame.specs.Progress.{Progress, StandsFor}

-- a framer, the frames that it gave and that were not taken, and how many bytes were fed to it
pub record Cursor : Type 0 where
  pub framer : Progress
  pub frames : List FrameKind
  pub at : ℕ

-- of a stream, these commands were given
pub record HasGivenCommands (cursor : Cursor) (stream : List ℕ) (given : List Command) : Type 0 where
  pub within : cursor.at ≤ length stream
  pub stands : StandsFor cursor.framer (take cursor.at stream)
  pub all : commands_of (take cursor.at stream) ≡ given ++ map command_of cursor.frames

-- one more command was given, or all are
abbrev pub GaveNext : Cursor → Cursor → List ℕ → Option Command → Type 0
GaveNext before after stream None =
    (given : List Command) → HasGivenCommands before stream given → commands_of stream ≡ given
GaveNext before after stream (Some command) =
    (given : List Command) → HasGivenCommands before stream given
    → HasGivenCommands after stream (given ++ command ∷ [])
