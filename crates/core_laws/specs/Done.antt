-- A block whose commands are all done.
use Rattle.zy_conn.specs.Kept.{KeepsCommands}
use Rattle.std.specs.Prelude.{◌≡◌, List}
use Rattle.zy_frame.specs.declared.frame_kind.FrameKind.{FrameKind}
use Rattle.zy_conn.specs.Work.{idle, Worked}

-- each frame that was offered was taken, and no command is in progress
pub record HasDone (offered : List FrameKind) (work : Worked) : Type 0 where
  pub kept : KeepsCommands work
  pub none : work.begun ≡ idle
  pub all : work.taken ≡ offered
