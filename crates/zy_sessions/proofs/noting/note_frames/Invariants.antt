use Rattle.std.proofs.Common.{◌≡◌, ℕ, ◌++◌, List, length, map, replicate}
use Rattle.std.specs.BTreeSet.{BTreeSet}
use Rattle.zy_frame.specs.Frame.{command_of}
use Rattle.zy_sessions.specs.Noting.{AddsKeys}
use Rattle.zy_sessions.proofs.noting.note_frames.Given as goal

-- fewer frames are left
abbrev pub decreases-loop-frame : goal.decreases-loop-frame
decreases-loop-frame l = length l.frames

-- with the frames that are left, all is noted
abbrev pub invariant-loop-frame : goal.invariant-loop-frame
invariant-loop-frame l = record {
  commands : l.session.commands.items ++ map command_of l.frames ≡ l.fn.session.commands.items ++ map command_of l.fn.frames;
  sent : l.session.sent.items ++ replicate (length l.frames) l.moment ≡ l.fn.session.sent.items ++ replicate (length l.fn.frames) l.moment;
  marks : l.session.marks ≡ l.fn.session.marks;
  lasting : (new : BTreeSet (List ℕ)) → AddsKeys l.lasting new l.frames → AddsKeys l.fn.lasting new l.fn.frames;
}
