-- The view of the end of an event ring to which frames are offered.
use Rattle.zy_rx.specs.Ring.{RingInlet}
use Rattle.zy_frame.specs.declared.frame_kind.FrameKind.{FrameKind}

-- which ring it is, the frames offered and not handed back, and the slots that it knows to be free
abbrev pub EventInlet : Type 0
EventInlet = RingInlet FrameKind
