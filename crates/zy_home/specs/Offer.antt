-- How frames are offered, and when they wait.
use Rattle.std.specs.Prelude.{◌≡◌, ◌≢◌, ℕ, ◌+◌, ◌≤◌, List, [], ◌++◌, length}
use Rattle.zy_frame.specs.declared.frame_kind.FrameKind.{FrameKind}
use Rattle.zy_conn.specs.Ring.{EventInlet}
use Rattle.zy_conn.specs.Block.{Blocked}
use Rattle.zy_home.specs.Link.{Link}

-- the first frames that waited were offered, and the others still wait
abbrev pub Offers : EventInlet → List FrameKind → EventInlet → List FrameKind → Type 0
Offers inlet waiting inlet' waiting' = inlet'.sent ++ waiting' ≡ inlet.sent ++ waiting

-- no frame was offered, and none waits
abbrev pub IsUnoffered : Link → Link → Type 0
IsUnoffered l l' = (l'.inlet ≡ l.inlet) × (l'.waiting ≡ [])

-- a frame waits only if no slot is known to be free
abbrev pub WaitsFull : Link → Type 0
WaitsFull l = l.waiting ≢ [] → l.inlet.free ≡ 0

-- a frame waits only if the ring of the block has 64 frames that were not taken
abbrev pub WaitsBehind : Link → Blocked → Type 0
WaitsBehind l block = l.waiting ≢ [] → 64 + length block.work.taken ≤ length l.inlet.sent

-- if a frame still waits, each slot that was known to be free has a frame
abbrev pub IsFilled : EventInlet → EventInlet → List FrameKind → Type 0
IsFilled inlet inlet' waiting' =
    waiting' ≢ [] → (n : ℕ) → n ≤ length inlet.sent + inlet.free → n ≤ length inlet'.sent
