-- What a home keeps of a connection besides its block, and what the connection may have received.
use Rattle.std.specs.Prelude.{◌≡◌, ℕ, ◌+◌, false, List, [], ◌∷◌, ◌++◌, length, flat_map}
use Rattle.zy_frame.specs.declared.frame_kind.FrameKind.{FrameKind}
use Rattle.zy_frame.specs.Cut.{frames_of}
use Rattle.zy_frame.specs.Progress.{Progress, StandsFor}
use Rattle.zy_calls.specs.Output.{Output, nothing_sent}
use Rattle.zy_rx.specs.declared.rx.Rx.{Rx}
use Rattle.zy_rx.specs.declared.rx.Rx.TheVariants.{Segment, Close, End}
use Rattle.zy_rx.specs.Session.{Sessions, takes_in, streams_of}
use Rattle.zy_conn.specs.Ring.{EventInlet}

-- ---- values

-- the end of its event ring that frames are offered to, its unfinished frame, the frames that wait,
-- the ends of its closed sessions, how many frames were cut, and its output
pub record Link : Type 0 where
  pub inlet : EventInlet
  pub framer : Progress
  pub waiting : List FrameKind
  pub ends : List ℕ
  pub cut : ℕ
  pub output : Output

-- the number of the connection
abbrev pub conn_of : Link → ℕ
conn_of l = l.output.conn

-- ---- what a connection received

-- the frames of its sessions, one session after another
abbrev pub frames_in : Sessions → List FrameKind
frames_in s = flat_map frames_of (streams_of s)

-- the number of frames up to the end of each of these streams, after `before` frames
abbrev pub ends_from : ℕ → List (List ℕ) → List ℕ
ends_from before [] = []
ends_from before (stream ∷ streams) =
    (before + length (frames_of stream)) ∷ ends_from (before + length (frames_of stream)) streams

-- the connection may have received these sessions: its framer has read the open one; the frames
-- offered, followed by those that wait, are the frames of all sessions; and each closed session
-- ends after the frames cut up to its end
pub record LinkStands (l : Link) (s : Sessions) : Type 0 where
  pub framer : StandsFor l.framer s.current
  pub frames : l.inlet.sent ++ l.waiting ≡ frames_in s
  pub ends : l.ends ≡ ends_from 0 s.closed
  pub cut : l.cut ≡ length (frames_in s)

-- the item is for this connection, and not the end of all
abbrev pub IsFor : ℕ → Rx → Type 0
IsFor conn (Segment c bytes) = c ≡ conn
IsFor conn (Close c) = c ≡ conn
IsFor conn End = ⊥

-- whatever the connection may have received, it may now have received this item too
abbrev pub TakesIn : Rx → Link → Link → Type 0
TakesIn item l l' = (s : Sessions) → s.ended ≡ false → LinkStands l s
    → LinkStands l' (takes_in (conn_of l) s item)

-- whatever the connection may have received, it may still have received
abbrev pub StandsOn : Link → Link → Type 0
StandsOn l l' = (s : Sessions) → LinkStands l s → LinkStands l' s

-- ---- beginnings and what stays

-- a connection with this inlet that has received and sent nothing
pub record IsFresh (conn : ℕ) (inlet : EventInlet) (l : Link) : Type 0 where
  pub inlet_is : l.inlet ≡ inlet
  pub framer : StandsFor l.framer []
  pub waiting : l.waiting ≡ []
  pub ends : l.ends ≡ []
  pub cut : l.cut ≡ 0
  pub output : l.output ≡ nothing_sent conn

-- the connection and its event ring stay the same
pub record SameLink (l l' : Link) : Type 0 where
  pub conn : conn_of l' ≡ conn_of l
  pub ring : l'.inlet.ring ≡ l.inlet.ring
