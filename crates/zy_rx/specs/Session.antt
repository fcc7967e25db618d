-- What each connection received, from the items of a receive ring.
use Rattle.std.specs.Prelude.{ℕ, ◌==◌, if◌then◌else◌, Bool, true, false, List, [], ◌∷◌, ◌++◌}
use Rattle.zy_rx.specs.declared.rx.Rx.{Rx}
use Rattle.zy_rx.specs.declared.rx.Rx.TheVariants.{Segment, Close, End}

-- the streams of the closed sessions, that of the open one, and whether the end came
pub record Sessions : Type 0 where
  pub closed : List (List ℕ)
  pub current : List ℕ
  pub ended : Bool

-- the streams of all of these sessions, that of the open one last
abbrev pub streams_of : Sessions → List (List ℕ)
streams_of s = s.closed ++ s.current ∷ []

-- nothing was received yet
abbrev pub no_sessions : Sessions
no_sessions = record { closed = []; current = []; ended = false }

-- these bytes came
abbrev pub with_bytes : List ℕ → Sessions → Sessions
with_bytes bytes s = record s { current = s.current ++ bytes }

-- the open session was closed, and a new one began
abbrev pub with_close : Sessions → Sessions
with_close s = record s { closed = s.closed ++ s.current ∷ []; current = [] }

-- what one more item changes: nothing if it is another connection's, or comes after the end
abbrev pub takes_in : ℕ → Sessions → Rx → Sessions
takes_in conn s (Segment c bytes) = if s.ended then s else if c == conn then with_bytes bytes s else s
takes_in conn s (Close c) = if s.ended then s else if c == conn then with_close s else s
takes_in conn s End = record s { ended = true }

-- what more items change, one after the other
abbrev pub sessions_from : ℕ → Sessions → List Rx → Sessions
sessions_from conn s [] = s
sessions_from conn s (x ∷ xs) = sessions_from conn (takes_in conn s x) xs

-- what a connection received among these items
abbrev pub received_by : ℕ → List Rx → Sessions
received_by conn items = sessions_from conn no_sessions items
