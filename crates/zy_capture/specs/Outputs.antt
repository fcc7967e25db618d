-- The outputs of all connections, session by session.
use Rattle.std.specs.Prelude.{◌≡◌, ◌⊎◌, ℕ, ◌+◌, ◌^◌, ◌<◌, ◌≤◌, ◌==◌, if◌then◌else◌, List, [], ◌∷◌, ◌++◌, length}
use Rattle.std.specs.List.{AllByRecursion, slice_set}
use Rattle.zy_capture.specs.Capture.{connection_limit}
use Rattle.zy_capture.specs.Streams.{sessions_of}

-- the outputs of all connections
pub record AllOutputs : Type 0 where
  -- 1 or 2
  pub version : ℕ
  -- the outputs of each connection's sessions
  pub sessions : List (List (List ℕ))

-- an output of this connection may come next: that of the next connection or, in version 2, a
-- further one of the last connection
abbrev pub MayAdd : AllOutputs → ℕ → Type 0
MayAdd outputs conn =
    ((conn ≡ length outputs.sessions) × (conn < connection_limit))
    ⊎ ((outputs.version ≡ 2) × (conn + 1 ≡ length outputs.sessions)
    × (length (sessions_of outputs.sessions conn) < 2 ^ 31))

-- the sessions with one further output, of the next connection or of an existing one
abbrev pub with_session : List (List (List ℕ)) → ℕ → List ℕ → List (List (List ℕ))
with_session sessions conn bytes =
    if conn == length sessions then sessions ++ (bytes ∷ []) ∷ []
    else slice_set sessions conn (sessions_of sessions conn ++ bytes ∷ [])

-- the outputs with one further output
abbrev pub with_output : AllOutputs → ℕ → List ℕ → AllOutputs
with_output outputs conn bytes = record outputs { sessions = with_session outputs.sessions conn bytes }

-- the outputs of a connection's sessions: there is one in version 1, and some in version 2
pub record HasSessions (version : ℕ) (outputs : List (List ℕ)) : Type 0 where
  pub some : 0 < length outputs
  pub few : length outputs ≤ 2 ^ 31
  pub one : version ≡ 1 → length outputs ≡ 1

-- the outputs that can be added, one after another
pub record AreOutputs (outputs : AllOutputs) : Type 0 where
  pub known : (outputs.version ≡ 1) ⊎ (outputs.version ≡ 2)
  pub few : length outputs.sessions ≤ connection_limit
  pub sessions : AllByRecursion (HasSessions outputs.version) outputs.sessions
