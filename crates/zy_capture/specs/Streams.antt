-- The streams of a capture: the bytes of each session of each connection.
use Rattle.std.specs.Prelude.{ℕ, ◌+◌, ◌==◌, ◌&&◌, if◌then◌else◌, List, [], ◌∷◌, ◌++◌, replicate}
use Rattle.std.specs.List.{slice_index_or, slice_set}
use Rattle.zy_capture.specs.declared.record.Record.{Record}
use Rattle.zy_capture.specs.declared.record.Record.TheVariants as Kinds

-- ---- by the records

-- the number of close records of a connection
abbrev pub closes : ℕ → List Record → ℕ
closes conn [] = 0
closes conn (Kinds.Segment s ∷ items) = closes conn items
closes conn (Kinds.Close other ∷ items) = if other == conn then closes conn items + 1 else closes conn items

-- the bytes, joined in order, of those segments of a connection that come after exactly `session`
-- close records of it, `before` of which came before the first record
abbrev pub stream_after : ℕ → ℕ → ℕ → List Record → List ℕ
stream_after before conn session [] = []
stream_after before conn session (Kinds.Segment s ∷ items) =
    if s.conn == conn && before == session then s.bytes ++ stream_after before conn session items
    else stream_after before conn session items
stream_after before conn session (Kinds.Close other ∷ items) =
    if other == conn then stream_after (before + 1) conn session items else stream_after before conn session items

-- the bytes, joined in order, of those segments of a connection that come after exactly `session`
-- close records of it
abbrev pub stream : ℕ → ℕ → List Record → List ℕ
stream conn session items = stream_after 0 conn session items

-- ---- as lists

-- the sessions of one of the connections
abbrev pub sessions_of : List (List (List ℕ)) → ℕ → List (List ℕ)
sessions_of connections conn = slice_index_or connections conn []

-- each of `count` connections has one session, which is empty
abbrev pub no_bytes : ℕ → List (List (List ℕ))
no_bytes count = replicate count ([] ∷ [])

-- the last one of several sessions
abbrev pub last_session : List (List ℕ) → List ℕ
last_session [] = []
last_session (session ∷ []) = session
last_session (session ∷ next ∷ sessions) = last_session (next ∷ sessions)

-- the last one of several sessions grew by bytes
abbrev pub last_grown : List (List ℕ) → List ℕ → List (List ℕ)
last_grown [] bytes = []
last_grown (session ∷ []) bytes = (session ++ bytes) ∷ []
last_grown (session ∷ next ∷ sessions) bytes = session ∷ last_grown (next ∷ sessions) bytes

-- the last session of a connection grew by bytes
abbrev pub grown : List (List (List ℕ)) → ℕ → List ℕ → List (List (List ℕ))
grown connections conn bytes = slice_set connections conn (last_grown (sessions_of connections conn) bytes)

-- an empty session of a connection began
abbrev pub closed : List (List (List ℕ)) → ℕ → List (List (List ℕ))
closed connections conn = slice_set connections conn (sessions_of connections conn ++ [] ∷ [])

-- the sessions after a record was added
abbrev pub with_record : List (List (List ℕ)) → Record → List (List (List ℕ))
with_record connections (Kinds.Segment s) = grown connections s.conn s.bytes
with_record connections (Kinds.Close conn) = closed connections conn

-- the sessions after these records were added
abbrev pub with_records : List (List (List ℕ)) → List Record → List (List (List ℕ))
with_records connections [] = connections
with_records connections (item ∷ items) = with_records (with_record connections item) items
