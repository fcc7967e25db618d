-- The replies format, docs/FORMATS.md, "Replies": its values, their encoding, and which values have one.
use Rattle.std.specs.Prelude.{◌≡◌, ◌⊎◌, ℕ, ◌+◌, ◌-◌, ◌^◌, ◌<◌, ◌≤◌, ◌==◌, if◌then◌else◌, List, [], ◌∷◌, ◌++◌, length}
use Rattle.std.specs.Prelude.{flat_map, codes, ⊤}
use Rattle.std.specs.Int.{to_be_bytes, w32, w64}
use Rattle.zy_capture.specs.declared.session_bytes.SessionBytes.{SessionBytes}
use Rattle.zy_capture.specs.Capture.{connection_limit}
use Rattle.zy_capture.specs.Outputs.{AllOutputs}

-- ---- spelling

-- the letters with which each magic begins
abbrev pub letters : List ℕ
letters = codes "ZYGREP"

-- the magic of a version: the letters, the version's digit and a line feed
abbrev pub replies_magic : ℕ → List ℕ
replies_magic version = letters ++ (48 + version) ∷ 10 ∷ []

-- the session of a record, which only version 2 writes
abbrev pub session_text : ℕ → ℕ → List ℕ
session_text version session = if version == 2 then to_be_bytes w32 session else []

-- a record: its tag, its connection, its session, the length of the output, and the output
abbrev pub output_text : ℕ → ℕ → ℕ → List ℕ → List ℕ
output_text version conn session bytes =
    82 ∷ (to_be_bytes w32 conn ++ (session_text version session ++ (to_be_bytes w64 (length bytes) ++ bytes)))

-- ---- the text of all outputs

-- the texts of things that are numbered in order, from some number on, joined
abbrev pub numbered_from : {X : Type 0} → (ℕ → X → List ℕ) → ℕ → List X → List ℕ
numbered_from text number [] = []
numbered_from text number (x ∷ xs) = text number x ++ numbered_from text (number + 1) xs

-- the records of one connection, session by session
abbrev pub connection_text : ℕ → ℕ → List (List ℕ) → List ℕ
connection_text version conn sessions = numbered_from (output_text version conn) 0 sessions

-- a replies file: its magic, its records, connection by connection, and the end
unfoldable pub replies_bytes : AllOutputs → List ℕ
replies_bytes outputs =
    replies_magic outputs.version ++ numbered_from (connection_text outputs.version) 0 outputs.sessions ++ 69 ∷ []

-- ---- files by their records

-- the record of the output of a session
abbrev pub spelled : ℕ → SessionBytes → List ℕ
spelled version item = output_text version item.conn item.session item.bytes

-- a replies file with these records
unfoldable pub spelling : ℕ → List SessionBytes → List ℕ
spelling version items = replies_magic version ++ flat_map (spelled version) items ++ 69 ∷ []

-- the sessions of a connection from some session on
abbrev pub session_items : ℕ → ℕ → List (List ℕ) → List SessionBytes
session_items conn number [] = []
session_items conn number (bytes ∷ sessions) =
    record { conn = conn; session = number; bytes = bytes } ∷ session_items conn (number + 1) sessions

-- the sessions of all connections from some connection on
abbrev pub all_items : ℕ → List (List (List ℕ)) → List SessionBytes
all_items conn [] = []
all_items conn (sessions ∷ connections) = session_items conn 0 sessions ++ all_items (conn + 1) connections

-- the outputs, session by session
abbrev pub items_of : AllOutputs → List SessionBytes
items_of outputs = all_items 0 outputs.sessions

-- ---- validity

-- the most bytes of a replies file
abbrev pub replies_limit : ℕ
replies_limit = 2 ^ 63 - 1

-- this session comes after `connections` connections, the last of which has `sessions` sessions: it
-- is the first one of the next connection or, in version 2, the next one of the last connection
abbrev pub IsNextSession : ℕ → ℕ → ℕ → ℕ → ℕ → Type 0
IsNextSession version connections sessions conn session =
    ((conn ≡ connections) × (session ≡ 0)) ⊎ ((version ≡ 2) × (conn + 1 ≡ connections) × (session ≡ sessions))

-- a connection and a session are within their bounds
abbrev pub AreNumbers : ℕ → ℕ → Type 0
AreNumbers conn session = (conn < connection_limit) × (session < 2 ^ 31)

-- each session comes after those before it
abbrev pub AreBySession : ℕ → ℕ → ℕ → List SessionBytes → Type 0
AreBySession version connections sessions [] = ⊤
AreBySession version connections sessions (item ∷ items) =
    IsNextSession version connections sessions item.conn item.session × AreNumbers item.conn item.session
    × AreBySession version (item.conn + 1) (item.session + 1) items

-- the version and the outputs are those of a replies file
pub record IsRepliesFile (version : ℕ) (items : List SessionBytes) : Type 0 where
  pub known : (version ≡ 1) ⊎ (version ≡ 2)
  pub ordered : AreBySession version 0 0 items

-- the text is the spelling of these outputs, and not too long
pub record SpellsReplies (text : List ℕ) (version : ℕ) (items : List SessionBytes) : Type 0 where
  pub valid : IsRepliesFile version items
  pub spelled : text ≡ spelling version items
  pub short : length text ≤ replies_limit

-- ---- beginnings

-- the bytes of a replies file before its end, or before another record
abbrev pub front_text : ℕ → List SessionBytes → List ℕ
front_text version items = replies_magic version ++ flat_map (spelled version) items

-- ---- counts

-- how many connections have an output after these outputs, by how many had one before
abbrev pub connections_after : ℕ → List SessionBytes → ℕ
connections_after connections [] = connections
connections_after connections (item ∷ items) = connections_after (item.conn + 1) items

-- how many sessions the last connection has after these outputs, by how many the last one before
-- had
abbrev pub sessions_after : ℕ → List SessionBytes → ℕ
sessions_after sessions [] = sessions
sessions_after sessions (item ∷ items) = sessions_after (item.session + 1) items
