-- Records that bytes of a capture hold whole (docs/FORMATS.md, "Capture").
use Rattle.std.specs.Prelude.{◌≡◌, ℕ, ◌+◌, ◌^◌, ◌<◌, ◌≤◌, List, [], ◌∷◌, ◌++◌, length, get_or, None, ⊤}
use Rattle.zy_capture.specs.declared.record.Record.{Record}
use Rattle.zy_capture.specs.declared.record.Record.TheVariants as Kinds
use Rattle.zy_capture.specs.declared.due.Due.TheVariants.{Tag}
use Rattle.zy_capture.specs.Capture.{spelled, segment_limit, capture_limit}
use Rattle.zy_capture.specs.Steps.{CaptureProgress, number}

-- its length fits into four bytes
abbrev pub HasLength : Record → Type 0
HasLength (Kinds.Segment s) = length s.bytes < 2 ^ 32
HasLength (Kinds.Close conn) = ⊤

-- bytes begin with the spelling of a record
abbrev pub BeginsWithRecord : List ℕ → Type 0
BeginsWithRecord bytes = (item : Record) × ((rest : List ℕ) × (HasLength item × (bytes ≡ spelled item ++ rest)))

-- ---- for the reader only

-- the connection of a segment with which bytes begin, and the number of its bytes
abbrev pub front_conn : List ℕ → ℕ
front_conn bytes = number (get_or bytes 1 0 ∷ get_or bytes 2 0 ∷ get_or bytes 3 0 ∷ get_or bytes 4 0 ∷ [])

-- the number of bytes of that segment
abbrev pub front_size : List ℕ → ℕ
front_size bytes = number (get_or bytes 5 0 ∷ get_or bytes 6 0 ∷ get_or bytes 7 0 ∷ get_or bytes 8 0 ∷ [])

-- bytes begin with a whole segment of this connection, of `size` bytes
pub record HoldsSegment (bytes : List ℕ) (conn size : ℕ) : Type 0 where
  pub tag : get_or bytes 0 0 ≡ 83
  pub conn_is : conn ≡ front_conn bytes
  pub size_is : size ≡ front_size bytes
  pub whole : 9 + size ≤ length bytes

-- the same where a record may begin, and the segment is valid there
pub record TakesSegment (p : CaptureProgress) (bytes : List ℕ) (conn size : ℕ) : Type 0 where
  pub holds : HoldsSegment bytes conn size
  pub due : p.state.due ≡ Tag
  pub none : p.fault ≡ None
  pub known : conn < p.state.count
  pub few : size ≤ segment_limit
  pub room : p.at + (9 + size) ≤ capture_limit
