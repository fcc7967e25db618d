-- The capture format, docs/FORMATS.md, "Capture": its values, their encoding, and which values have one.
use Rattle.std.specs.Prelude.{◌≡◌, ◌⊎◌, ℕ, ◌+◌, ◌<◌, ◌≤◌, List, [], ◌∷◌, ◌++◌, length, flat_map, codes}
use Rattle.std.specs.List.{AllByRecursion}
use Rattle.std.specs.Int.{to_be_bytes, w32}
pub use Rattle.zy_base.specs.Limits.{connection_limit}
use Rattle.zy_capture.specs.declared.record.Record.{Record}
use Rattle.zy_capture.specs.declared.record.Record.TheVariants as Kinds

-- ---- limits

-- the most bytes of a segment
abbrev pub segment_limit : ℕ
segment_limit = 65535

-- the most bytes of a capture
abbrev pub capture_limit : ℕ
capture_limit = 4294967295

-- ---- spelling

-- the letters with which each magic begins
abbrev pub letters : List ℕ
letters = codes "ZYGCAP"

-- the magic of a version: the letters, the version's digit and a line feed
abbrev pub capture_magic : ℕ → List ℕ
capture_magic version = letters ++ (48 + version) ∷ 10 ∷ []

-- a record: its tag, its connection and, of a segment, its length and its bytes
abbrev pub spelled : Record → List ℕ
spelled (Kinds.Segment s) = 83 ∷ (to_be_bytes w32 s.conn ++ (to_be_bytes w32 (length s.bytes) ++ s.bytes))
spelled (Kinds.Close conn) = 67 ∷ to_be_bytes w32 conn

-- a capture: its magic, its connection count, its records and the end
unfoldable pub spelling : ℕ → ℕ → List Record → List ℕ
spelling version count items = capture_magic version ++ to_be_bytes w32 count ++ flat_map spelled items ++ 69 ∷ []

-- ---- validity

-- the records that a capture of this version with this count may have
abbrev pub IsRecordOf : ℕ → ℕ → Record → Type 0
IsRecordOf version count (Kinds.Segment s) = (s.conn < count) × (length s.bytes ≤ segment_limit)
IsRecordOf version count (Kinds.Close conn) = (version ≡ 2) × (conn < count)

-- the version, the count and the records are those of a capture
pub record IsCapture (version count : ℕ) (items : List Record) : Type 0 where
  pub known : (version ≡ 1) ⊎ (version ≡ 2)
  pub few : count ≤ connection_limit
  pub lawful : AllByRecursion (IsRecordOf version count) items

-- the text is the spelling of this capture, and not too long
pub record Spells (text : List ℕ) (version count : ℕ) (items : List Record) : Type 0 where
  pub valid : IsCapture version count items
  pub spelled : text ≡ spelling version count items
  pub short : length text ≤ capture_limit

-- the bytes of a capture before its end, or before another record
abbrev pub front_text : ℕ → ℕ → List Record → List ℕ
front_text version count items = capture_magic version ++ to_be_bytes w32 count ++ flat_map spelled items
