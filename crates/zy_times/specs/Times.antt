-- The marks among a capture's records, and how many flags are true. A segment without bytes is a mark: an answer of its
-- session was complete.
use Rattle.std.specs.Prelude.{ℕ, suc, ◌+◌, ◌==◌, ◌&&◌, if◌then◌else◌, List, [], ◌∷◌, Bool, true, false}
use Rattle.zy_capture.specs.declared.record.Record.{Record}
use Rattle.zy_capture.specs.declared.record.Record.TheVariants as Kinds

-- ---- marks

-- one more if the segment has no bytes
abbrev pub counted_mark : List ℕ → ℕ → ℕ
counted_mark [] count = suc count
counted_mark (byte ∷ bytes) count = count

-- the number of marks of a connection after exactly `session` close records of it, `before` of which came before the
-- first record
abbrev pub marks_after : ℕ → ℕ → ℕ → List Record → ℕ
marks_after before conn session [] = 0
marks_after before conn session (Kinds.Segment s ∷ items) =
    if s.conn == conn && before == session then counted_mark s.bytes (marks_after before conn session items)
    else marks_after before conn session items
marks_after before conn session (Kinds.Close other ∷ items) =
    if other == conn then marks_after (before + 1) conn session items else marks_after before conn session items

-- the number of marks of a session of a connection
abbrev pub marks_in : List Record → ℕ → ℕ → ℕ
marks_in records conn session = marks_after 0 conn session records

-- ---- flags

-- how many flags are true
abbrev pub trues : List Bool → ℕ
trues [] = 0
trues (true ∷ flags) = suc (trues flags)
trues (false ∷ flags) = trues flags

-- one if the flag is true
abbrev pub number_if : Bool → ℕ
number_if true = 1
number_if false = 0
