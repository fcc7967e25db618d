-- The bytes, marks and close records of a session, if its records are those of two windows.
use Rattle.std.specs.Prelude.{if◌then◌else◌}
use Rattle.std.proofs.Common.{◌≡◌, inl, inr, ℕ, ◌+◌, ◌<◌, ◌==◌, ◌&&◌, false, List, [], ◌∷◌, ◌++◌, map, All, refl, sym, ap, ◌∙◌, arith}
use Rattle.std.proofs.lemmas.List.Elements.{All-head, All-tail}
use Rattle.std.proofs.lemmas.Bool.Decides.{eqb_tells}
use Rattle.zy_capture.specs.declared.record.Record.{Record}
use Rattle.zy_capture.specs.declared.record.Record.TheVariants as Kinds
use Rattle.zy_capture.specs.Streams.{closes, stream_after}
use Rattle.zy_times.specs.Times.{counted_mark, marks_after}
use Rattle.zy_times.proofs.RecordLemmas.{is_same, not_same}
use Rattle.window_laws.specs.Joined.{raised, IsOfFirst}

-- a number is the same as another if both are raised
pub raised_same : (first a b : ℕ) → (first + a == first + b) ≡ (a == b)
raised_same first a b = elim (eqb_tells a b) [
  | inl same ↦ is_same (first + a) (first + b) (ap (λ (n : ℕ). first + n) same.1) ∙ sym same.0
  | inr differs ↦ not_same (first + a) (first + b) (λ e. differs.1 (omega (arith, e))) ∙ sym differs.0
]

-- ---- a connection of the first window

module _ (count conn session : ℕ) (within : conn < count) where
  differs : (k : ℕ) → (count + k == conn) ≡ false
  differs k = not_same (count + k) conn (λ e. omega (arith, within, e))

  no_bytes_later : (later : List Record) (before : ℕ) → stream_after before conn session (map (raised count) later) ≡ []
  no_bytes_later [] before = refl
  no_bytes_later (Kinds.Segment s ∷ later) before = rw (differs s.conn) (no_bytes_later later before)
  no_bytes_later (Kinds.Close other ∷ later) before = rw (differs other) (no_bytes_later later before)

  pub first_bytes : (items later : List Record) (before : ℕ) → stream_after before conn session (items ++ map (raised count) later) ≡ stream_after before conn session items
  first_bytes [] later before = no_bytes_later later before
  first_bytes (Kinds.Segment s ∷ items) later before = λ i. if s.conn == conn && before == session then s.bytes ++ first_bytes items later before i else first_bytes items later before i
  first_bytes (Kinds.Close other ∷ items) later before = λ i. if other == conn then first_bytes items later (before + 1) i else first_bytes items later before i

  no_marks_later : (later : List Record) (before : ℕ) → marks_after before conn session (map (raised count) later) ≡ 0
  no_marks_later [] before = refl
  no_marks_later (Kinds.Segment s ∷ later) before = rw (differs s.conn) (no_marks_later later before)
  no_marks_later (Kinds.Close other ∷ later) before = rw (differs other) (no_marks_later later before)

  pub first_marks : (items later : List Record) (before : ℕ) → marks_after before conn session (items ++ map (raised count) later) ≡ marks_after before conn session items
  first_marks [] later before = no_marks_later later before
  first_marks (Kinds.Segment s ∷ items) later before = λ i. if s.conn == conn && before == session then counted_mark s.bytes (first_marks items later before i) else first_marks items later before i
  first_marks (Kinds.Close other ∷ items) later before = λ i. if other == conn then first_marks items later (before + 1) i else first_marks items later before i

module _ (count conn : ℕ) (within : conn < count) where
  no_closes_later : (later : List Record) → closes conn (map (raised count) later) ≡ 0
  no_closes_later [] = refl
  no_closes_later (Kinds.Segment s ∷ later) = no_closes_later later
  no_closes_later (Kinds.Close other ∷ later) = rw (not_same (count + other) conn (λ e. omega (arith, within, e))) (no_closes_later later)

  pub first_closes : (items later : List Record) → closes conn (items ++ map (raised count) later) ≡ closes conn items
  first_closes [] later = no_closes_later later
  first_closes (Kinds.Segment s ∷ items) later = first_closes items later
  first_closes (Kinds.Close other ∷ items) later = λ i. if other == conn then first_closes items later i + 1 else first_closes items later i

-- ---- a connection of the second

module _ (count conn session : ℕ) where
  raised_bytes : (later : List Record) (before : ℕ) → stream_after before (count + conn) session (map (raised count) later) ≡ stream_after before conn session later
  raised_bytes [] before = refl
  raised_bytes (Kinds.Segment s ∷ later) before = λ i. if raised_same count s.conn conn i && before == session then s.bytes ++ raised_bytes later before i else raised_bytes later before i
  raised_bytes (Kinds.Close other ∷ later) before = λ i. if raised_same count other conn i then raised_bytes later (before + 1) i else raised_bytes later before i

  pub later_bytes : (items later : List Record) (before : ℕ) → All (IsOfFirst count) items → stream_after before (count + conn) session (items ++ map (raised count) later) ≡ stream_after before conn session later
  later_bytes [] later before own = raised_bytes later before
  later_bytes (Kinds.Segment s ∷ items) later before own = rw (not_same s.conn (count + conn) (λ e. let low = All-head (IsOfFirst count) (Kinds.Segment s) items own in omega (arith, low, e))) (later_bytes items later before (All-tail (IsOfFirst count) (Kinds.Segment s) items own))
  later_bytes (Kinds.Close other ∷ items) later before own = rw (not_same other (count + conn) (λ e. let low = All-head (IsOfFirst count) (Kinds.Close other) items own in omega (arith, low, e))) (later_bytes items later before (All-tail (IsOfFirst count) (Kinds.Close other) items own))

  raised_marks : (later : List Record) (before : ℕ) → marks_after before (count + conn) session (map (raised count) later) ≡ marks_after before conn session later
  raised_marks [] before = refl
  raised_marks (Kinds.Segment s ∷ later) before = λ i. if raised_same count s.conn conn i && before == session then counted_mark s.bytes (raised_marks later before i) else raised_marks later before i
  raised_marks (Kinds.Close other ∷ later) before = λ i. if raised_same count other conn i then raised_marks later (before + 1) i else raised_marks later before i

  pub later_marks : (items later : List Record) (before : ℕ) → All (IsOfFirst count) items → marks_after before (count + conn) session (items ++ map (raised count) later) ≡ marks_after before conn session later
  later_marks [] later before own = raised_marks later before
  later_marks (Kinds.Segment s ∷ items) later before own = rw (not_same s.conn (count + conn) (λ e. let low = All-head (IsOfFirst count) (Kinds.Segment s) items own in omega (arith, low, e))) (later_marks items later before (All-tail (IsOfFirst count) (Kinds.Segment s) items own))
  later_marks (Kinds.Close other ∷ items) later before own = rw (not_same other (count + conn) (λ e. let low = All-head (IsOfFirst count) (Kinds.Close other) items own in omega (arith, low, e))) (later_marks items later before (All-tail (IsOfFirst count) (Kinds.Close other) items own))

module _ (count conn : ℕ) where
  raised_closes : (later : List Record) → closes (count + conn) (map (raised count) later) ≡ closes conn later
  raised_closes [] = refl
  raised_closes (Kinds.Segment s ∷ later) = raised_closes later
  raised_closes (Kinds.Close other ∷ later) = λ i. if raised_same count other conn i then raised_closes later i + 1 else raised_closes later i

  pub later_closes : (items later : List Record) → All (IsOfFirst count) items → closes (count + conn) (items ++ map (raised count) later) ≡ closes conn later
  later_closes [] later own = raised_closes later
  later_closes (Kinds.Segment s ∷ items) later own = later_closes items later (All-tail (IsOfFirst count) (Kinds.Segment s) items own)
  later_closes (Kinds.Close other ∷ items) later own = rw (not_same other (count + conn) (λ e. let low = All-head (IsOfFirst count) (Kinds.Close other) items own in omega (arith, low, e))) (later_closes items later (All-tail (IsOfFirst count) (Kinds.Close other) items own))
