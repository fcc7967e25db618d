-- A format whose texts are fields, one after another: its state says how many bytes the next field has, and judges the
-- field when it is whole.
use Rattle.std.specs.Prelude.{◌≡◌, ℕ, ◌+◌, ◌-◌, ◌<◌, ◌≤◌, ◌&&◌, not, nat_lt, nat_le, if◌then◌else◌, Bool, true}
use Rattle.std.specs.Prelude.{List, [], ◌∷◌, ◌++◌, length, Option, None, Some, ⊤}
use Rattle.zy_read.specs.Format.{Format, Step}

-- ---- fields

-- what a whole field does: a state is next, or it is next and the field ends a record, or the field is wrong
pub data Judged (S G F : Type 0) : Type 0 where
  Then : S → Judged S G F
  Gives : S → G → Judged S G F
  Wrong : F → Judged S G F

-- the fields of a format: the state before the first one, the number of bytes of the next one, what a whole one does
-- at some place, the states at which a text may end, the most bytes of a text, and the faults of a text that has more
-- bytes or ends too early
pub record Fields (S G F : Type 0) : Type 0 where
  pub start : S
  pub width : S → ℕ
  pub judge : S → ℕ → List ℕ → Judged S G F
  pub is_end : S → Bool
  pub limit : ℕ
  pub too_long : F
  pub truncated : ℕ → F

-- the field is wrong
abbrev pub IsWrong : {S G F : Type 0} → Judged S G F → Type 0
IsWrong (Wrong fault) = ⊤
IsWrong judged = ⊥

-- a field has a byte; where a text may end, the next field is one byte, and it is wrong after the most bytes of a text
pub record IsLawful {S G F : Type 0} (fields : Fields S G F) : Type 0 where
  pub some : (s : S) → 0 < fields.width s
  pub one : (s : S) → fields.is_end s ≡ true → fields.width s ≡ 1
  pub ends : (s : S) (at : ℕ) (field : List ℕ) → fields.is_end s ≡ true → fields.limit ≤ at
      → IsWrong (fields.judge s at field)

-- ---- the step at a byte

-- where a text was read up to some byte: the state, the bytes read so far of the next field, how many bytes were read,
-- and the fault that was met
pub record Place (S F : Type 0) : Type 0 where
  pub state : S
  pub seen : List ℕ
  pub at : ℕ
  pub fault : Option F

-- no byte of the next field was read
abbrev pub at_state : {S F : Type 0} → S → ℕ → Place S F
at_state s at = record { state = s; seen = []; at = at; fault = None }

-- the byte is a fault, and nothing after it is read
abbrev pub refused : {S G F : Type 0} → Place S F → F → Step (Place S F) G
refused p fault = record { next = record p { seen = []; fault = Some fault }; gave = None }

-- the place after bytes of a field, none of which is its last
abbrev pub grown_by : {S F : Type 0} → Place S F → List ℕ → Place S F
grown_by p bytes = record p { seen = p.seen ++ bytes; at = p.at + length bytes }

-- the step at the last byte of a field, by what the field does
abbrev pub moved : {S G F : Type 0} → Place S F → Judged S G F → Step (Place S F) G
moved p (Then next) = record { next = at_state next (p.at + 1); gave = None }
moved p (Gives next item) = record { next = at_state next (p.at + 1); gave = Some item }
moved p (Wrong fault) = refused p fault

-- what the field does that this byte ends
abbrev pub judged_at : {S G F : Type 0} → Fields S G F → Place S F → ℕ → Judged S G F
judged_at fields p byte = fields.judge p.state (p.at - length p.seen) (p.seen ++ byte ∷ [])

-- what a byte of a field does
abbrev pub field_step : {S G F : Type 0} → Fields S G F → Place S F → ℕ → Step (Place S F) G
field_step fields p byte =
    if nat_lt (length p.seen + 1) (fields.width p.state) then record { next = grown_by p (byte ∷ []); gave = None }
    else moved p (judged_at fields p byte)

-- the text has its most bytes, and its end was not read
abbrev pub is_full : {S G F : Type 0} → Fields S G F → Place S F → Bool
is_full fields p = not (fields.is_end p.state) && nat_le fields.limit p.at

-- what a byte does if no fault was met; the first fault to count is that the text is too long
abbrev pub open_step : {S G F : Type 0} → Fields S G F → Place S F → ℕ → Step (Place S F) G
open_step fields p byte = if is_full fields p then refused p fields.too_long else field_step fields p byte

-- what a byte does, after this fault or none was met
abbrev pub step_by : {S G F : Type 0} → Option F → Fields S G F → Place S F → ℕ → Step (Place S F) G
step_by None fields p byte = open_step fields p byte
step_by (Some fault) fields p byte = record { next = p; gave = None }

-- a byte
abbrev pub step : {S G F : Type 0} → Fields S G F → Place S F → ℕ → Step (Place S F) G
step fields p byte = step_by p.fault fields p byte

-- ---- the format

-- the verdict on a text that ends before a fault was met
abbrev pub whole_or_cut : {S G F V : Type 0} → Fields S G F → (S → List G → V) → (F → V) → Place S F → List G → V
whole_or_cut fields good bad p given =
    if fields.is_end p.state then good p.state given else bad (fields.truncated p.at)

-- the verdict on a text that ends after this fault or none was met
abbrev pub ended_by : {S G F V : Type 0} → Option F → Fields S G F → (S → List G → V) → (F → V) → Place S F → List G → V
ended_by None fields good bad p given = whole_or_cut fields good bad p given
ended_by (Some fault) fields good bad p given = bad fault

-- the format with these fields, and with these verdicts on a whole text and on one with a fault
abbrev pub format_of : {S G F V : Type 0} → Fields S G F → (S → List G → V) → (F → V) → Format (Place S F) G F V
format_of fields good bad = record {
  start = at_state fields.start 0;
  step = step fields;
  fault_in = λ p. p.fault;
  ended = λ p given. ended_by p.fault fields good bad p given;
  bad = bad;
}
