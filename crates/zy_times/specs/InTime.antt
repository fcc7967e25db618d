-- When a journal fits the recorded times: each call can be given a moment between its command and its answer, in the
-- order of the journal. This is linearizability, call by call, as the recorder saw the times (Herlihy and Wing,
-- "Linearizability: a correctness condition for concurrent objects", 1990).
use Rattle.std.specs.Prelude.{◌≡◌, ◌↔◌, ℕ, zero, suc, ◌+◌, ◌<◌, ◌≤◌, List, length, Bool, true, Some}
use Rattle.std.specs.List.{slice_get}
use Rattle.mc_calls.specs.declared.entry.Entry.{Entry}
use Rattle.zy_run.specs.Commands.{commands_in}
use Rattle.zy_times.specs.Recording.{Recording, Numbered, numbered_of, IsSent, IsEnded, FitAt, MarksFit}
use Rattle.zy_times.specs.Times.{trues}
use Rattle.zy_times.specs.declared.timing.Timing.{Timing}
use Rattle.zy_times.specs.declared.timing.Timing.TheVariants.{InTime, EarlyEnd, OutOfTime}

-- ---- entries

-- the session and number of an entry's command
abbrev pub numbered_entry : Recording → Entry → Numbered
numbered_entry r e = numbered_of r e.tag.conn e.tag.index

-- the command of an entry is sent at a moment
abbrev pub IsEntrySent : Recording → Entry → ℕ → Type 0
IsEntrySent r e moment = IsSent r e.tag.conn (numbered_entry r e) moment

-- the command of an entry is ended at a moment
abbrev pub IsEntryEnded : Recording → Entry → ℕ → Type 0
IsEntryEnded r e moment = IsEnded r e.tag.conn (numbered_entry r e) moment

-- the command of each entry is one of its connection's
abbrev pub AreOfCommands : Recording → Type 0
AreOfCommands r =
    (p : ℕ) (e : Entry) → slice_get r.entries p ≡ Some e → e.tag.index < length (commands_in r.records e.tag.conn)

-- there are moments, one for each entry, that never fall along the journal; the command of each entry is sent at its
-- moment, and not ended
pub record IsInTime (r : Recording) : Type 0 where
  pub moment : ℕ → ℕ
  pub rises : (p q : ℕ) → p ≤ q → q < length r.entries → moment p ≤ moment q
  pub within : (p : ℕ) → p < length r.entries → moment p ≤ length r.records
  pub sent : (p : ℕ) (e : Entry) → slice_get r.entries p ≡ Some e → IsEntrySent r e (moment p)
  pub unended : (p : ℕ) (e : Entry) → slice_get r.entries p ≡ Some e → IsEntryEnded r e (moment p) → ⊥

-- ---- two entries

-- the command of an entry had ended before that of another was sent
pub record IsLateAfter (r : Recording) (other e : Entry) : Type 0 where
  pub moment : ℕ
  pub ended : IsEntryEnded r e moment
  pub unsent : IsEntrySent r other moment → ⊥

-- the same of the entries at two offsets
pub record AreLate (r : Recording) (first last : ℕ) : Type 0 where
  pub other : Entry
  pub e : Entry
  pub is_first : slice_get r.entries first ≡ Some other
  pub is_last : slice_get r.entries last ≡ Some e
  pub late : IsLateAfter r other e

-- no entry comes after one whose command was sent only when its own had ended
abbrev pub NoneIsLate : Recording → Type 0
NoneIsLate r = (p q : ℕ) → p < q → AreLate r p q → ⊥

-- ---- causes

-- this record is the first mark after which the marks do not fit
pub record IsEarlyEnd (r : Recording) (at : ℕ) : Type 0 where
  pub within : at < length r.records
  pub before : (moment : ℕ) → moment ≤ at → FitAt r moment
  pub wrong : FitAt r (at + 1) → ⊥

-- this is the first entry whose command had ended before the command of an earlier entry was sent, and this the first
-- such earlier entry
pub record IsOutOfTime (r : Recording) (last first : ℕ) : Type 0 where
  pub order : first < last
  pub late : AreLate r first last
  pub before : (p q : ℕ) → p < q → q < last → AreLate r p q → ⊥
  pub least : (p : ℕ) → p < first → AreLate r p last → ⊥

-- ---- numbers

-- what the numbers below one give, added up
abbrev pub total_below : (ℕ → ℕ) → ℕ → ℕ
total_below of zero = 0
total_below of (suc count) = total_below of count + of count

-- the number of commands of the first `count` connections
abbrev pub commands_of_all : Recording → ℕ → ℕ
commands_of_all r count = total_below (λ conn. length (commands_in r.records conn)) count

-- these say of each command of a connection whether some mark ends it
pub record AreEndedFlags (r : Recording) (conn : ℕ) (flags : List Bool) : Type 0 where
  pub size : length flags ≡ length (commands_in r.records conn)
  pub each : (index : ℕ) (flag : Bool) → slice_get flags index ≡ Some flag
      → (flag ≡ true ↔ IsEnded r conn (numbered_of r conn index) (length r.records))

-- some mark ends this number of commands of the first `count` connections
pub record EndedOfAll (r : Recording) (count number : ℕ) : Type 0 where
  pub flags : ℕ → List Bool
  pub each : (conn : ℕ) → conn < count → AreEndedFlags r conn (flags conn)
  pub adds : number ≡ total_below (λ conn. trues (flags conn)) count

-- ---- what is found

-- the definition of each finding on a recording of `count` connections
abbrev pub HasTiming : Recording → ℕ → Timing → Type 0
HasTiming r count (InTime commands ended) =
    MarksFit r × IsInTime r × (commands ≡ commands_of_all r count) × EndedOfAll r count ended
HasTiming r count (EarlyEnd record_number) = IsEarlyEnd r record_number
HasTiming r count (OutOfTime entry after) = MarksFit r × IsOutOfTime r entry after
