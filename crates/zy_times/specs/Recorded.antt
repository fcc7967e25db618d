-- What the times of a recording are found from. Public clauses cite only `IsRecorded` of this module.
use Rattle.std.specs.Prelude.{◌≡◌, ℕ, ◌<◌, ◌≤◌, Bool, List, length, Option, None, Some}
use Rattle.std.specs.List.{slice_get}
use Rattle.mc_calls.specs.declared.entry.Entry.{Entry}
use Rattle.mc_calls.specs.Order.{of_connection}
use Rattle.zy_run.specs.Commands.{commands_in}
use Rattle.zy_check.specs.Answered.{answered_by}
use Rattle.zy_times.specs.declared.late.Late.{Late}
use Rattle.zy_times.specs.declared.times.Times.{Times}
use Rattle.zy_times.specs.declared.timing.Timing.{Timing}
use Rattle.zy_times.specs.declared.timing.Timing.TheVariants.{InTime}
use Rattle.zy_times.specs.Recording.{Recording}
use Rattle.zy_times.specs.InTime.{IsEntrySent, IsEntryEnded, AreOfCommands, AreLate, commands_of_all, EndedOfAll}
use Rattle.zy_times.specs.Line.{TimesHold}
use Rattle.zy_times.specs.Times.{marks_in}

-- which of a connection's commands are answered, of all its sessions
abbrev pub flags_in : Recording → ℕ → List Bool
flags_in r conn = answered_by (commands_in r.records conn) (of_connection conn r.entries)

-- these are the times of a recording's records, and this is which of its commands are answered
pub record IsKept (r : Recording) (count : ℕ) (times : Times) (answered : List (List Bool)) : Type 0 where
  pub times_hold : TimesHold times count r.records
  pub size : length answered ≡ count
  pub flags : (conn : ℕ) (fs : List Bool) → slice_get answered conn ≡ Some fs → fs ≡ flags_in r conn

-- each entry is of one of the commands of `count` connections
pub record IsOfRun (r : Recording) (count : ℕ) : Type 0 where
  pub connections : (p : ℕ) (e : Entry) → slice_get r.entries p ≡ Some e → e.tag.conn < count
  pub commands : AreOfCommands r

-- the recording, its times, its answered commands and its entries belong together
pub record IsRecorded (r : Recording) (count : ℕ) (times : Times) (answered : List (List Bool)) (entries : List Entry)
    : Type 0 where
  pub kept : IsKept r count times answered
  pub of_run : IsOfRun r count
  pub entries_are : r.entries ≡ entries

-- no mark is of another connection than the first `count`
abbrev pub OthersHaveNoMarks : Recording → ℕ → Type 0
OthersHaveNoMarks r count = (conn session : ℕ) → count ≤ conn → marks_in r.records conn session ≡ 0

-- the numbers of commands, and of those that some mark ends
abbrev pub HasNumbers : Recording → ℕ → Timing → Type 0
HasNumbers r count (InTime commands ended) = (commands ≡ commands_of_all r count) × EndedOfAll r count ended
HasNumbers r count timing = ⊥

-- the command of an entry before this one was not sent at a moment
abbrev pub HasUnsentBefore : Recording → ℕ → ℕ → Type 0
HasUnsentBefore r at moment =
    (p : ℕ) × (p < at) × ((e : Entry) × (slice_get r.entries p ≡ Some e) × (IsEntrySent r e moment → ⊥))

-- the command of this entry had ended at this moment, which is the first, when that of an earlier one was not sent
pub record IsLateAt (r : Recording) (at moment : ℕ) : Type 0 where
  pub e : Entry
  pub is : slice_get r.entries at ≡ Some e
  pub ended : IsEntryEnded r e moment
  pub first : (other : ℕ) → IsEntryEnded r e other → moment ≤ other
  pub unsent : HasUnsentBefore r at moment
  pub before : (p q : ℕ) → p < q → q < at → AreLate r p q → ⊥

-- no entry is late, or this is the first that is
abbrev pub FoundLate : Recording → Option Late → Type 0
FoundLate r None = (p q : ℕ) → p < q → AreLate r p q → ⊥
FoundLate r (Some late) = IsLateAt r late.entry late.moment

-- this is the first entry whose command was not sent at a moment
pub record IsFirstUnsent (r : Recording) (moment at : ℕ) : Type 0 where
  pub e : Entry
  pub is : slice_get r.entries at ≡ Some e
  pub unsent : IsEntrySent r e moment → ⊥
  pub before : (p : ℕ) (other : Entry) → p < at → slice_get r.entries p ≡ Some other → IsEntrySent r other moment

-- what came before an entry when it is checked: no earlier one is late, and `latest` is the first moment at which
-- the commands of all earlier ones were sent
pub record CameBefore (r : Recording) (at latest : ℕ) : Type 0 where
  pub none : (p q : ℕ) → p < q → q < at → AreLate r p q → ⊥
  pub sent : (p : ℕ) (e : Entry) → p < at → slice_get r.entries p ≡ Some e → IsEntrySent r e latest
  pub unsent : (moment : ℕ) → moment < latest → HasUnsentBefore r at moment
