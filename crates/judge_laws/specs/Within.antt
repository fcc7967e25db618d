-- Calls that lie between the sending and the recorded end of their commands.
use Rattle.std.specs.Prelude.{◌≡◌, ℕ, length, Some}
use Rattle.std.specs.List.{slice_get}
use Rattle.mc_calls.specs.declared.entry.Entry.{Entry}
use Rattle.zy_times.specs.Recording.{Recording}
use Rattle.zy_times.specs.InTime.{IsEntrySent, IsEntryEnded}

-- a call has a moment at which its command is sent and not ended, and at the last moment the command is ended
pub record LiesWithin (r : Recording) (e : Entry) : Type 0 where
  pub moment : ℕ
  pub sent : IsEntrySent r e moment
  pub unended : IsEntryEnded r e moment → ⊥
  pub ended : IsEntryEnded r e (length r.records)

-- so for each entry of the journal
abbrev pub AllLieWithin : Recording → Type 0
AllLieWithin r = (p : ℕ) (e : Entry) → slice_get r.entries p ≡ Some e → LiesWithin r e
