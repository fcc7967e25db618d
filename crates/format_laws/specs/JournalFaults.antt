-- The faults of a journal, docs/FORMATS.md, "Journal": which texts have one of them. Each is the first invalid field,
-- after bytes that encode the beginning of a journal. That the verdict on a text is bad with a fault if and only if the
-- text has it is a law in src/journals.rt.
use Rattle.zy_journal_reader.specs.Verdict.{journal_front, IsReadable, SpellsJournal}
use Rattle.std.specs.Prelude.{◌≡◌, ◌⊎◌, ℕ, ◌+◌, ◌^◌, ◌<◌, ◌≤◌, List, [], ◌∷◌, ◌++◌, length}
use Rattle.std.specs.Int.{to_be_bytes, w32}
use Rattle.mc_calls.specs.declared.entry.Entry.{Entry}
use Rattle.mc_calls.specs.declared.hold.Hold.{Hold}
use Rattle.zy_base.specs.declared.file_fault.FileFault.{FileFault}
use Rattle.zy_base.specs.declared.file_fault.FileFault.TheVariants.{Truncated, TooLong}
use Rattle.zy_journal.specs.declared.journal.Journal.{Journal}
use Rattle.zy_journal.specs.Journal.{magic, journal_bytes}
use Rattle.zy_journal_reader.specs.Steps.{journal_limit}
use Rattle.zy_journal_reader.specs.Last.{last_one}
use Rattle.format_laws.specs.Faults.{IsWrongForm, HasFaultBy}
use Rattle.format_laws.specs.JournalFields.{number_text, range, EntryField, shape_of, before, IsLawfulNumber}
use Rattle.format_laws.specs.JournalFields.{IsLawfulUpTo, HoldField, before_in_hold, IsLawfulInHold, IsHoldUpTo}

-- ---- beginnings

-- a text goes on with `tail` after the records of a journal, which have `at` bytes with the magic
-- before them
pub record JournalGoesOn (text : List ℕ) (journal : Journal) (at : ℕ) (tail : List ℕ) : Type 0 where
  pub readable : IsReadable journal
  pub whole : text ≡ journal_front journal ++ tail
  pub place : at ≡ length (journal_front journal)

-- ---- a field that is wrong

-- the text has the first bytes of the magic, and then another byte than the magic
pub record IsBadJournalMagic (text : List ℕ) (at : ℕ) : Type 0 where
  pub front : List ℕ
  pub right : ℕ
  pub others : List ℕ
  pub byte : ℕ
  pub rest : List ℕ
  pub begins : magic ≡ front ++ right ∷ others
  pub whole : text ≡ front ++ byte ∷ rest
  pub place : at ≡ length front
  pub differs : byte ≡ right → ⊥

-- where a record or the end is expected, there is another byte, or an entry after a hold
pub record IsBadJournalTag (text : List ℕ) (at : ℕ) : Type 0 where
  pub journal : Journal
  pub byte : ℕ
  pub rest : List ℕ
  pub front : JournalGoesOn text journal at (byte ∷ rest)
  pub no_entry : journal.holds ≡ [] → byte ≡ 74 → ⊥
  pub no_hold : byte ≡ 72 → ⊥
  pub no_end : byte ≡ 69 → ⊥
  pub within : at < journal_limit

-- the number in a field of an entry is invalid; what comes before it is
pub record IsBadEntry (text : List ℕ) (at : ℕ) : Type 0 where
  pub journal : Journal
  pub no_hold : journal.holds ≡ []
  pub field : EntryField
  pub entry : Entry
  pub number : ℕ
  pub tag_at : ℕ
  pub rest : List ℕ
  pub front : JournalGoesOn text journal tag_at (before field entry ++ (number_text (shape_of field) number ++ rest))
  pub lawful : IsLawfulUpTo field (last_one journal.entries) entry
  pub wrong : IsLawfulNumber field (last_one journal.entries) entry number → ⊥
  pub fits : number < range (shape_of field)
  pub place : at ≡ tag_at + length (before field entry)
  pub within : at + length (number_text (shape_of field) number) ≤ journal_limit

-- the number in a field of a hold is invalid; what comes before it is
pub record IsBadHold (text : List ℕ) (at : ℕ) : Type 0 where
  pub journal : Journal
  pub field : HoldField
  pub hold : Hold
  pub number : ℕ
  pub tag_at : ℕ
  pub rest : List ℕ
  pub front : JournalGoesOn text journal tag_at (before_in_hold field hold ++ (to_be_bytes w32 number ++ rest))
  pub lawful : IsHoldUpTo field (last_one journal.holds) hold
  pub wrong : IsLawfulInHold field (last_one journal.holds) number → ⊥
  pub fits : number < 2 ^ 32
  pub place : at ≡ tag_at + length (before_in_hold field hold)
  pub within : at + 4 ≤ journal_limit

-- a byte follows a journal
pub record FollowsJournal (text : List ℕ) (at : ℕ) : Type 0 where
  pub journal : Journal
  pub byte : ℕ
  pub rest : List ℕ
  pub readable : IsReadable journal
  pub whole : text ≡ journal_bytes journal ++ byte ∷ rest
  pub place : at ≡ length (journal_bytes journal)
  pub within : at ≤ journal_limit

-- ---- faults

-- a field of the text is wrong, or a byte comes after the end
abbrev pub IsWrongJournal : List ℕ → ℕ → Type 0
IsWrongJournal text at =
    IsBadJournalMagic text at ⊎ (IsBadJournalTag text at
    ⊎ (IsBadEntry text at ⊎ (IsBadHold text at ⊎ FollowsJournal text at)))

-- the text is a journal
abbrev pub IsAnyJournal : List ℕ → Type 0
IsAnyJournal text = (journal : Journal) × SpellsJournal text journal

-- the text has this fault
abbrev pub HasFaultAsJournal : List ℕ → FileFault → Type 0
HasFaultAsJournal text fault =
    HasFaultBy journal_limit Truncated TooLong IsAnyJournal (IsWrongForm IsWrongJournal) text fault
