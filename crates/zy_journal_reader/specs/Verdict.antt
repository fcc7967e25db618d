-- The verdict on a whole text as a journal: the journal that it encodes, or its first fault. A text
-- is read from its first byte to its last. That it is good if and only if it is an encoding is a law
-- in src/laws.rt.
use Rattle.std.specs.Prelude.{◌≡◌, ℕ, ◌≤◌, Bool, true, false, List, length, ⊤, ◌+◌, ◌++◌, flat_map}
use Rattle.std.specs.List.{AllByRecursion}
use Rattle.zy_base.specs.declared.file_fault.FileFault.{FileFault}
use Rattle.mc_calls.specs.Bounds.{FitsEntry}
use Rattle.zy_read.specs.Format.{Format, verdict_on}
use Rattle.zy_journal.specs.declared.journal.Journal.{Journal}
use Rattle.zy_journal.specs.Journal.{IsJournal, journal_bytes, magic, entry_text, hold_text}
use Rattle.zy_read.specs.Fields.{format_of}
use Rattle.zy_journal_reader.specs.Steps.{ReadState, JournalProgress, journal_fields, journal_limit}

-- ---- a whole text

-- what a whole text is: the journal that it encodes, or its first fault
pub data JournalVerdict : Type 0 where
  Good : Journal → JournalVerdict
  Bad : FileFault → JournalVerdict

-- the journal that was read
abbrev pub journal_in : ReadState → Journal
journal_in s = record { entries = s.entries; holds = s.holds }

-- the verdict on a text that ends at its end
abbrev pub good_journal : ReadState → List ⊤ → JournalVerdict
good_journal s given = Good (journal_in s)

-- the format of journals; what a text gives is that the journal ended
abbrev pub journals : Format JournalProgress ⊤ FileFault JournalVerdict
journals = format_of journal_fields good_journal Bad

-- the verdict on a whole text
abbrev pub journal_verdict : List ℕ → JournalVerdict
journal_verdict text = verdict_on journals text

-- the text is a journal
abbrev pub is_good_journal : JournalVerdict → Bool
is_good_journal (Good journal) = true
is_good_journal (Bad fault) = false

-- ---- spellings

-- a journal that can be read: one with an encoding, whose numbers fit their bytes
pub record IsReadable (journal : Journal) : Type 0 where
  pub valid : IsJournal journal
  pub fits : AllByRecursion FitsEntry journal.entries

-- the text is the encoding of this journal, and not too long
pub record SpellsJournal (text : List ℕ) (journal : Journal) : Type 0 where
  pub readable : IsReadable journal
  pub spelled : text ≡ journal_bytes journal
  pub short : length text ≤ journal_limit

-- the bytes of a journal up to its end, or up to another record
abbrev pub journal_front : Journal → List ℕ
journal_front journal = magic ++ (flat_map entry_text journal.entries ++ flat_map hold_text journal.holds)
