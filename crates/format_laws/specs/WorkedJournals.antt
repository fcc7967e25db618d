-- Beginnings of example journals, and texts that are near their most bytes.
use Rattle.std.specs.Prelude.{ℕ, List, ◌++◌, codes, Option}
use Rattle.zy_base.specs.declared.file_fault.FileFault.{FileFault}
use Rattle.zy_journal_reader.specs.declared.due.Due.TheVariants as Dues
use Rattle.zy_journal_reader.specs.declared.due.ByteField.TheVariants as Fields
use Rattle.zy_read.specs.Fields.{at_state}
use Rattle.zy_journal_reader.specs.Steps.{journal_start}
use Rattle.format_laws.specs.JournalMet.{journal_read_from}

-- the magic, followed by this
abbrev pub with_magic : List ℕ → List ℕ
with_magic text = codes "ZYGJRN1\n" ++ text

-- an entry at stamp 1 on shard 12, with this after the number of its call
abbrev pub with_call : List ℕ → List ℕ
with_call text = with_magic (codes "J\0\0\0\0\0\0\0\u{1}\0\0\0\u{c}\0\0\0\0\0\0\0\0\0\0\0\0\0\0\0\0" ++ text)

-- a flush at stamp 2 on shard 3, followed by this
abbrev pub behind_entry : List ℕ → List ℕ
behind_entry text =
    with_magic (codes "J\0\0\0\0\0\0\0\u{2}\0\0\0\u{3}\0\0\0\0\0\0\0\0\0\0\0\0\0\0\0\0\u{b}\u{b}" ++ text)

-- a hold of connection 1, followed by this
abbrev pub behind_hold : List ℕ → List ℕ
behind_hold text = with_magic (codes "H\0\0\0\u{1}\0\0\0\0\0\0\0\u{1}" ++ text)

-- the fault that is met in a text after the first `at` bytes of a journal, when a record is
-- expected
abbrev pub met_in_journal : ℕ → List ℕ → Option FileFault
met_in_journal at text =
    (journal_read_from (at_state (record journal_start { due = Dues.Byte Fields.Tag }) at) text).last.fault
