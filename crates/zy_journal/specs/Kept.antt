-- The entries of a journal by how they are kept. No public clause cites this module.
use Rattle.std.specs.Prelude.{◌≤◌, List, length, ⊤}
use Rattle.mc_calls.specs.declared.entry.Entry.{Entry}
use Rattle.zy_journal.specs.declared.journal.Kept.{Kept}
use Rattle.zy_journal.specs.declared.journal.Kept.TheVariants.{Listed, Apart}
use Rattle.zy_journal.specs.Merged.{AreInOrder, merged}

-- the list, or the merge of the histories
abbrev pub entries_of : Kept → List Entry
entries_of (Listed entries) = entries
entries_of (Apart histories) = merged histories.items

-- histories can be merged
abbrev pub IsKept : Kept → Type 0
IsKept (Listed entries) = ⊤
IsKept (Apart histories) = (length histories.items ≤ 256) × AreInOrder histories.items
