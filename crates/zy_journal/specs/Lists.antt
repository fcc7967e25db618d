-- What contracts see of a journal.
use Rattle.std.specs.Prelude.{List}
use Rattle.mc_calls.specs.declared.entry.Entry.{Entry}
use Rattle.mc_calls.specs.declared.hold.Hold.{Hold}

-- the two lists of a journal
pub record JournalLists : Type 0 where
  -- by stamp and then by shard
  pub entries : List Entry
  -- by rising connection and, for one connection, in the order in which they happened
  pub holds : List Hold
