use Rattle.std.proofs.Common.{ℕ, List, length}
use Rattle.std.specs.List.{AllByRecursion}
use Rattle.zy_base.proofs.WritingLemmas.{Written}
use Rattle.zy_journal.specs.Journal.{IsEntry, entry_text}
use Rattle.zy_journal.proofs.WriteLemmas.{AreTaken}
use Rattle.zy_journal.proofs.writing.write_entries.Given as goal

-- those that were taken were written
abbrev pub invariant-loop-entry : goal.invariant-loop-entry
invariant-loop-entry g l = record {
  text : List ℕ;
  written : Written g.K.Sink.holds g.K.Sink.faults g.K.Sink.finishes l.initial.sink l.sink text;
  taken : AreTaken entry_text l.fn.entries l.left text;
  fits : AllByRecursion IsEntry l.left;
}

abbrev pub decreases-loop-entry : goal.decreases-loop-entry
decreases-loop-entry g l = length l.left
