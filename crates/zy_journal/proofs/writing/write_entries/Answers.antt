use Rattle.std.proofs.Common.{[], ◌++◌, subst}
use Rattle.std.specs.List.{AllByRecursion}
use Rattle.zy_base.proofs.WritingLemmas.{written_none, written_on, writes_all, writes_after, writes_as, writes_cut}
use Rattle.zy_journal.specs.Journal.{IsEntry, entry_text}
use Rattle.zy_journal.proofs.WriteLemmas.{none_taken, one_taken, one_and_rest, all_taken}
use Rattle.zy_journal.proofs.writing.write_entries.Goals as goal

pub loop-entry-init : goal.loop-entry-init
loop-entry-init g c = record {
  text = [];
  written = written_none;
  taken = none_taken entry_text c.args.entries;
  fits = c.requires.fits;
}

pub returns-in_err-write_entry : goal.returns-in_err-write_entry
returns-in_err-write_entry g c = record {
  writes = writes_as (one_and_rest c.loop-entry.invariant.taken c.in-Some.ensures.some)
      (writes_after c.loop-entry.invariant.written (writes_cut _ c.from_residual.ensures.0 c.in_err-write_entry.ensures.writes));
}

pub loop-entry-preserved : goal.loop-entry-preserved
loop-entry-preserved g c = record {
  text = c.loop-entry.invariant.text ++ entry_text c.in-Some.entry;
  written = written_on c.loop-entry.invariant.written c.in_ok-write_entry.ensures.writes;
  taken = one_taken c.loop-entry.invariant.taken c.in-Some.ensures.some;
  fits = (subst (AllByRecursion IsEntry) c.in-Some.ensures.some c.loop-entry.invariant.fits).1;
}

pub returns : goal.returns
returns g c = record {
  writes = writes_as (all_taken c.loop-entry.invariant.taken c.in_default.ensures.none) (writes_all c.loop-entry.invariant.written);
}
