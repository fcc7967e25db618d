use Rattle.zy_base.proofs.WritingLemmas.{writes_then, writes_cut}
use Rattle.zy_journal.specs.Journal.{journal_bytes}
use Rattle.zy_journal.proofs.writing.write_journal.Goals as goal

pub returns-in_err-write_whole : goal.returns-in_err-write_whole
unfolding journal_bytes
returns-in_err-write_whole g c = record {
  writes = writes_cut _ c.from_residual.ensures.0 c.in_err-write_whole.ensures.writes;
}

pub returns-in_err-write_entries : goal.returns-in_err-write_entries
unfolding journal_bytes
returns-in_err-write_entries g c = record {
  writes = rw (← c.entries.ensures.value) (writes_then c.in_ok-write_whole.ensures.writes
      (writes_cut _ c.from_residual-in_err-write_entries.ensures.0 c.in_err-write_entries.ensures.writes));
}

pub returns-in_err-write_holds : goal.returns-in_err-write_holds
unfolding journal_bytes
returns-in_err-write_holds g c = record {
  writes = rw (← c.entries.ensures.value, ← c.holds.ensures.value) (writes_then c.in_ok-write_whole.ensures.writes
      (writes_then c.in_ok-write_entries.ensures.writes
      (writes_cut _ c.from_residual-in_err-write_holds.ensures.0 c.in_err-write_holds.ensures.writes)));
}

pub returns : goal.returns
unfolding journal_bytes
returns g c = record {
  writes = rw (← c.entries.ensures.value, ← c.holds.ensures.value) (writes_then c.in_ok-write_whole.ensures.writes
      (writes_then c.in_ok-write_entries.ensures.writes
      (writes_then c.in_ok-write_holds.ensures.writes c.write_whole-2.ensures.writes)));
}
