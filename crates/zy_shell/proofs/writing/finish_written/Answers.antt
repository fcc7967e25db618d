use Rattle.zy_base.proofs.WritingLemmas.{written_by, writes_finished, writes_last_failed}
use Rattle.zy_shell.proofs.writing.finish_written.Goals as goal

pub returns-in-Ok : goal.returns-in-Ok
returns-in-Ok g c = record {
  writes = λ first text written.
      writes_finished (written_by (rw c.in-Ok.is at written)) c.finish.ensures.bytes c.finish.ensures.count c.finish.ensures.cause c.finish.ensures.finished c.finish.ensures.last;
}

pub returns-in-Err : goal.returns-in-Err
returns-in-Err g c = record {
  writes = λ first text written. writes_last_failed (rw c.in-Err.is at written);
}
