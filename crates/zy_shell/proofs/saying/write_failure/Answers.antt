use Rattle.zy_base.proofs.WritingLemmas.{writes_cut, writes_then}
use Rattle.zy_shell.proofs.saying.write_failure.Goals as goal

pub returns-in_err-write_beginning : goal.returns-in_err-write_beginning
returns-in_err-write_beginning g c = record {
  writes = writes_cut _ c.from_residual.ensures.0 c.in_err-write_beginning.ensures.writes;
}

pub returns : goal.returns
returns g c = record {
  writes = writes_then c.in_ok-write_beginning.ensures.writes c.write_reason.ensures.writes;
}
