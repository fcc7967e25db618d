use Rattle.std.proofs.Common.{refl}
use Rattle.zy_base.proofs.WritingLemmas.{writes_cut, writes_last_then}
use Rattle.zygos_run.proofs.LastLemmas.{last_failed}
use Rattle.zygos_run.proofs.run.write_all.Goals as goal

pub returns-in_err-write_front : goal.returns-in_err-write_front
returns-in_err-write_front g c = record {
  writes = last_failed c.from_residual.ensures.0 (writes_cut _ refl c.in_err-write_front.ensures.writes);
}

pub returns : goal.returns
returns g c = record {
  writes = writes_last_then c.in_ok-write_front.ensures.writes c.write_back.ensures.writes;
}
