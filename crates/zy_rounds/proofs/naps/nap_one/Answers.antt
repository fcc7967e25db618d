use Rattle.zy_rounds.proofs.AloneLemmas.{bell_same}
use Rattle.zy_rounds.proofs.naps.nap_one.Goals as goal

pub returns-clause-pass : goal.returns-clause-pass
returns-clause-pass g c = rw c.in_ok-nap.ensures.nap.rested (bell_same c.in_ok-nap.ensures.nap.loaded.control c.in_ok-nap.nap c.args.pass.now)
