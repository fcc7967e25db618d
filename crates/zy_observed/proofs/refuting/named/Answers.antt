use Rattle.zy_observed.proofs.KeyLemmas.{refuted_apart}
use Rattle.zy_observed.proofs.refuting.named.Goals as goal

pub returns-in-Some-clause-none : goal.returns-in-Some-clause-none
returns-in-Some-clause-none c = refuted_apart c.args.shards c.args.store c.args.calls.now c.args.own.now c.args.key.now c.args.at c.requires.own c.requires.refuted
