use Rattle.zygos_judge.proofs.CallLemmas.{store_so}
use Rattle.zygos_judge.proofs.refuting.store_at.Goals as goal

pub returns : goal.returns
returns c = record { store = store_so c.args.lasting.now.keys c.args.rules c.args.sessions.now c.args.key.now c.may_lose.result c.may_lose.ensures.lost }
