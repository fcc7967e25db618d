use Rattle.mc_shard.proofs.step.step_with.Goals as goal

pub returns-in-Incr : goal.returns-in-Incr
returns-in-Incr c = rw c.in-Incr.is (record { value = c.count_up.ensures.value c.in-Incr.key })

pub returns-in-Decr : goal.returns-in-Decr
returns-in-Decr c = rw c.in-Decr.is (record { value = c.count_down.ensures.value c.in-Decr.key })
