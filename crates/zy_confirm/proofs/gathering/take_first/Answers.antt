use Rattle.zy_confirm.proofs.GatherLemmas.{taken_one, keys_one}
use Rattle.zy_confirm.proofs.gathering.take_first.Goals as goal

pub returns-in-Ok-clause-taken : goal.returns-in-Ok-clause-taken
returns-in-Ok-clause-taken c key =
    taken_one c.args.items.now.items c.push.new.self.items c.args.all.now c.pop_first.new.self (record { key = c.in-Some.key; item = c.in-Some.item }) c.in-Some.ensures.value
    c.in-Some.ensures.updates c.in-Ok.ensures.items key

pub returns-in-Ok-clause-keys : goal.returns-in-Ok-clause-keys
returns-in-Ok-clause-keys c =
    keys_one c.args.items.now.items c.push.new.self.items c.args.all.now c.pop_first.new.self (record { key = c.in-Some.key; item = c.in-Some.item }) c.in-Some.ensures.removal c.in-Ok.ensures.items
