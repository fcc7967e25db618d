use Rattle.std.proofs.Common.{◌-◌, drop}
use Rattle.zy_explain.specs.Beginning.{HoldsItems}
use Rattle.zy_explain.proofs.beginning.put_items.Given as goal

-- the items from a place on were put
abbrev pub invariant-loop-done : goal.invariant-loop-done
invariant-loop-done l = HoldsItems l.shards (drop (l.count - l.done) l.items) l.store
