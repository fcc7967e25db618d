use Rattle.std.proofs.Common.{◌≡◌}
use Rattle.zy_confirm.specs.declared.store.Store.{Store}
use Rattle.zy_confirm.specs.Store.{store_shards}
use Rattle.zy_explain.specs.Following.{StandsSome}
use Rattle.zy_explain.proofs.confirming.follow_order.Given as goal

abbrev pub invariant-loop-placement : goal.invariant-loop-placement
invariant-loop-placement l = record {
  shards : store_shards l.state.store ≡ l.rules.shards;
  stands : (began : Store) → StandsSome l.rules l.lasting l.sessions l.outputs.sessions began l.fn.state
      → StandsSome l.rules l.lasting l.sessions l.outputs.sessions began l.state;
}
