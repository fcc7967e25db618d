use Rattle.std.proofs.Common.{rules, ap, ◌∙◌, arith}
use Rattle.mc_store.specs.Steps.{Seated, traced, loads}
use Rattle.mc_store.proofs.TryLemmas.{looks}
use Rattle.mc_store.proofs.CallLemmas.{takes_as}
use Rattle.mc_store.proofs.store.StoreTable.take.Goals as goal

pub load-loaded-requires : goal.load-loaded-requires
load-loaded-requires c = (search rules, search rules, looks _ _ _ _)

pub compare_exchange-found-requires : goal.compare_exchange-found-requires
compare_exchange-found-requires c = (
  search rules,
  search rules,
  takes_as _ _ c.args.conn _ _ _ _ _ (c.load-loaded.ensures.2 ∙ ap (λ (m : Seated). (traced (loads c.args.shard c.load-loaded.result) m.0, m.1)) c.requires.idle) (omega arith)
      (let v = ap (λ s. s.shards) c.self.view_is in let i = c.self.invariant in omega arith) c.requires.few,
)
