use Rattle.std.proofs.Common.{refl, arith}
use Rattle.std.proofs.lemmas.Option.{slice_get_read}
use Rattle.zy_confirm.proofs.StoreLemmas.{gone_changes}
use Rattle.zy_confirm.proofs.store.Store.remove.Goals as goal

pub returns : goal.returns
returns c = record {
  changed =
      let old = c.args.self.now in
      gone_changes old _ c.args.key.now c.args.shard c.index_mut.result.now c.remove.new.self c.requires.within c.requires.own
      (slice_get_read old.shards.items _ c.args.shard c.index_mut.result.now refl c.requires.within c.index_mut.ensures.value) refl
      c.remove.ensures.updates refl refl (refl, omega arith);
}
