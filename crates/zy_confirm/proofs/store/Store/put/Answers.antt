use Rattle.std.proofs.Common.{rules, ℕ, List, Some, refl, sym, ◌∙◌, subst}
use Rattle.std.specs.Ordering.{nat_cmp}
use Rattle.std.specs.Cmp.Lexicographic.{slice_cmp}
use Rattle.std.specs.BTreeMap.{Updates}
use Rattle.std.proofs.lemmas.Option.{slice_get_read}
use Rattle.zy_confirm.proofs.StoreLemmas.{put_changes}
use Rattle.zy_confirm.proofs.store.Store.put.Goals as goal

pub returns-in-Ok-insert : goal.returns-in-Ok-insert
returns-in-Ok-insert c = record {
  changed = λ new.
      let old = c.args.self.now in
      put_changes old _ c.args.key.now c.args.shard c.index_mut.result.now c.insert-2.new.self c.requires.within c.requires.own
      (slice_get_read old.shards.items _ c.args.shard c.index_mut.result.now refl c.requires.within c.index_mut.ensures.value) refl
      c.args.item (subst (λ (k : List ℕ). Updates (slice_cmp nat_cmp) c.index_mut.result.now c.insert-2.new.self k (Some c.args.item)) c.in-Ok.ensures.value c.in-Ok-insert.ensures.updates) refl c.mark_of-mark.result c.mark_of-mark.ensures.value (sym c.in-Ok-true.field-0-test ∙ c.in-Ok-true.ensures.added) c.in-Ok-true.ensures.updates.0 c.in-Ok-true.ensures.updates.1
      (search rules) (search rules) (search rules);
}
