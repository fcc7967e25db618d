use Rattle.std.proofs.Common.{rules, ◌≡◌, [], Some, subst}
use Rattle.std.specs.List.{slice_get}
use Rattle.zy_check.proofs.ListLemmas.{each_pushed}
use Rattle.zy_confirm.proofs.store.Store.new.Goals as goal

pub loop-preserved : goal.loop-preserved
loop-preserved c = record {
  size = search rules;
  room = search rules;
  empty = λ s items is.
      each_pushed (λ n. λ m. m.entries ≡ []) c.loop.made.items _ c.loop.invariant.empty (λ k. c.new.ensures.empty) s items
      (subst (λ l. slice_get l s ≡ Some items) c.push_reserved.ensures.items is);
}
