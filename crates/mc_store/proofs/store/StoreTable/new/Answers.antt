use Rattle.std.proofs.Common.{ap, ◌∙◌, length}
use Rattle.mc_store.proofs.BeginLemmas.{opens_as, length-empties}
use Rattle.mc_store.proofs.store.StoreTable.new.Goals as goal

pub new-made-requires : goal.new-made-requires
new-made-requires c = opens_as c.args.shards _ _ (c.as_slice.ensures.value ∙ c.in-Ok.ensures.items_if_clones_equal (λ y e. e)) c.in-Ok-empty_shards.ensures.value

pub invariant_of-result : goal.invariant_of-result
invariant_of-result c = let a = c.in-Ok-made.ensures.ok in (a.0 ∙ c.as_slice.ensures.len ∙ c.in-Ok.ensures.len, a.1 ∙ ap length c.in-Ok-empty_shards.ensures.value ∙ length-empties c.args.shards c.args.shards, c.requires.some, c.requires.few)
