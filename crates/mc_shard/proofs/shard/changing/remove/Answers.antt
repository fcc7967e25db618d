use Rattle.std.proofs.Common.{List, ℕ, ap, sym, subst, ◌∙◌}
use Rattle.std.specs.Prelude.{Some}
use Rattle.mc_history.specs.declared.stored_item.StoredItem.{StoredItem}
use Rattle.mc_shard.specs.Contents.{without_item}
use Rattle.mc_shard.specs.Index.{IsIndex, contents_in}
use Rattle.mc_shard.proofs.IndexLemmas.{index_out, contents_out, some_counted}
use Rattle.mc_shard.proofs.shard.changing.remove.Goals as goal

pub remove-requires : goal.remove-requires
remove-requires c =
    let index = subst (λ (s : List StoredItem). IsIndex s c.args.contents.now) (sym c.keep.ensures.stored) c.requires.index in
    record { lines = index.lines; some = some_counted c.keep.new.ledger.stored c.args.contents.now c.sought.result index }

pub returns-in-Ok-clause-ok : goal.returns-in-Ok-clause-ok
returns-in-Ok-clause-ok c =
    let index = subst (λ (s : List StoredItem). IsIndex s c.args.contents.now) (sym c.keep.ensures.stored) c.requires.index in
    contents_out c.keep.new.ledger.stored c.args.contents.now c.remove.new.self c.sought.result index c.remove.ensures.lines c.remove.ensures.places c.remove.ensures.count c.remove.ensures.counts
    ∙ ap (λ (s : List StoredItem). without_item (contents_in s c.args.contents.now) (Some c.sought.result)) c.keep.ensures.stored
    ∙ ap (λ (k : List ℕ). without_item (contents_in c.args.ledger.now.stored c.args.contents.now) (Some k)) c.sought.ensures.value

pub returns-in-Ok-clause-index : goal.returns-in-Ok-clause-index
returns-in-Ok-clause-index c =
    let index = subst (λ (s : List StoredItem). IsIndex s c.args.contents.now) (sym c.keep.ensures.stored) c.requires.index in
    index_out c.keep.new.ledger.stored c.args.contents.now c.remove.new.self c.sought.result index c.remove.ensures.lines c.remove.ensures.places c.remove.ensures.count c.remove.ensures.counts
