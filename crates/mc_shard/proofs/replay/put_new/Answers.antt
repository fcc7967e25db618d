use Rattle.std.proofs.Common.{[], ◌∷◌, ◌++◌, List, ap, sym, subst, ◌∙◌, arith}
use Rattle.std.specs.Prelude.{Some}
use Rattle.mc_calls.specs.Shard.{State}
use Rattle.mc_history.specs.declared.stored_item.StoredItem.{StoredItem}
use Rattle.mc_history.specs.Recorded.{keyed}
use Rattle.mc_shard.specs.Contents.{with_item}
use Rattle.mc_shard.specs.Places.{all_keys, AreLines, SamePlaces, IsSpot}
use Rattle.mc_shard.specs.Index.{IsIndex, contents_in}
use Rattle.mc_shard.proofs.IndexLemmas.{placed_index, placed_contents, index_same, contents_same}
use Rattle.mc_shard.proofs.replay.put_new.Goals as goal

pub returns-in-Ok-ready-clause-ok : goal.returns-in-Ok-ready-clause-ok
returns-in-Ok-ready-clause-ok c =
    placed_contents c.args.stored.now.items c.push_reserved.new.self.items c.ready.new.self c.put.new.self c.args.key.now c.in-Ok.place (keyed c.in-Ok-copied_key.copy c.args.item) c.in-Ok-ready.spot
    (index_same c.args.stored.now.items c.args.contents.now c.ready.new.self c.requires.index (subst (λ (s : List StoredItem). AreLines s c.ready.new.self.places.lines) c.reserve.ensures.items c.ready.ensures.lines) (subst (λ (s : List StoredItem). SamePlaces (all_keys s c.args.contents.now.places) (all_keys s c.ready.new.self.places)) c.reserve.ensures.items c.ready.ensures.same) c.ready.ensures.count c.ready.ensures.counts)
    (subst (λ (s : List StoredItem). IsSpot s c.ready.new.self.places c.args.key.now c.in-Ok-ready.spot) c.reserve.ensures.items c.in-Ok-ready.ensures.spot)
    (c.push_reserved.ensures.items ∙ ap (λ (s : List StoredItem). s ++ keyed c.in-Ok-copied_key.copy c.args.item ∷ []) c.reserve.ensures.items) (omega arith) c.in-Ok-copied_key.ensures.value
    c.put.ensures.places c.put.ensures.count c.put.ensures.counts
    ∙ ap (λ (s : State). with_item s (Some c.args.key.now) c.args.item) (contents_same c.args.stored.now.items c.args.contents.now c.ready.new.self c.requires.index (subst (λ (s : List StoredItem). AreLines s c.ready.new.self.places.lines) c.reserve.ensures.items c.ready.ensures.lines) (subst (λ (s : List StoredItem). SamePlaces (all_keys s c.args.contents.now.places) (all_keys s c.ready.new.self.places)) c.reserve.ensures.items c.ready.ensures.same) c.ready.ensures.count c.ready.ensures.counts)

pub returns-in-Ok-ready-clause-index : goal.returns-in-Ok-ready-clause-index
returns-in-Ok-ready-clause-index c =
    placed_index c.args.stored.now.items c.push_reserved.new.self.items c.ready.new.self c.put.new.self c.args.key.now c.in-Ok.place (keyed c.in-Ok-copied_key.copy c.args.item) c.in-Ok-ready.spot
    (index_same c.args.stored.now.items c.args.contents.now c.ready.new.self c.requires.index (subst (λ (s : List StoredItem). AreLines s c.ready.new.self.places.lines) c.reserve.ensures.items c.ready.ensures.lines) (subst (λ (s : List StoredItem). SamePlaces (all_keys s c.args.contents.now.places) (all_keys s c.ready.new.self.places)) c.reserve.ensures.items c.ready.ensures.same) c.ready.ensures.count c.ready.ensures.counts)
    (subst (λ (s : List StoredItem). IsSpot s c.ready.new.self.places c.args.key.now c.in-Ok-ready.spot) c.reserve.ensures.items c.in-Ok-ready.ensures.spot)
    (c.push_reserved.ensures.items ∙ ap (λ (s : List StoredItem). s ++ keyed c.in-Ok-copied_key.copy c.args.item ∷ []) c.reserve.ensures.items) (omega arith) c.in-Ok-copied_key.ensures.value
    c.put.ensures.places c.put.ensures.count c.put.ensures.counts

pub returns-in-Err-ready-clause-err : goal.returns-in-Err-ready-clause-err
returns-in-Err-ready-clause-err c =
    ap (λ (s : List StoredItem). contents_in s c.ready.new.self) c.reserve.ensures.items ∙ contents_same c.args.stored.now.items c.args.contents.now c.ready.new.self c.requires.index (subst (λ (s : List StoredItem). AreLines s c.ready.new.self.places.lines) c.reserve.ensures.items c.ready.ensures.lines) (subst (λ (s : List StoredItem). SamePlaces (all_keys s c.args.contents.now.places) (all_keys s c.ready.new.self.places)) c.reserve.ensures.items c.ready.ensures.same) c.ready.ensures.count c.ready.ensures.counts

pub returns-in-Err-ready-clause-index : goal.returns-in-Err-ready-clause-index
returns-in-Err-ready-clause-index c =
    subst (λ (s : List StoredItem). IsIndex s c.ready.new.self) (sym c.reserve.ensures.items) (index_same c.args.stored.now.items c.args.contents.now c.ready.new.self c.requires.index (subst (λ (s : List StoredItem). AreLines s c.ready.new.self.places.lines) c.reserve.ensures.items c.ready.ensures.lines) (subst (λ (s : List StoredItem). SamePlaces (all_keys s c.args.contents.now.places) (all_keys s c.ready.new.self.places)) c.reserve.ensures.items c.ready.ensures.same) c.ready.ensures.count c.ready.ensures.counts)
