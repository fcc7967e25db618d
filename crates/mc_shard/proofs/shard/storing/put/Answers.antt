use Rattle.std.proofs.Common.{List, ℕ, refl, ap, sym, subst, ◌∙◌}
use Rattle.std.specs.Prelude.{Some}
use Rattle.mc_calls.specs.Shard.{State}
use Rattle.mc_history.specs.declared.stored_item.StoredItem.{StoredItem}
use Rattle.mc_history.specs.Recorded.{Recorded, keyed}
use Rattle.mc_shard.specs.Contents.{with_item}
use Rattle.mc_shard.specs.Places.{IsSpot, IsPut}
use Rattle.mc_shard.specs.Index.{IsIndex, contents_in}
use Rattle.mc_shard.proofs.IndexLemmas.{last_key, placed_index, placed_contents, index_same, contents_same}
use Rattle.mc_shard.proofs.shard.storing.put.Goals as goal

pub returns-in-Ok-push_set-clause-put : goal.returns-in-Ok-push_set-clause-put
returns-in-Ok-push_set-clause-put c =
    let longer = ap (λ (l : Recorded). l.stored) c.in-Ok-push_set.ensures.ok in
    let lent = ap (λ (s : StoredItem). s.key) c.stored.ensures.value
    ∙ last_key c.args.ledger.now.stored c.push_set.new.self.stored (keyed c.args.key c.args.item) c.in-Ok.place longer c.in-Ok.ensures.value in
    placed_contents c.args.ledger.now.stored c.push_set.new.self.stored c.ready.new.self c.put.new.self c.args.key c.in-Ok.place (keyed c.args.key c.args.item) c.in-Ok-ready.spot
    (index_same c.args.ledger.now.stored c.args.contents.now c.ready.new.self c.requires.index c.ready.ensures.lines c.ready.ensures.same c.ready.ensures.count c.ready.ensures.counts)
    (subst (λ (k : List ℕ). IsSpot c.args.ledger.now.stored c.ready.new.self.places k c.in-Ok-ready.spot) c.with_hash.ensures.value c.in-Ok-ready.ensures.spot)
    longer c.in-Ok.ensures.value refl
    (subst (λ (k : List ℕ). IsPut c.ready.new.self.places k c.in-Ok-ready.spot c.in-Ok.place c.put.new.self.places) (c.with_hash-in-Ok-push_set.ensures.value ∙ lent) c.put.ensures.places)
    c.put.ensures.count c.put.ensures.counts
    ∙ ap (λ (s : State). with_item s (Some c.args.key) c.args.item) (contents_same c.args.ledger.now.stored c.args.contents.now c.ready.new.self c.requires.index c.ready.ensures.lines c.ready.ensures.same c.ready.ensures.count c.ready.ensures.counts)

pub returns-in-Ok-push_set-clause-index : goal.returns-in-Ok-push_set-clause-index
returns-in-Ok-push_set-clause-index c =
    let longer = ap (λ (l : Recorded). l.stored) c.in-Ok-push_set.ensures.ok in
    let lent = ap (λ (s : StoredItem). s.key) c.stored.ensures.value
    ∙ last_key c.args.ledger.now.stored c.push_set.new.self.stored (keyed c.args.key c.args.item) c.in-Ok.place longer c.in-Ok.ensures.value in
    placed_index c.args.ledger.now.stored c.push_set.new.self.stored c.ready.new.self c.put.new.self c.args.key c.in-Ok.place (keyed c.args.key c.args.item) c.in-Ok-ready.spot
    (index_same c.args.ledger.now.stored c.args.contents.now c.ready.new.self c.requires.index c.ready.ensures.lines c.ready.ensures.same c.ready.ensures.count c.ready.ensures.counts)
    (subst (λ (k : List ℕ). IsSpot c.args.ledger.now.stored c.ready.new.self.places k c.in-Ok-ready.spot) c.with_hash.ensures.value c.in-Ok-ready.ensures.spot)
    longer c.in-Ok.ensures.value refl
    (subst (λ (k : List ℕ). IsPut c.ready.new.self.places k c.in-Ok-ready.spot c.in-Ok.place c.put.new.self.places) (c.with_hash-in-Ok-push_set.ensures.value ∙ lent) c.put.ensures.places)
    c.put.ensures.count c.put.ensures.counts

pub returns-in-Err-push_set-clause-same : goal.returns-in-Err-push_set-clause-same
returns-in-Err-push_set-clause-same c =
    ap (λ (l : Recorded). contents_in l.stored c.ready.new.self) c.in-Err-push_set.ensures.err ∙ contents_same c.args.ledger.now.stored c.args.contents.now c.ready.new.self c.requires.index c.ready.ensures.lines c.ready.ensures.same c.ready.ensures.count c.ready.ensures.counts

pub returns-in-Err-push_set-clause-index : goal.returns-in-Err-push_set-clause-index
returns-in-Err-push_set-clause-index c =
    subst (λ (l : Recorded). IsIndex l.stored c.ready.new.self) (sym c.in-Err-push_set.ensures.err) (index_same c.args.ledger.now.stored c.args.contents.now c.ready.new.self c.requires.index c.ready.ensures.lines c.ready.ensures.same c.ready.ensures.count c.ready.ensures.counts)

pub returns-in-Err-clause-same : goal.returns-in-Err-clause-same
returns-in-Err-clause-same c = contents_same c.args.ledger.now.stored c.args.contents.now c.ready.new.self c.requires.index c.ready.ensures.lines c.ready.ensures.same c.ready.ensures.count c.ready.ensures.counts

pub returns-in-Err-clause-index : goal.returns-in-Err-clause-index
returns-in-Err-clause-index c = index_same c.args.ledger.now.stored c.args.contents.now c.ready.new.self c.requires.index c.ready.ensures.lines c.ready.ensures.same c.ready.ensures.count c.ready.ensures.counts
