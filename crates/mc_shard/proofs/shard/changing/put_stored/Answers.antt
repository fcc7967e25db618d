use Rattle.std.proofs.Common.{ap, sym, subst, ◌∙◌}
use Rattle.std.specs.Prelude.{Some}
use Rattle.mc_calls.specs.Shard.{State}
use Rattle.mc_history.specs.Recorded.{Recorded}
use Rattle.mc_shard.specs.Contents.{with_item}
use Rattle.mc_shard.specs.Index.{IsIndex, contents_in}
use Rattle.mc_shard.proofs.IndexLemmas.{placed_index, placed_contents, index_same, contents_same}
use Rattle.mc_shard.proofs.shard.changing.put_stored.Goals as goal

pub returns-in-Ok-push_other-clause-ok : goal.returns-in-Ok-push_other-clause-ok
returns-in-Ok-push_other-clause-ok c =
    placed_contents c.args.ledger.now.stored c.push_other.new.self.stored c.ready.new.self c.put.new.self c.args.key.now c.in-Ok.place c.args.stored c.in-Ok-ready.spot
    (index_same c.args.ledger.now.stored c.args.contents.now c.ready.new.self c.requires.index c.ready.ensures.lines c.ready.ensures.same c.ready.ensures.count c.ready.ensures.counts) c.in-Ok-ready.ensures.spot (ap (λ (l : Recorded). l.stored) c.in-Ok-push_other.ensures.ok) c.in-Ok.ensures.value c.requires.key
    c.put.ensures.places c.put.ensures.count c.put.ensures.counts
    ∙ ap (λ (s : State). with_item s (Some c.args.key.now) c.args.stored.item) (contents_same c.args.ledger.now.stored c.args.contents.now c.ready.new.self c.requires.index c.ready.ensures.lines c.ready.ensures.same c.ready.ensures.count c.ready.ensures.counts)

pub returns-in-Ok-push_other-clause-index : goal.returns-in-Ok-push_other-clause-index
returns-in-Ok-push_other-clause-index c =
    placed_index c.args.ledger.now.stored c.push_other.new.self.stored c.ready.new.self c.put.new.self c.args.key.now c.in-Ok.place c.args.stored c.in-Ok-ready.spot
    (index_same c.args.ledger.now.stored c.args.contents.now c.ready.new.self c.requires.index c.ready.ensures.lines c.ready.ensures.same c.ready.ensures.count c.ready.ensures.counts) c.in-Ok-ready.ensures.spot (ap (λ (l : Recorded). l.stored) c.in-Ok-push_other.ensures.ok) c.in-Ok.ensures.value c.requires.key
    c.put.ensures.places c.put.ensures.count c.put.ensures.counts

pub returns-in-Err-push_other-clause-same : goal.returns-in-Err-push_other-clause-same
returns-in-Err-push_other-clause-same c =
    ap (λ (l : Recorded). contents_in l.stored c.ready.new.self) c.in-Err-push_other.ensures.err ∙ contents_same c.args.ledger.now.stored c.args.contents.now c.ready.new.self c.requires.index c.ready.ensures.lines c.ready.ensures.same c.ready.ensures.count c.ready.ensures.counts

pub returns-in-Err-push_other-clause-index : goal.returns-in-Err-push_other-clause-index
returns-in-Err-push_other-clause-index c =
    subst (λ (l : Recorded). IsIndex l.stored c.ready.new.self) (sym c.in-Err-push_other.ensures.err) (index_same c.args.ledger.now.stored c.args.contents.now c.ready.new.self c.requires.index c.ready.ensures.lines c.ready.ensures.same c.ready.ensures.count c.ready.ensures.counts)

pub returns-in-Err-clause-same : goal.returns-in-Err-clause-same
returns-in-Err-clause-same c = contents_same c.args.ledger.now.stored c.args.contents.now c.ready.new.self c.requires.index c.ready.ensures.lines c.ready.ensures.same c.ready.ensures.count c.ready.ensures.counts

pub returns-in-Err-clause-index : goal.returns-in-Err-clause-index
returns-in-Err-clause-index c = index_same c.args.ledger.now.stored c.args.contents.now c.ready.new.self c.requires.index c.ready.ensures.lines c.ready.ensures.same c.ready.ensures.count c.ready.ensures.counts
