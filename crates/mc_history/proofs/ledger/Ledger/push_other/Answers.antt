use Rattle.std.proofs.Common.{List, ap, ◌∙◌, arith}
use Rattle.mc_history.specs.declared.stored_item.StoredItem.{StoredItem}
use Rattle.mc_history.specs.Recorded.{Recorded, with_other, kept_too}
use Rattle.mc_history.proofs.CompactLemmas.{other_view}
use Rattle.mc_history.proofs.ledger.Ledger.push_other.Goals as goal

pub invariant_of-self-2 : goal.invariant_of-self-2
invariant_of-self-2 c =
    (other_view c.self.inside.shard c.self.inside.stored.items c.keep.new.items.items c.self.inside.missed.items c.self.inside.others.items c.push_reserved.new.self.items
    c.self.inside.compact.items c.push_reserved-2.new.self.items
    c.args.tag c.args.stamp c.in-Ok.place c.args.exchange c.args.stored c.self.invariant
    (c.keep.ensures.value ∙ ap (λ (b : List StoredItem). kept_too b c.args.stored) c.reserve-else-is_err-2.ensures.items) (cc) (cc) (omega arith)).0

pub returns-clause-ok : goal.returns-clause-ok
returns-clause-ok c =
    (other_view c.self.inside.shard c.self.inside.stored.items c.keep.new.items.items c.self.inside.missed.items c.self.inside.others.items c.push_reserved.new.self.items
    c.self.inside.compact.items c.push_reserved-2.new.self.items
    c.args.tag c.args.stamp c.in-Ok.place c.args.exchange c.args.stored c.self.invariant
    (c.keep.ensures.value ∙ ap (λ (b : List StoredItem). kept_too b c.args.stored) c.reserve-else-is_err-2.ensures.items) (cc) (cc) (omega arith)).1
    ∙ ap (λ (old : Recorded). with_other old c.args.tag c.args.stamp c.args.exchange c.args.stored) c.self.view_is
