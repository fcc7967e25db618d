use Rattle.std.proofs.Common.{sym, ap, ◌∙◌}
use Rattle.std.specs.Slots.{slots_counts}
use Rattle.mc_store.proofs.CloseLemmas.{closes_as}
use Rattle.mc_store.proofs.store.StoreTable.close.Goals as goal

pub from_vec-requires-clause-shards : goal.from_vec-requires-clause-shards
from_vec-requires-clause-shards c =
    let e = c.close_with.ensures in
    let closed = closes_as _ _ _ _ _ _ _ c.args.root.given c.args.root.joined c.root.invariant c.into_seat.ensures.2 (ap (λ v. v.given) c.root.view_is) (ap (λ v. v.joined) c.root.view_is) c.requires.all e.values.2
    (sym (slots_counts c.close_with.result.slots).0 ∙ e.counts.1 ∙ c.self.invariant.1 ∙ ap (λ s. s.shards) c.self.view_is) c.drain.ensures.value in
    λ shard. (closed.sound.each shard).place

pub returns-clause-ok : goal.returns-clause-ok
returns-clause-ok c =
    let e = c.close_with.ensures in
    closes_as _ _ _ _ _ _ _ c.args.root.given c.args.root.joined c.root.invariant c.into_seat.ensures.2 (ap (λ v. v.given) c.root.view_is) (ap (λ v. v.joined) c.root.view_is) c.requires.all e.values.2
    (sym (slots_counts c.close_with.result.slots).0 ∙ e.counts.1 ∙ c.self.invariant.1 ∙ ap (λ s. s.shards) c.self.view_is) (c.from_vec.ensures.value ∙ c.drain.ensures.value)
