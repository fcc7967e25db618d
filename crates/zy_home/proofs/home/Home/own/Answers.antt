use Rattle.std.proofs.Common.{ℕ, sym, ap, ◌∙◌, subst, arith}
use Rattle.zy_conn.specs.Hold.{IsRecorded}
use Rattle.zy_conn.specs.Block.{label_of}
use Rattle.zy_conn.proofs.LabelLemmas.{same_store, same_cores}
use Rattle.zy_home.specs.Home.{all_here, Homed, HomeStands}
use Rattle.zy_home.proofs.JoinLemmas.{not_joined, keeps_looks, keeps_joins, out_joins, put_back}
use Rattle.zy_home.proofs.home.Home.own.Goals as goal

-- a block was taken, which has the label of the ring, and so is of the store and may be held by the home's core
pub hold-requires-clause-table : goal.hold-requires-clause-table
hold-requires-clause-table g c = same_store _ _ _ _ (c.in-Took.ensures.value.0.labelled ∙ ap (λ (h : Homed). h.pass.label) c.self.view_is ∙ c.requires.store)

pub hold-requires-clause-core : goal.hold-requires-clause-core
hold-requires-clause-core g c =
    let cores = same_cores _ _ _ _ (c.in-Took.ensures.value.0.labelled ∙ ap (λ (h : Homed). h.pass.label) c.self.view_is ∙ c.requires.store) in
    let seen = ap (λ (h : Homed). h.cores) c.self.view_is in
    let near = c.self.invariant.core in
    omega arith

-- a block was taken
pub invariant_of-self : goal.invariant_of-self
invariant_of-self g c = keeps_joins _ c.claim_home.new.home c.args.ring.now.places c.in-Took.place c.in-Took.block c.self.invariant c.in-Took.ensures.value.0

pub settle-requires-clause-out : goal.settle-requires-clause-out
settle-requires-clause-out g c = let o = out_joins _ c.claim_home.new.home c.args.ring.now.places c.in-Took.place c.in-Took.block c.self.invariant c.in-Took.ensures.value.0 (sym c.places-places.ensures.value ∙ c.places-places.ensures.count ∙ ap (λ z. z.slots) (sym c.requires.table) ∙ ap (λ (h : Homed). h.pass.table.slots) (sym c.self.view_is) ∙ c.self.invariant.places) (ap (λ (h : Homed). h.refused) c.self.view_is ∙ c.requires.live) c.in-Took.ensures.kept in record { link = o.link; there = o.there; hand = o.hand; mark = c.hold.ensures.mark ∙ o.mark; label = (λ i. label_of (c.hold.ensures.table i) (c.hold.ensures.cores i)) ∙ o.label }

pub returns-in-Ok-settle-clause-stands : goal.returns-in-Ok-settle-clause-stands
returns-in-Ok-settle-clause-stands g c items s = c.in-Ok-settle.ensures.stands items (let old = subst (λ (h : Homed). HomeStands h items) (sym c.self.view_is) s in record { ended = old.ended; links = old.links })

pub returns-in-Ok-settle-clause-still : goal.returns-in-Ok-settle-clause-still
returns-in-Ok-settle-clause-still g c here = absurd (not_joined _ c.claim_home.new.home c.args.ring.now.places c.in-Took.place c.in-Took.block c.self.invariant c.in-Took.ensures.value.0 (sym c.places-places.ensures.value ∙ c.places-places.ensures.count ∙ ap (λ z. z.slots) (sym c.requires.table) ∙ ap (λ (h : Homed). h.pass.table.slots) (sym c.self.view_is) ∙ c.self.invariant.places) (ap (λ (h : Homed). all_here h.blocks) c.self.view_is ∙ here))

pub returns-in-Err-settle-clause-still : goal.returns-in-Err-settle-clause-still
returns-in-Err-settle-clause-still g c here = absurd (not_joined _ c.claim_home.new.home c.args.ring.now.places c.in-Took.place c.in-Took.block c.self.invariant c.in-Took.ensures.value.0 (sym c.places-places.ensures.value ∙ c.places-places.ensures.count ∙ ap (λ z. z.slots) (sym c.requires.table) ∙ ap (λ (h : Homed). h.pass.table.slots) (sym c.self.view_is) ∙ c.self.invariant.places) (ap (λ (h : Homed). all_here h.blocks) c.self.view_is ∙ here))

-- it was taken, and the hold was refused memory
pub returns-in-Err-clause-still : goal.returns-in-Err-clause-still
returns-in-Err-clause-still g c here = absurd (not_joined _ c.claim_home.new.home c.args.ring.now.places c.in-Took.place c.in-Took.block c.self.invariant c.in-Took.ensures.value.0 (sym c.places-places.ensures.value ∙ c.places-places.ensures.count ∙ ap (λ z. z.slots) (sym c.requires.table) ∙ ap (λ (h : Homed). h.pass.table.slots) (sym c.self.view_is) ∙ c.self.invariant.places) (ap (λ (h : Homed). all_here h.blocks) c.self.view_is ∙ here))

-- nothing was taken
pub invariant_of-self-in-Empty : goal.invariant_of-self-in-Empty
invariant_of-self-in-Empty g c = keeps_looks _ c.claim_home.new.home c.in-Empty.ensures.value.0 c.self.invariant

pub invariant_of-self-in-Raced : goal.invariant_of-self-in-Raced
invariant_of-self-in-Raced g c = keeps_looks _ c.claim_home.new.home c.in-Raced.ensures.value.0 c.self.invariant

pub returns-in-Empty-clause-stands : goal.returns-in-Empty-clause-stands
returns-in-Empty-clause-stands g c items s = (let old = subst (λ (h : Homed). HomeStands h items) (sym c.self.view_is) s in record { ended = old.ended; links = old.links })

pub returns-in-Raced-clause-stands : goal.returns-in-Raced-clause-stands
returns-in-Raced-clause-stands g c items s = (let old = subst (λ (h : Homed). HomeStands h items) (sym c.self.view_is) s in record { ended = old.ended; links = old.links })

-- the answers
pub returns-in-Ok-settle-clause-value : goal.returns-in-Ok-settle-clause-value
returns-in-Ok-settle-clause-value g c = rw (← c.self.view_is) (
  c.in-Took.place,
  c.in-Took.block,
  c.hold.new.block,
  c.claim_home.new.home,
  c.in-Took.ensures.value,
  record {
    ends = c.in-Ok.ensures.end;
    recorded = subst (λ (n : ℕ). IsRecorded n c.in-Took.block c.hold.new.block) c.core.ensures.value c.hold.ensures.holds;
    more = c.hold.ensures.more;
    limit = c.hold.ensures.limit;
    mark = c.hold.ensures.mark;
    label = (λ i. label_of (c.hold.ensures.table i) (c.hold.ensures.cores i));
  },
  c.in-Ok-settle.ensures.settled,
)

pub invariant_of-self-in-Err : goal.invariant_of-self-in-Err
invariant_of-self-in-Err g c =
    put_back _ (keeps_joins _ c.claim_home.new.home c.args.ring.now.places c.in-Took.place c.in-Took.block c.self.invariant c.in-Took.ensures.value.0) c.in-Took.place c.in-Took.block c.hold.new.block c.put.new.slot
    (out_joins _ c.claim_home.new.home c.args.ring.now.places c.in-Took.place c.in-Took.block c.self.invariant c.in-Took.ensures.value.0 (sym c.places-places.ensures.value ∙ c.places-places.ensures.count ∙ ap (λ z. z.slots) (sym c.requires.table) ∙ ap (λ (h : Homed). h.pass.table.slots) (sym c.self.view_is) ∙ c.self.invariant.places) (ap (λ (h : Homed). h.refused) c.self.view_is ∙ c.requires.live) c.in-Took.ensures.kept)
    (ap (λ (h : Homed). h.refused) c.self.view_is ∙ c.requires.live)
    (λ i. label_of (c.hold.ensures.table i) (c.hold.ensures.cores i)) c.put.ensures.value
