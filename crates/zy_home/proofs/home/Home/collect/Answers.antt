use Rattle.std.proofs.Common.{sym, ap, ◌∙◌, subst}
use Rattle.zy_home.specs.Home.{all_here, Homed, HomeStands}
use Rattle.zy_home.proofs.JoinLemmas.{not_joined, keeps_looks, keeps_joins, out_joins}
use Rattle.zy_home.proofs.home.Home.collect.Goals as goal

-- nothing was given back
pub invariant_of-self : goal.invariant_of-self
invariant_of-self c = keeps_looks _ c.collect.new.home c.in_default.ensures.value.0 c.self.invariant

pub returns-in_default-clause-stands : goal.returns-in_default-clause-stands
returns-in_default-clause-stands c items s = let old = subst (λ (h : Homed). HomeStands h items) (sym c.self.view_is) s in record { ended = old.ended; links = old.links }

-- a block came back
pub invariant_of-self-2 : goal.invariant_of-self-2
invariant_of-self-2 c = keeps_joins _ c.collect.new.home c.args.ring.now.places c.in-Some.place c.in-Some.block c.self.invariant c.in-Some.ensures.value.0

pub settle-requires-clause-out : goal.settle-requires-clause-out
settle-requires-clause-out c =
    out_joins _ c.collect.new.home c.args.ring.now.places c.in-Some.place c.in-Some.block c.self.invariant c.in-Some.ensures.value.0
    (sym c.places-places.ensures.value ∙ c.places-places.ensures.count ∙ ap (λ z. z.slots) (sym c.requires.table) ∙ ap (λ (h : Homed). h.pass.table.slots) (sym c.self.view_is) ∙ c.self.invariant.places)
    (ap (λ (h : Homed). h.refused) c.self.view_is ∙ c.requires.live)
    c.in-Some.ensures.kept

pub returns-in-Ok-clause-stands : goal.returns-in-Ok-clause-stands
returns-in-Ok-clause-stands c items s = let old = subst (λ (h : Homed). HomeStands h items) (sym c.self.view_is) s in c.in-Ok.ensures.stands items (record { ended = old.ended; links = old.links })

pub returns-in-Ok-clause-still : goal.returns-in-Ok-clause-still
returns-in-Ok-clause-still c here = absurd (not_joined _ c.collect.new.home c.args.ring.now.places c.in-Some.place c.in-Some.block c.self.invariant c.in-Some.ensures.value.0 (sym c.places-places.ensures.value ∙ c.places-places.ensures.count ∙ ap (λ z. z.slots) (sym c.requires.table) ∙ ap (λ (h : Homed). h.pass.table.slots) (sym c.self.view_is) ∙ c.self.invariant.places) (ap (λ (h : Homed). all_here h.blocks) c.self.view_is ∙ here))

pub returns-in-Err-clause-still : goal.returns-in-Err-clause-still
returns-in-Err-clause-still c here = absurd (not_joined _ c.collect.new.home c.args.ring.now.places c.in-Some.place c.in-Some.block c.self.invariant c.in-Some.ensures.value.0 (sym c.places-places.ensures.value ∙ c.places-places.ensures.count ∙ ap (λ z. z.slots) (sym c.requires.table) ∙ ap (λ (h : Homed). h.pass.table.slots) (sym c.self.view_is) ∙ c.self.invariant.places) (ap (λ (h : Homed). all_here h.blocks) c.self.view_is ∙ here))
