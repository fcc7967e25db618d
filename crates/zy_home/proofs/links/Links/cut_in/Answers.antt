use Rattle.std.proofs.Common.{Ok, ◌∷◌, [], ◌++◌, sym, ap, ◌∙◌, subst}
use Rattle.zy_home.specs.Home.{IsSoundBut}
use Rattle.zy_home.specs.Links.{homed}
use Rattle.zy_home.specs.Receiving.{left_after}
use Rattle.zy_home.proofs.CutLemmas.{cut_past}
use Rattle.zy_home.proofs.links.Links.cut_in.Goals as goal

-- the item is dropped, or the end
pub returns-in_default-clause-value : goal.returns-in_default-clause-value
returns-in_default-clause-value c = rw c.ended_by-self.ensures.value (λ pass. cut_past (homed pass c.args.slots.now.items c.args.self.now) c.args.item
    (λ p comes. c.in_default.ensures.none p (record { live = comes.live; link = comes.link; there = comes.there; own = comes.own })))

-- the place was touched
pub returns-in-Ok-clause-sound : goal.returns-in-Ok-clause-sound
returns-in-Ok-clause-sound c pass k =
    let old = c.args.self.now.touched.items in
    subst (λ left. IsSoundBut left (homed pass c.args.slots.now.items c.cut_for.new.self))
    (ap (λ b. left_after c.in-Some.at (Ok b) old) c.in-Ok-true.field-0-test ∙ ap (λ ts. ts.items ++ c.in-Some.at ∷ []) (sym c.in-Ok-true.ensures.kept.0) ∙ sym c.in-Ok.ensures.items) (c.in-Ok-true.ensures.sound pass old k)

pub returns-in-Ok-false-clause-sound : goal.returns-in-Ok-false-clause-sound
returns-in-Ok-false-clause-sound c pass k =
    let old = c.args.self.now.touched.items in
    subst (λ left. IsSoundBut left (homed pass c.args.slots.now.items c.cut_for.new.self))
    (ap (λ b. left_after c.in-Some.at (Ok b) old) c.in-Ok-false.field-0-test ∙ ap (λ ts. ts.items) (sym c.in-Ok-false.ensures.kept.0)) (c.in-Ok-false.ensures.sound pass old k)
