use Rattle.std.proofs.Common.{◌+◌, ◌||◌, refl, sym, ap, ◌∙◌, subst}
use Rattle.zy_home.specs.Home.{is_settled}
use Rattle.zy_home.specs.declared.own.Own.TheVariants.{Took}
use Rattle.zy_core.specs.Share.{Sharing, sharing}
use Rattle.zy_core.specs.Core.{Cored, cored, identity_of, Fits}
use Rattle.zy_core.specs.Turn.{HasSteps, CameTo, ShowsBusy, came_without_hold, held_to, own_of}
use Rattle.zy_core.proofs.PassLemmas.{passes_fit}
use Rattle.zy_core.proofs.TurnLemmas.{at_home_by, held_came, held_busy, stolen_busy, missed_came, missed_busy}
use Rattle.zy_core.proofs.logical_core.Core.turn_over.Goals as goal
use Rattle.zy_core.proofs.logical_core.Core.turn_over.Goals.{in-Empty, in-Raced}

pub steal_once-requires-clause-within : goal.steal_once-requires-clause-within
steal_once-requires-clause-within g c =
    let s : Sharing = sharing c.shared.inside.rings c.shared.inside.store c.shared.inside.control in
    let a : Cored = cored c.self.inside.home c.self.inside.victims c.self.inside.passes c.self.inside.outlet c.self.inside.control c.self.inside.turns in
    passes_fit s a c.self.invariant.0.core c.self.invariant.0.one (subst (λ (z : Sharing × Cored). Fits z.0 (identity_of z.1)) (λ i. (sym c.shared.view_is i, sym c.self.view_is i)) c.requires.fits)

-- ---- a block was claimed

pub returns-in-Took-clause-turn : goal.returns-in-Took-clause-turn
returns-in-Took-clause-turn g c =
    let a : Cored = cored c.self.inside.home c.self.inside.victims c.self.inside.passes c.self.inside.outlet c.self.inside.control c.self.inside.turns in
    let b : Cored = cored c.serve_home.new.home c.self.inside.victims c.self.inside.passes c.serve_home.new.outlet c.self.inside.control (c.self.inside.turns + 1) in
    let t = at_home_by a b c.in_ok-at_home.at_home (Took c.in-Took.held) c.in-Took.is c.in_ok-at_home.ensures.value in
    rw c.held.ensures.value (subst (λ (x : Cored). CameTo x b c.args.looks.now c.args.looks.now (held_to c.in-Took.held)) c.self.view_is
    (held_came a b _ _ _ _ c.in-Took.held c.args.looks.now c.args.looks.now t))

pub returns-in-Took-clause-steps : goal.returns-in-Took-clause-steps
returns-in-Took-clause-steps g c =
    let a : Cored = cored c.self.inside.home c.self.inside.victims c.self.inside.passes c.self.inside.outlet c.self.inside.control c.self.inside.turns in
    let b : Cored = cored c.serve_home.new.home c.self.inside.victims c.self.inside.passes c.serve_home.new.outlet c.self.inside.control (c.self.inside.turns + 1) in
    let t = at_home_by a b c.in_ok-at_home.at_home (Took c.in-Took.held) c.in-Took.is c.in_ok-at_home.ensures.value in
    subst (λ (x : Cored). HasSteps x b) c.self.view_is (held_busy a b _ _ _ _ c.in-Took.held t refl).steps

pub returns-in-Took-clause-busy : goal.returns-in-Took-clause-busy
returns-in-Took-clause-busy g c =
    let a : Cored = cored c.self.inside.home c.self.inside.victims c.self.inside.passes c.self.inside.outlet c.self.inside.control c.self.inside.turns in
    let b : Cored = cored c.serve_home.new.home c.self.inside.victims c.self.inside.passes c.serve_home.new.outlet c.self.inside.control (c.self.inside.turns + 1) in
    let t = at_home_by a b c.in_ok-at_home.at_home (Took c.in-Took.held) c.in-Took.is c.in_ok-at_home.ensures.value in
    rw c.held.ensures.value (subst (λ (x : Cored). ShowsBusy x b (held_to c.in-Took.held)) c.self.view_is (held_busy a b _ _ _ _ c.in-Took.held t refl))

-- ---- a block was stolen

pub returns-in-Some-clause-steps : goal.returns-in-Some-clause-steps
returns-in-Some-clause-steps g c =
    let a : Cored = cored c.self.inside.home c.self.inside.victims c.self.inside.passes c.self.inside.outlet c.self.inside.control c.self.inside.turns in
    let b : Cored = cored c.serve_home.new.home c.steal_once.new.victims c.steal_once.new.passes c.serve_home.new.outlet c.self.inside.control (c.self.inside.turns + 1) in
    let t = at_home_by a b c.in_ok-at_home.at_home (own_of c.match-at_home.own) (elim c.match-at_home.branch [ in-Empty w ↦ w.in-Empty.is ∙ ap own_of (sym w.own-is) | in-Raced w ↦ w.in-Raced.is ∙ ap own_of (sym w.own-is) ]) c.in_ok-at_home.ensures.value in
    let s = rw c.in-Some.is at c.in_ok-stolen.ensures.value in
    subst (λ (x : Cored). HasSteps x b) c.self.view_is (stolen_busy a b _ _ _ _ c.match-at_home.own c.in-Some.end t s.0 s.1).steps

pub returns-in-Some-clause-busy : goal.returns-in-Some-clause-busy
returns-in-Some-clause-busy g c =
    let a : Cored = cored c.self.inside.home c.self.inside.victims c.self.inside.passes c.self.inside.outlet c.self.inside.control c.self.inside.turns in
    let b : Cored = cored c.serve_home.new.home c.steal_once.new.victims c.steal_once.new.passes c.serve_home.new.outlet c.self.inside.control (c.self.inside.turns + 1) in
    let t = at_home_by a b c.in_ok-at_home.at_home (own_of c.match-at_home.own) (elim c.match-at_home.branch [ in-Empty w ↦ w.in-Empty.is ∙ ap own_of (sym w.own-is) | in-Raced w ↦ w.in-Raced.is ∙ ap own_of (sym w.own-is) ]) c.in_ok-at_home.ensures.value in
    let s = rw c.in-Some.is at c.in_ok-stolen.ensures.value in
    rw c.held-in-Some.ensures.value (subst (λ (x : Cored). ShowsBusy x b (held_to c.in-Some.end)) c.self.view_is (stolen_busy a b _ _ _ _ c.match-at_home.own c.in-Some.end t s.0 s.1))

-- ---- nothing was claimed or stolen

pub returns-clause-turn : goal.returns-clause-turn
returns-clause-turn g c =
    let a : Cored = cored c.self.inside.home c.self.inside.victims c.self.inside.passes c.self.inside.outlet c.self.inside.control c.self.inside.turns in
    let b : Cored = cored c.serve_home.new.home c.steal_once.new.victims c.steal_once.new.passes c.serve_home.new.outlet c.self.inside.control (c.self.inside.turns + 1) in
    let t = at_home_by a b c.in_ok-at_home.at_home (own_of c.match-at_home.own) (elim c.match-at_home.branch [ in-Empty w ↦ w.in-Empty.is ∙ ap own_of (sym w.own-is) | in-Raced w ↦ w.in-Raced.is ∙ ap own_of (sym w.own-is) ]) c.in_ok-at_home.ensures.value in
    let l = rw c.in_default.is at c.in_ok-stolen.ensures.value in
    rw c.of.ensures.value (subst (λ (x : Cored). CameTo x b c.args.looks.now c.steal_once.new.looks (came_without_hold (c.in_ok-at_home.at_home.received || c.in_ok-at_home.at_home.collected) c.match-at_home.own (is_settled c.serve_home.new.home))) c.self.view_is
    (missed_came a b _ _ c.in_ok-at_home.at_home.received c.in_ok-at_home.at_home.collected (is_settled c.serve_home.new.home) c.match-at_home.own c.args.looks.now c.steal_once.new.looks t l refl))

pub returns-clause-steps : goal.returns-clause-steps
returns-clause-steps g c =
    let a : Cored = cored c.self.inside.home c.self.inside.victims c.self.inside.passes c.self.inside.outlet c.self.inside.control c.self.inside.turns in
    let b : Cored = cored c.serve_home.new.home c.steal_once.new.victims c.steal_once.new.passes c.serve_home.new.outlet c.self.inside.control (c.self.inside.turns + 1) in
    let t = at_home_by a b c.in_ok-at_home.at_home (own_of c.match-at_home.own) (elim c.match-at_home.branch [ in-Empty w ↦ w.in-Empty.is ∙ ap own_of (sym w.own-is) | in-Raced w ↦ w.in-Raced.is ∙ ap own_of (sym w.own-is) ]) c.in_ok-at_home.ensures.value in
    let l = rw c.in_default.is at c.in_ok-stolen.ensures.value in
    subst (λ (x : Cored). HasSteps x b) c.self.view_is (missed_busy a b _ _ c.in_ok-at_home.at_home.received c.in_ok-at_home.at_home.collected (is_settled c.serve_home.new.home) c.match-at_home.own c.args.looks.now c.steal_once.new.looks t l).steps

pub returns-clause-busy : goal.returns-clause-busy
returns-clause-busy g c =
    let a : Cored = cored c.self.inside.home c.self.inside.victims c.self.inside.passes c.self.inside.outlet c.self.inside.control c.self.inside.turns in
    let b : Cored = cored c.serve_home.new.home c.steal_once.new.victims c.steal_once.new.passes c.serve_home.new.outlet c.self.inside.control (c.self.inside.turns + 1) in
    let t = at_home_by a b c.in_ok-at_home.at_home (own_of c.match-at_home.own) (elim c.match-at_home.branch [ in-Empty w ↦ w.in-Empty.is ∙ ap own_of (sym w.own-is) | in-Raced w ↦ w.in-Raced.is ∙ ap own_of (sym w.own-is) ]) c.in_ok-at_home.ensures.value in
    let l = rw c.in_default.is at c.in_ok-stolen.ensures.value in
    rw c.of.ensures.value (subst (λ (x : Cored). ShowsBusy x b (came_without_hold (c.in_ok-at_home.at_home.received || c.in_ok-at_home.at_home.collected) c.match-at_home.own (is_settled c.serve_home.new.home))) c.self.view_is
    (missed_busy a b _ _ c.in_ok-at_home.at_home.received c.in_ok-at_home.at_home.collected (is_settled c.serve_home.new.home) c.match-at_home.own c.args.looks.now c.steal_once.new.looks t l))
