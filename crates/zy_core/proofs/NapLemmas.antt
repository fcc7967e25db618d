-- A nap by its parts.
use Rattle.std.proofs.Common.{◌≡◌, ℕ, ◌+◌, ◌<◌, true, false, Bool, sym, ap, ◌∙◌, arith}
use Rattle.std.specs.Prelude.{Result, Ok, Err, IfOk}
use Rattle.zy_base.specs.declared.outside.NoMemory.{NoMemory}
use Rattle.zy_control.specs.declared.view.Role.TheVariants.{Core}
use Rattle.zy_control.specs.View.{has_counted}
use Rattle.zy_control.specs.Pass.{seeing_done, seeing_stop, resting}
use Rattle.zy_core.specs.declared.turn.Turn.{Turn}
use Rattle.zy_core.specs.declared.nap.Nap.{Nap}
use Rattle.zy_core.specs.Core.{Cored, stepped}
use Rattle.zy_core.specs.Turn.{TurnTo, HasSteps}
use Rattle.zy_park.specs.Pass.{Passed}
use Rattle.zy_core.specs.Nap.{nap_of, bell_after, RestTo, NapTo}

-- after the turn done was loaded, then stop
pub rests : (cores : ℕ) (a b c d : Cored) (turn : Turn) (counted : Bool) (done stop : ℕ) (nap : Nap) → TurnTo a b turn → HasSteps a b → b.control ≡ a.control
    → c ≡ stepped (seeing_done done b.control) b → d ≡ stepped (seeing_stop stop c.control) c → counted ≡ has_counted d.control.role
    → nap ≡ nap_of cores counted turn done stop → RestTo cores a d nap
rests cores a b c d turn counted done stop nap took steps control one two has is =
    let after : d ≡ stepped (seeing_stop stop (seeing_done done a.control)) b =
    two ∙ ap (λ (x : Cored). stepped (seeing_stop stop x.control) x) one ∙ ap (λ h. stepped (seeing_stop stop (seeing_done done h)) b) control in
    record {
      turn = turn;
      turned = b;
      took = took;
      steps = steps;
      control = control;
      done = done;
      stop = stop;
      loaded = after;
      is = is ∙ ap (λ y. nap_of cores y turn done stop) (has ∙ ap (λ (x : Cored). has_counted x.control.role) after);
    }

-- before it the core announced itself, and after it it withdrew
pub naps : (cores : ℕ) (a b c d : Cored) (p q : Passed) (set cleared : ℕ) (r : Result Nap NoMemory) → b ≡ stepped (resting true set a.control) a
    → b.control.role ≡ Core a.home.core (has_counted a.control.role) true
    → d ≡ stepped (resting false cleared c.control) c → IfOk r (RestTo cores b c) → IfOk r (λ nap. q ≡ bell_after c.control nap p) → IfOk r (NapTo cores a d p q)
naps cores a b c d p q set cleared (Ok nap) one is two rests bell =
    record {
      set = set;
      cleared = cleared;
      announced = b;
      loaded = c;
      announces = one;
      rests = rests;
      rested = bell;
      asleep = ap (λ (x : Cored). x.control.role) rests.loaded ∙ is;
      withdraws = two;
      last = later;
    }
  where
    -- withdrawing is one step later than the load of stop
    later : d.control.trace.stop.step < d.control.trace.sleepers.step
    later =
        let loaded : c.control.trace.stop.step ≡ c.control.trace.steps = ap (λ (x : Cored). x.control.trace.stop.step) rests.loaded ∙ sym (ap (λ (x : Cored). x.control.trace.steps) rests.loaded) in
        let stop : d.control.trace.stop.step ≡ c.control.trace.stop.step = ap (λ (x : Cored). x.control.trace.stop.step) two in
        let sleepers : d.control.trace.sleepers.step ≡ c.control.trace.steps + 1 = ap (λ (x : Cored). x.control.trace.sleepers.step) two in
        omega arith
naps cores a b c d p q set cleared (Err e) one is two rests bell = tt
