-- Each step follows the ownership machine: it is one event, or no event, or the events of a publication.
use Rattle.std.proofs.Common.{◌≡◌, ℕ, ◌+◌, refl, ap, ◌∙◌, arith, ◌≢◌, ◌<◌, List, [], ◌∷◌, ◌++◌, length}
use Rattle.std.specs.Prelude as std
use Rattle.zy_table.proofs.PutLemmas.{put_here}
use Rattle.zy_shuffle.specs.Ownership.{idle, Owners, with_finished, Runs, ready}
use Rattle.zy_shuffle.specs.Run.{went_idle, Before, was_idle, was_held, publication}
use Rattle.zy_table.specs.declared.name.Name.{Name}
use Rattle.zy_shuffle.specs.declared.ring.view.Event.{Event}
use Rattle.zy_shuffle.specs.declared.ring.view.Event.TheVariants.{Arrive, Settle}
use Rattle.zy_shuffle.specs.declared.ring.view.Role.{Role}
use Rattle.zy_shuffle.specs.declared.ring.view.Role.TheVariants.{Closed, Core, Home, Spent, Start}
use Rattle.zy_shuffle.specs.declared.ring.view.View.{View}
use Rattle.zy_shuffle.specs.Hand.{marked}
use Rattle.zy_shuffle.specs.HomeRole.{IsActive, IsHome}
use Rattle.core_laws.specs.OneStep.{Ruled, IsPublication, GrowsBy, GrowsByAll, ArrivesIdle}
use Rattle.core_laws.specs.OneStep.{WasPublished, BecomesReady, idling_of, run_of}
use Rattle.zy_shuffle.proofs.FollowLemmas.{publication_seat}
use Rattle.core_laws.proofs.OwnerRunLemmas.{leads_all, leads_one, step_grows}
use Rattle.zy_shuffle.proofs.RoleLemmas.{kept_of}

-- after the events with which a connection became idle, it is idle
pub idle_before : {M : Type 0} (p : ℕ) (kept : std.Option M) (s u : Owners) → Runs 0 s (went_idle p kept) u → (kept ≡ std.None → s.places p ≡ idle) → ((x : M) → kept ≡ std.Some x → s.finished p + 1 ≡ s.arrived p) → u.places p ≡ idle
idle_before p std.None s u run none some = ap (λ (z : Owners). z.places p) run ∙ none refl
idle_before p (std.Some x) s u run none some =
    let w : Owners = run.0 in
    let y : Owners = run.1.0 in
    let from : y ≡ s = run.1.1 in
    let ended : w ≡ with_finished p y = run.1.2.2 in
    let left = some x refl in
    let one : w.finished p ≡ y.finished p + 1 = ap (λ (z : Owners). z.finished p) ended ∙ put_here y.finished p (y.finished p + 1) in
    let finished : y.finished p ≡ s.finished p = ap (λ (z : Owners). z.finished p) from in
    let arrived : w.arrived p ≡ s.arrived p = ap (λ (z : Owners). z.arrived p) ended ∙ ap (λ (z : Owners). z.arrived p) from in
    ap (λ (z : Owners). z.places p) (run.2.2 (omega arith)) ∙ put_here w.places p idle

home_active : (x : Role) → IsHome x → IsActive x
home_active Spent h = h
home_active Start h = h
home_active Core h = absurd h
home_active (Home t st nt out) h = tt
home_active (Closed gone) h = h

-- a connection that was held is settled, if it was published before
held_settles : {M : Type 0} (p : ℕ) (kept : std.Option M) → kept ≢ std.None → publication was_held p kept ≡ Settle p ∷ []
held_settles p std.None some = absurd (some refl)
held_settles p (std.Some x) some = refl

module _ {T M : Type 0} (mark : T → M) (label : T → Name) (s t : Ruled mark label) (p : ℕ) where
  -- the run grows by the events of a publication
  grows : (before : Before) → IsPublication before p s t → GrowsByAll (publication before p (s.1.marks p)) s t
  grows before h =
      let v : View T = h.0 in
      let k : std.Option M = marked mark p v.kept in
      step_grows s t 0 (λ _. publication before p k) (v, h.1, h.2, home_active v.role h.3, h.4, publication_seat before p k)
      ∙ ap (λ (x : std.Option M). publication before p x ++ run_of s) (kept_of s.1 0 v h.2.0 h.3 p)

  pub publication_grows : IsPublication was_idle p s t → GrowsByAll (Arrive p 1 ∷ idling_of p s) s t
  publication_grows h = grows was_idle h

  -- one that is not idle has one unfinished request
  left_at : (x : M) → p < length s.0.homes → s.1.marks p ≡ std.Some x → s.1.follows.owners.finished p + 1 ≡ s.1.follows.owners.arrived p
  left_at x near is = s.1.follows.due p near (λ e. let none = (s.1.follows.unmarked p near).0 e in cc)

  -- the connection is idle when the request arrives
  pub publication_arrives : p < length s.0.homes → IsPublication was_idle p s t → ArrivesIdle p s t
  publication_arrives near h =
      let f = s.1.follows in
      let r = leads_all s t (Arrive p 1 ∷ idling_of p s) (publication_grows h) in
      (r.0, r.1, idle_before p (s.1.marks p) f.owners r.0 r.1 (f.unmarked p near).1 (λ x is. left_at x near is), r.2)

  -- it was held, and is settled
  pub publication_settles : WasPublished p s → IsPublication was_held p s t → GrowsBy (Settle p) s t
  publication_settles some h = grows was_held h ∙ ap (λ (es : List Event). es ++ run_of s) (held_settles p (s.1.marks p) some)

  pub publication_readies : p < length s.0.homes → WasPublished p s → IsPublication was_held p s t → BecomesReady p s t
  publication_readies near some h =
      let f = s.1.follows in
      let r = leads_one s t (Settle p) (publication_settles some h) in
      let left = f.due p near (λ e. some ((f.unmarked p near).0 e)) in
      (r.0, ap (λ (z : Owners). z.places p) (r.1 (omega arith)) ∙ put_here f.owners.places p ready)
