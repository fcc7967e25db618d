-- Who holds a connection: nobody else moves it, or finishes a request of it.
use Rattle.std.proofs.Common.{◌≡◌, ◌≢◌, ℕ, ◌+◌, ◌≤◌, List, [], ◌∷◌, ◌++◌, true, true≢false, refl, sym, ap, ◌∙◌, subst}
use Rattle.std.proofs.Common.{⊎_elim, arith, le_trans}
use Rattle.zy_table.specs.Member.{is_in}
use Rattle.zy_table.specs.Put.{put}
use Rattle.zy_table.specs.declared.name.Name.{Name}
use Rattle.zy_table.proofs.PutLemmas.{at_put, put_else}
use Rattle.zy_table.proofs.MemberLemmas.{in_front, in_or, not_in}
use Rattle.zy_shuffle.specs.declared.ring.view.Event.{Event}
use Rattle.zy_shuffle.specs.declared.ring.view.Event.TheVariants.{Arrive, Claim, Handle, GiveBack, Collect, Settle}
use Rattle.zy_shuffle.specs.Ownership.{Place, idle, ready, held, returned, Owners, no_requests, happens, IsSound}
use Rattle.zy_shuffle.specs.Ownership.{Runs}
use Rattle.core_laws.specs.OneStep.{KnowsHeld, Ruled, StaysHeld, owners_of, run_of, views_of}
use Rattle.zy_shuffle.specs.Run.{seat_of, Apart, AreOwned}
use Rattle.zy_shuffle.specs.View.{with_own}
use Rattle.zy_shuffle.proofs.OwnerLemmas.{idle_or, runs_from, runs_sound}
use Rattle.zy_shuffle.proofs.KnownLemmas.{apart_own, in_own, owned_front}
use mathlib.Core.Logic.{dite}
use native.Mathlib.Decide.{ℕ_discrete}

-- a connection that is elsewhere is another one
other_one : (s : Owners) (core c d : ℕ) (place : Place) → s.places c ≡ held core → s.places d ≡ place → (place ≡ held core → ⊥) → c ≢ d
other_one s core c d place e f ne g = ne (sym f ∙ ap s.places (sym g) ∙ e)

-- another connection goes somewhere
else_moves : (s : Owners) (core c d : ℕ) (place : Place) → s.places c ≡ held core → c ≢ d → put s.places d place c ≡ held core
else_moves s core c d place e ne = put_else s.places d place c ne ∙ e

-- an event of another seat
one_stays : (core c : ℕ) (s t : Owners) (e : Event) → IsSound s → happens 0 s e t → s.places c ≡ held core → seat_of e ≢ core → StaysHeld core c s t
one_stays core c s t (Arrive d n) sound h e ne = ⊎_elim
    (λ (i : s.places d ≡ idle). let far = other_one s core c d idle e i (λ f. cc) in
    subst (StaysHeld core c s) (sym (h.1 i)) record { place = else_moves s core c d ready e far; finished = refl; arrived = let a = put_else s.arrived d (s.arrived d + n) c far in omega arith })
    (λ (i : s.places d ≢ idle).
    subst (StaysHeld core c s) (sym (h.2 i)) record { place = e; finished = refl; arrived = at_put s.arrived d (s.arrived d + n) (λ j x. s.arrived j ≤ x) c (omega arith) (λ _. omega arith) })
    (idle_or (s.places d))
one_stays core c s t (Claim k) sound h e ne =
    let first : is_in h.0 s.queue ≡ true = ap (is_in h.0) h.2 ∙ in_front h.0 h.1 in
    let far = other_one s core c h.0 ready e ((sound.queued h.0).1 first) (λ f. cc) in
    subst (StaysHeld core c s) (sym h.3) record { place = else_moves s core c h.0 (held k) e far; finished = refl; arrived = omega arith }
one_stays core c s t (Handle k d) sound h e ne =
    let far = other_one s core c d (held k) e h.0 (λ f. ne (held_same k core f)) in
    subst (StaysHeld core c s) (sym h.2) record { place = e; finished = put_else s.finished d (s.finished d + 1) c far; arrived = omega arith }
  where
    held_same : (a b : ℕ) → held a ≡ held b → a ≡ b
    held_same a b f = cc
one_stays core c s t (GiveBack k d) sound h e ne =
    let far = other_one s core c d (held k) e h.0 (λ f. ne (held_same k core f)) in
    subst (StaysHeld core c s) (sym h.2) record { place = else_moves s core c d returned e far; finished = refl; arrived = omega arith }
  where
    held_same : (a b : ℕ) → held a ≡ held b → a ≡ b
    held_same a b f = cc
one_stays core c s t (Collect d) sound h e ne =
    let far = other_one s core c d returned e h.0 (λ f. cc) in
    subst (StaysHeld core c s) (sym h.1) record { place = else_moves s core c d (held 0) e far; finished = refl; arrived = omega arith }
one_stays core c s t (Settle d) sound h e ne =
    let far = other_one s core c d (held 0) e h.0 (λ f. ne (held_same 0 core f)) in dite (ℕ_discrete (s.finished d) (s.arrived d))
    (λ done. subst (StaysHeld core c s) (sym (h.2 done)) record { place = else_moves s core c d idle e far; finished = refl; arrived = omega arith })
    (λ left. subst (StaysHeld core c s) (sym (h.1 (let a = sound.counts d in omega arith))) record { place = else_moves s core c d ready e far; finished = refl; arrived = omega arith })
  where
    held_same : (a b : ℕ) → held a ≡ held b → a ≡ b
    held_same a b f = cc

-- events of other seats
run_stays_held : (core c : ℕ) (s t : Owners) (es : List Event) → IsSound s → Runs 0 s es t → s.places c ≡ held core → Apart (core ∷ []) es → StaysHeld core c s t
run_stays_held core c s t [] sound run e apart = subst (StaysHeld core c s) (sym run) record { place = e; finished = refl; arrived = omega arith }
run_stays_held core c s t (x ∷ xs) sound run e apart =
    let a = run_stays_held core c s run.0 xs sound run.1 e apart.1 in
    let b = one_stays core c run.0 t x (runs_from 0 s run.0 xs sound run.1) run.2 a.place (λ f. true≢false (sym (ap (λ n. is_in n (core ∷ [])) f ∙ in_front core []) ∙ apart.0)) in
    record { place = b.place; finished = b.finished ∙ a.finished; arrived = le_trans a.arrived b.arrived }

-- a run in two parts, of which the later stands in front
split_run : (home : ℕ) (s t : Owners) (later run : List Event) → Runs home s (later ++ run) t → (u : Owners) × Runs home s run u × Runs home u later t
split_run home s t [] run r = (t, r, refl)
split_run home s t (e ∷ es) run r = let a = split_run home s r.0 es run r.1 in (a.0, a.1, (r.0, a.2, r.2))

-- what is of none of these seats is not of this one of them
apart_one : (n : ℕ) (seats : List ℕ) (es : List Event) → is_in n seats ≡ true → Apart seats es → Apart (n ∷ []) es
apart_one n seats [] has h = tt
apart_one n seats (e ∷ es) has h = (
  not_in (seat_of e) (n ∷ []) (λ f. ⊎_elim
      (λ (g : seat_of e ≡ n). true≢false (sym (ap (λ x. is_in x seats) g ∙ has) ∙ h.0))
      (λ (g : (seat_of e ≢ n) × (is_in (seat_of e) [] ≡ true)). true≢false (sym g.1))
      (in_or n (seat_of e) [] f)),
  apart_one n seats es has h.1,
)

-- what a seat knows of a connection that it holds is so
pub knows_held : {T M : Type 0} {mark : T → M} {label : T → Name} (s : Ruled mark label) (id c : ℕ) → KnowsHeld id c s
knows_held s id c v at active =
    let t : Owners = owners_of s in
    let known = s.1.follows.known in
    let missing = known.missing id v at in
    let parts = split_run 0 no_requests t missing.0 v.trace.run (subst (λ es. Runs 0 no_requests es t) missing.1 s.1.follows.run) in
    let apart = apart_own (run_of s) (views_of s) known id v at active missing.0 (owned_front (views_of s) missing.0 v.trace.run (subst (AreOwned (views_of s)) missing.1 known.owned)) missing.2 in
    (parts.0, parts.1, λ e. run_stays_held id c parts.0 t missing.0 (runs_sound 0 parts.0 v.trace.run parts.1) parts.2 e (apart_one id (with_own id v.trace.seats) missing.0 (in_own id v.trace.seats (known.leads id v at)) apart))
