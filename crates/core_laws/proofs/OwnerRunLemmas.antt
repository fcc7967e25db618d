-- The views of a ring determine its run, and a step adds its own events to it, or none.
use Rattle.zy_shuffle.proofs.OwnerLemmas.{idle_or, runs_sound}
use Rattle.std.proofs.Common.{◌≡◌, ◌≢◌, ℕ, ◌<◌, List, [], ◌∷◌, ◌++◌, refl, sym, ◌∙◌, subst, ⊎_elim, arith}
use Rattle.std.proofs.Common.{length, set, cond, Bool, true, false, true≢false, ap}
use Rattle.std.specs.Prelude.{⊤}
use Rattle.zy_shuffle.specs.declared.ring.view.Event.{Event}
use Rattle.zy_shuffle.specs.declared.ring.view.Event.TheVariants.{Arrive, Claim, Handle, GiveBack, Collect, Settle}
use Rattle.zy_shuffle.specs.Ownership.{idle, held, Owners, no_requests, moved, happens, IsSound, Runs}
use Rattle.std.proofs.lemmas.List.{append-nil, append_cancel_right, append_assoc, length-append}
use Rattle.atomic_table.proofs.Lists.{set_here, set_else}
use Rattle.zy_table.specs.Member.{is_in}
use Rattle.zy_table.specs.declared.name.Name.{Name}
use Rattle.zy_table.proofs.SlotLemmas.{at_below}
use Rattle.zy_shuffle.specs.declared.ring.view.View.{View}
use Rattle.zy_shuffle.specs.HomeRole.{IsActive}
use Rattle.zy_shuffle.specs.Run.{seat_of, AreOfSeat, Apart, Leads, AreOwned, MayFollow, IsKnown}
use Rattle.core_laws.specs.OneStep.{AreEvents, GrowsBy, GrowsByAll, IsGiven, IsJoined, IsNoEvent, LeadsBy, LeadsByAll, Ruled, owners_of, run_of, views_of}
use Rattle.zy_shuffle.specs.Step.{newcomer, splitting, taken_in}
use Rattle.zy_shuffle.specs.View.{with_own, spent}
use Rattle.zy_shuffle.proofs.KnownLemmas.{in_own, not_spent, known_added, known_same, known_joined, all_of}
use Rattle.zy_shuffle.proofs.KnownLemmas.{apart_front, apart_own, owned_front, same_view}
use mathlib.Core.Logic.{dite}
use native.Mathlib.Decide.{ℕ_discrete}
use mathlib.Core.Option.{some}
use lib.ListN.{get_elem?}

-- ---- runs

-- an idle connection has no unfinished request
pub not_idle : (s : Owners) (c : ℕ) → IsSound s → s.finished c < s.arrived c → s.places c ≢ idle
not_idle s c sound due e = let a = sound.idle_done c e in omega arith

-- ---- one run leads to one state

happens_one : (home : ℕ) (s t t' : Owners) (e : Event) → IsSound s → happens home s e t → happens home s e t' → t ≡ t'
happens_one home s t t' (Arrive c count) sound h k = ⊎_elim (λ (e : s.places c ≡ idle). h.1 e ∙ sym (k.1 e)) (λ (ne : s.places c ≢ idle). h.2 ne ∙ sym (k.2 ne)) (idle_or (s.places c))
happens_one home s t t' (Claim core) sound h k =
    let both : h.0 ∷ h.1 ≡ k.0 ∷ k.1 = sym h.2 ∙ k.2 in
    let first : h.0 ≡ k.0 = cc in
    let rest : h.1 ≡ k.1 = cc in
    h.3 ∙ (λ i. record (moved (first i) (held core) s) { queue = rest i }) ∙ sym k.3
happens_one home s t t' (Handle core c) sound h k = h.2 ∙ sym k.2
happens_one home s t t' (GiveBack core c) sound h k = h.2 ∙ sym k.2
happens_one home s t t' (Collect c) sound h k = h.1 ∙ sym k.1
happens_one home s t t' (Settle c) sound h k = dite (ℕ_discrete (s.finished c) (s.arrived c))
    (λ done. h.2 done ∙ sym (k.2 done))
    (λ left. let due : s.finished c < s.arrived c = (let a = sound.counts c in omega arith) in h.1 due ∙ sym (k.1 due))

pub runs_one : (home : ℕ) (t t' : Owners) (events : List Event) → Runs home no_requests events t → Runs home no_requests events t' → t ≡ t'
runs_one home t t' [] h k = h ∙ sym k
runs_one home t t' (e ∷ es) h k =
    happens_one home h.0 t t' e (runs_sound home h.0 es h.1) h.2 (subst (λ u. happens home u e t') (sym (runs_one home h.0 k.0 es h.1 k.1)) k.2)

-- a run of two lists of events passes through a state between them
runs_between : (home : ℕ) (s t : Owners) (acts es : List Event) → Runs home s (acts ++ es) t → (u : Owners) × Runs home s es u × Runs home u acts t
runs_between home s t [] es h = (t, h, refl)
runs_between home s t (e ∷ acts) es h = let r = runs_between home s h.0 acts es h.1 in (r.0, r.1, (h.0, r.2, h.2))

-- each event is of one of these seats
abbrev AllIn : List ℕ → List Event → Type 0
AllIn seats [] = ⊤
AllIn seats (e ∷ es) = (is_in (seat_of e) seats ≡ true) × AllIn seats es

-- the events of a seat among these are of these
all_own : (seats : List ℕ) (seat : ℕ) (es : List Event) → is_in seat seats ≡ true → AreOfSeat seat es → AllIn seats es
all_own seats seat [] is of = tt
all_own seats seat (e ∷ es) is of = (ap (λ n. is_in n seats) of.0 ∙ is, all_own seats seat es is of.1)

-- the events of these seats
abbrev those_of : List ℕ → List Event → List Event
those_of seats [] = []
those_of seats (e ∷ es) = cond (is_in (seat_of e) seats) (e ∷ those_of seats es) (those_of seats es)

those_all : (seats : List ℕ) (es : List Event) → AllIn seats es → those_of seats es ≡ es
those_all seats [] h = refl
those_all seats (e ∷ es) h = ap (λ b. cond b (e ∷ those_of seats es) (those_of seats es)) h.0 ∙ ap (λ l. e ∷ l) (those_all seats es h.1)

those_none : (seats : List ℕ) (es : List Event) → Apart seats es → those_of seats es ≡ []
those_none seats [] h = refl
those_none seats (e ∷ es) h = ap (λ b. cond b (e ∷ those_of seats es) (those_of seats es)) h.0 ∙ those_none seats es h.1

those_append : (seats : List ℕ) (xs ys : List Event) → those_of seats (xs ++ ys) ≡ those_of seats xs ++ those_of seats ys
those_append seats [] ys = refl
those_append seats (x ∷ xs) ys = go (is_in (seat_of x) seats) (those_append seats xs ys)
  where
    go : (b : Bool) → those_of seats (xs ++ ys) ≡ those_of seats xs ++ those_of seats ys → cond b (x ∷ those_of seats (xs ++ ys)) (those_of seats (xs ++ ys)) ≡ cond b (x ∷ those_of seats xs) (those_of seats xs) ++ those_of seats ys
    go true e = ap (λ l. x ∷ l) e
    go false e = e

-- a list that is written in two ways, both times with the events of these seats in one place
same_acts : (seats : List ℕ) (more la later acts mid : List Event) → more ++ la ≡ later ++ (acts ++ mid) → AllIn seats more → AllIn seats acts → Apart seats la → Apart seats later → Apart seats mid → more ≡ acts
same_acts seats more la later acts mid both more_own acts_own la_apart later_apart mid_apart =
    let left : those_of seats (more ++ la) ≡ more = those_append seats more la ∙ (λ i. those_all seats more more_own i ++ those_none seats la la_apart i) ∙ append-nil more in
    let right : those_of seats (later ++ (acts ++ mid)) ≡ acts = those_append seats later (acts ++ mid) ∙ (λ i. those_none seats later later_apart i ++ those_append seats acts mid i)
    ∙ (λ i. those_all seats acts acts_own i ++ those_none seats mid mid_apart i) ∙ append-nil acts in
    sym left ∙ ap (those_of seats) both ∙ right

module _ {T : Type 0} where
  -- there is one run
  pub one_run : (views : List (View T)) (es es' : List Event) → IsKnown es views → IsKnown es' views → es ≡ es'
  one_run views es es' t t' =
      let a = t.last in
      let b = t'.last in
      let x = t'.missing a.0 a.1 a.2 in
      let y = t.missing b.0 b.1 b.2 in
      let x_is : es' ≡ x.0 ++ es = x.1 ∙ ap (λ l. x.0 ++ l) a.3 in
      let y_is : es ≡ y.0 ++ es' = y.1 ∙ ap (λ l. y.0 ++ l) b.3 in
      let c = ap length y_is in
      let d = length-append y.0 es' in
      let e = ap length x_is in
      let f = length-append x.0 es in
      all_of x.0 es es' x_is (omega arith)

  -- no event: the run stays
  pub run_stays : (views : List (View T)) (es es' : List Event) (id : ℕ) (v w : View T) → get_elem? views id ≡ some v → w.trace.run ≡ v.trace.run → IsKnown es views → IsKnown es' (set views id w) → es' ≡ es
  run_stays views es es' id v w at run t t' =
      let a = t.last in
      let b = t'.last in
      let l = a.3 in
      let m = b.3 in
      let here : get_elem? (set views id w) id ≡ some w = set_here views id w (at_below views id v at) in
      let x : (later : List Event) × (es' ≡ later ++ es) = dite (ℕ_discrete a.0 id)
      (λ e. let o = t'.missing id w here in (o.0, o.1 ∙ ap (λ k. o.0 ++ k) (run ∙ ap (λ (y : View T). y.trace.run) (same_view views id a.0 v a.1 at a.2 (sym e)) ∙ l)))
      (λ ne. let o = t'.missing a.0 a.1 (set_else views id a.0 w ne ∙ a.2) in (o.0, o.1 ∙ ap (λ k. o.0 ++ k) l)) in
      let y : (later : List Event) × (es ≡ later ++ es') = dite (ℕ_discrete b.0 id)
      (λ e. let o = t.missing id v at in (o.0, o.1 ∙ ap (λ k. o.0 ++ k) (sym run ∙ ap (λ (y : View T). y.trace.run) (same_view (set views id w) id b.0 w b.1 here b.2 (sym e)) ∙ m)))
      (λ ne. let o = t.missing b.0 b.1 (sym (set_else views id b.0 w ne) ∙ b.2) in (o.0, o.1 ∙ ap (λ k. o.0 ++ k) m)) in
      let c = ap length y.1 in
      let d = length-append y.0 es' in
      let e = ap length x.1 in
      let f = length-append x.0 es in
      sym (all_of x.0 es es' x.1 (omega arith))

  -- events: the run goes on by them, and by nothing else
  pub run_grows : (views : List (View T)) (es es' : List Event) (id : ℕ) (v w : View T) (since : ℕ × List Event) (acts : List Event) → get_elem? views id ≡ some v → IsActive v.role → w.trace.run ≡ acts ++ (since.1 ++ v.trace.run) → w.trace.seats ≡ with_own since.0 v.trace.seats → MayFollow since v.trace → AllIn w.trace.seats acts
      → IsKnown es views → IsKnown es' (set views id w) → es' ≡ acts ++ es
  run_grows views es es' id v w since acts at active run seats may of t t' =
      let here : get_elem? (set views id w) id ≡ some w = set_here views id w (at_below views id v at) in
      let mid : List Event = since.1 in
      let mine = t.missing id v at in
      let la : List Event = mine.0 in
      let now = t'.missing id w here in
      let later : List Event = now.0 in
      let now_is : es' ≡ (later ++ (acts ++ mid)) ++ v.trace.run = now.1 ∙ ap (λ l. later ++ l) (run ∙ sym (append_assoc acts mid v.trace.run)) ∙ sym (append_assoc later (acts ++ mid) v.trace.run) in
      let own_seats : with_own id v.trace.seats ≡ w.trace.seats = same_own v.trace.seats (subst (Leads id) seats (t'.leads id w here)) ∙ sym seats in
      let mid_apart : Apart w.trace.seats mid = subst (λ l. Apart l mid) (sym seats) may.1 in
      let la_apart : Apart w.trace.seats la = subst (λ l. Apart l la) own_seats (apart_own es views t id v at active la (owned_front views la v.trace.run (subst (AreOwned views) mine.1 t.owned)) mine.2) in
      -- the run before is the end of the run now
      let last = t.last in
      let last_is = last.3 in
      let grown : (more : List Event) × (es' ≡ more ++ es) = dite (ℕ_discrete last.0 id)
      (λ same. (later ++ (acts ++ mid), now_is ∙ ap (λ l. (later ++ (acts ++ mid)) ++ l) (ap (λ (y : View T). y.trace.run) (same_view views id last.0 v last.1 at last.2 (sym same)) ∙ last_is)))
      (λ ne. let o = t'.missing last.0 last.1 (set_else views id last.0 w ne ∙ last.2) in (o.0, o.1 ∙ ap (λ l. o.0 ++ l) last_is)) in
      let more : List Event = grown.0 in
      let more_is = grown.1 in
      -- and each further event is of a seat all of whose events this view has
      let others : (j : ℕ) (u : View T) → get_elem? views j ≡ some u → j ≢ id → Apart u.trace.seats more = λ j u at_u ne.
      let old = t.missing j u at_u in
      let new = t'.missing j u (set_else views id j w ne ∙ at_u) in
      let is : new.0 ≡ more ++ old.0 = append_cancel_right new.0 (more ++ old.0) u.trace.run (sym new.1 ∙ more_is ∙ ap (λ l. more ++ l) old.1 ∙ sym (append_assoc more old.0 u.trace.run)) in
      apart_front u.trace.seats more old.0 (subst (Apart u.trace.seats) is new.2) in
      let all : AllIn w.trace.seats more = owns more (owned_front (set views id w) more es (subst (AreOwned (set views id w)) more_is t'.owned)) others in
      -- both ways of writing it
      let both : more ++ la ≡ later ++ (acts ++ mid) = append_cancel_right (more ++ la) (later ++ (acts ++ mid)) v.trace.run (append_assoc more la v.trace.run ∙ ap (λ l. more ++ l) (sym mine.1) ∙ sym more_is ∙ now_is) in
      more_is ∙ ap (λ l. l ++ es) (same_acts w.trace.seats more la later acts mid both all of la_apart now.2 mid_apart)
    where
      same_own : (xs : List ℕ) → Leads id (with_own since.0 xs) → with_own id xs ≡ with_own since.0 xs
      same_own [] l = ap (λ n. n ∷ []) l
      same_own (x ∷ xs) l = refl

      owns : (zs : List Event) → AreOwned (set views id w) zs → ((j : ℕ) (u : View T) → get_elem? views j ≡ some u → j ≢ id → Apart u.trace.seats zs) → AllIn w.trace.seats zs
      owns [] o f = tt
      owns (x ∷ xs) o f = (
        (let h = o.0 in dite (ℕ_discrete h.0 id)
            (λ e. ap (λ (y : View T). is_in (seat_of x) y.trace.seats) (same_view (set views id w) id h.0 w h.1 (set_here views id w (at_below views id v at)) h.2 (sym e)) ∙ h.3)
            (λ ne. absurd (true≢false (sym h.3 ∙ (f h.0 h.1 (sym (set_else views id h.0 w ne) ∙ h.2) ne).0)))),
        owns xs o.1 (λ j u at_u ne. (f j u at_u ne).1),
      )

module _ {T M : Type 0} {mark : T → M} {label : T → Name} (s t : Ruled mark label) where
  -- a run that goes on by these events: they lead from the state that the run reached
  pub leads_all : (acts : List Event) → GrowsByAll acts s t → LeadsByAll acts s t
  leads_all acts grown =
      let l = runs_between 0 no_requests (owners_of t) acts (run_of s) (subst (λ es. Runs 0 no_requests es (owners_of t)) grown t.1.follows.run) in
      subst (λ u. Runs 0 u acts (owners_of t)) (sym (runs_one 0 (owners_of s) l.0 (run_of s) s.1.follows.run l.1)) l.2

  -- the same of one event
  pub leads_one : (e : Event) → GrowsBy e s t → LeadsBy e s t
  leads_one e grown = let l = leads_all (e ∷ []) grown in subst (λ u. happens 0 u e (owners_of t)) l.1 l.2

  -- the views after a step, which are these, have the run between them
  known_after : {views : List (View T)} → views_of t ≡ views → IsKnown (run_of t) views
  known_after is = subst (IsKnown (run_of t)) is t.1.follows.known

  -- a step that is no event
  pub step_stays : (id : ℕ) → IsNoEvent id s t → run_of t ≡ run_of s
  step_stays id h = run_stays (views_of s) (run_of s) (run_of t) id h.0 h.1 h.2.0 h.3.0 s.1.follows.known (known_after h.2.1)

  -- a step that is these events
  pub step_grows : (id : ℕ) (acts : ℕ → List Event) → AreEvents id acts s t → GrowsByAll (acts id) s t
  step_grows id acts h =
      let v : View T = h.0 in
      let w : View T = h.1 in
      let ran = h.4 in
      let u = known_after h.2.1 in
      let since : ℕ × List Event = ran.0 in
      let leads = subst (Leads id) ran.2 (u.leads id w (set_here (views_of s) id w (at_below (views_of s) id v h.2.0))) in
      let number : since.0 ≡ id = first v.trace.seats since.0 ran.3.0 leads in
      let mine : is_in id w.trace.seats ≡ true = ap (is_in id) ran.2 ∙ ap (λ n. is_in n (with_own since.0 v.trace.seats)) (sym number) ∙ in_own since.0 v.trace.seats ran.3.0 in
      run_grows (views_of s) (run_of s) (run_of t) id v w since (acts id) h.2.0 h.3 (ran.1 ∙ ap (λ n. acts n ++ (since.1 ++ v.trace.run)) number) ran.2 ran.3 (all_own w.trace.seats id (acts id) mine h.5) s.1.follows.known u
    where
      first : (xs : List ℕ) (n : ℕ) → Leads n xs → Leads id (with_own n xs) → n ≡ id
      first [] n a b = sym b
      first (x ∷ xs) n a b = a ∙ sym b

  -- a pass is given
  pub split_stays : (id : ℕ) → IsGiven id s t → run_of t ≡ run_of s
  split_stays id h =
      let v : View T = h.0 in
      one_run (set (views_of s) id (splitting v) ++ newcomer v ∷ []) (run_of t) (run_of s) (known_after h.3)
      (known_added (run_of s) (set (views_of s) id (splitting v)) (newcomer v) refl refl (known_same (run_of s) (views_of s) id v (splitting v) h.1 refl refl (λ e. absurd (not_spent v.role h.2 e)) s.1.follows.known))

  -- a pass is taken in
  pub join_stays : (id : ℕ) → IsJoined id s t → run_of t ≡ run_of s
  join_stays id h =
      let v : View T = h.0 in
      let w : View T = h.1 in
      one_run (set (set (views_of s) 0 (taken_in v w)) id spent) (run_of t) (run_of s) (known_after h.6)
      (known_joined (run_of s) (views_of s) s.1.follows.known 0 v h.2 h.3 id w (taken_in v w) h.4 h.5 refl refl refl)
