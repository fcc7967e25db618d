-- The ownership machine of one home core: the place of each of its connections, and the events that
-- move it. George Prekas, Marios Kogias and Edouard Bugnion, "ZygOS", SOSP 2017: the states idle,
-- ready and busy of a connection, and the shuffle queue of its home core. Here the state busy is
-- two places: in the hand of a core, and given back to the home.
use Rattle.zy_shuffle.specs.Ownership.{Owners, no_requests, happens, Runs, held, idle, ready}
use Rattle.std.specs.Prelude.{◌≡◌, ℕ, ◌≤◌, ◌≢◌, ◌+◌, List, [], ◌∷◌, ◌++◌, None, slice_set}
use Rattle.zy_table.specs.declared.name.Name.{Name}
use Rattle.zy_shuffle.specs.declared.ring.view.Event.{Event}
use Rattle.zy_shuffle.specs.declared.ring.view.Event.TheVariants.{Arrive}
use Rattle.zy_shuffle.specs.declared.ring.view.View.{View}
use Rattle.zy_shuffle.specs.View.{spent}
use Rattle.zy_shuffle.specs.Hand.{marked}
use Rattle.zy_shuffle.specs.HomeRole.{IsActive, IsHome}
use Rattle.zy_shuffle.specs.Run.{Before, AreOfSeat, MakesAll, MakesNone, publication, went_idle}
use Rattle.zy_shuffle.specs.ShuffleRule.{RingState, ShuffleRule}
use Rattle.zy_shuffle.specs.Step.{splitting, newcomer, taken_in}
use mathlib.Core.Option.{some}
use lib.ListN.{get_elem?}

-- the connection is with this core as before, the same number of its requests is finished, and no fewer
-- have arrived
pub record StaysHeld (core c : ℕ) (s t : Owners) : Type 0 where
  pub place : t.places c ≡ held core
  pub finished : t.finished c ≡ s.finished c
  pub arrived : s.arrived c ≤ t.arrived c

module _ {T M : Type 0} (mark : T → M) (label : T → Name) where
  -- a state that meets the rule
  abbrev pub Ruled : Type 0
  Ruled = (s : RingState T) × ShuffleRule mark label s

module _ {T : Type 0} where
  -- seat `id` has this view
  abbrev pub HasView : List (View T) → ℕ → View T → Type 0
  HasView views id v = get_elem? views id ≡ some v

  -- only the view of this seat changed, from the first to the second
  abbrev pub IsStep : ℕ → View T → View T → List (View T) → List (View T) → Type 0
  IsStep id v w views views' = HasView views id v × (views' ≡ slice_set views id w)

module _ {T M : Type 0} {mark : T → M} {label : T → Name} where
  -- the views of its seats
  abbrev pub views_of : Ruled mark label → List (View T)
  views_of s = s.0.views

  -- the run of the machine that the table follows, the newest event first
  abbrev pub run_of : Ruled mark label → List Event
  run_of s = s.1.follows.events

  -- the state of the machine that the table shows
  abbrev pub owners_of : Ruled mark label → Owners
  owners_of s = s.1.follows.owners

  -- no view has an event
  abbrev pub HaveNoEvents : Ruled mark label → Type 0
  HaveNoEvents s = (id : ℕ) (v : View T) → HasView (views_of s) id v → v.trace.run ≡ []

  -- seat `id` made a step that is no event
  abbrev pub IsNoEvent : ℕ → Ruled mark label → Ruled mark label → Type 0
  IsNoEvent id s t = (v w : View T) × IsStep id v w (views_of s) (views_of t) × MakesNone v.trace w.trace

  -- seat `id` made a step that is these events, which are its own
  abbrev pub AreEvents : ℕ → (ℕ → List Event) → Ruled mark label → Ruled mark label → Type 0
  AreEvents id acts s t = (v w : View T) × IsStep id v w (views_of s) (views_of t) × IsActive v.role
      × MakesAll acts v.trace w.trace × AreOfSeat id (acts id)

  -- seat `id` made a step that is this event, which is its own
  abbrev pub IsEvent : ℕ → (ℕ → Event) → Ruled mark label → Ruled mark label → Type 0
  IsEvent id e s t = AreEvents id (λ seat. e seat ∷ []) s t

  -- the run grew by these events, the newest first, and by nothing else
  abbrev pub GrowsByAll : List Event → Ruled mark label → Ruled mark label → Type 0
  GrowsByAll acts s t = run_of t ≡ acts ++ run_of s

  -- the run grew by this event, and by nothing else
  abbrev pub GrowsBy : Event → Ruled mark label → Ruled mark label → Type 0
  GrowsBy e s t = GrowsByAll (e ∷ []) s t

  -- the events lead, one after another, from the state of the machine before to the one after
  abbrev pub LeadsByAll : List Event → Ruled mark label → Ruled mark label → Type 0
  LeadsByAll acts s t = Runs 0 (owners_of s) acts (owners_of t)

  -- the event leads from the state of the machine before to the one after
  abbrev pub LeadsBy : Event → Ruled mark label → Ruled mark label → Type 0
  LeadsBy e s t = happens 0 (owners_of s) e (owners_of t)

  -- the home published the place, whose state was this before
  abbrev pub IsPublication : Before → ℕ → Ruled mark label → Ruled mark label → Type 0
  IsPublication before place s t = (v w : View T) × IsStep 0 v w (views_of s) (views_of t) × IsHome v.role
      × MakesAll (λ _. publication before place (marked mark place v.kept)) v.trace w.trace

  -- the events by which the connection became idle, if it was ever published
  abbrev pub idling_of : ℕ → Ruled mark label → List Event
  idling_of place s = went_idle place (s.1.marks place)

  -- the connection became idle by these events, and then a request arrived at it
  abbrev pub ArrivesIdle : ℕ → Ruled mark label → Ruled mark label → Type 0
  ArrivesIdle place s t = (u : Owners) × Runs 0 (owners_of s) (idling_of place s) u × (u.places place ≡ idle)
      × happens 0 u (Arrive place 1) (owners_of t)

  -- the home published the place before
  abbrev pub WasPublished : ℕ → Ruled mark label → Type 0
  WasPublished place s = s.1.marks place ≢ None

  -- the home held the connection, which is now ready
  abbrev pub BecomesReady : ℕ → Ruled mark label → Ruled mark label → Type 0
  BecomesReady place s t = ((owners_of s).places place ≡ held 0) × ((owners_of t).places place ≡ ready)

  -- if the connection is not idle, one request of it is unfinished
  abbrev pub HasOneRequest : ℕ → Ruled mark label → Type 0
  HasOneRequest place s = (owners_of s).places place ≢ idle
      → (owners_of s).finished place + 1 ≡ (owners_of s).arrived place

  -- seat `id` gave a pass, which has the next number
  abbrev pub IsGiven : ℕ → Ruled mark label → Ruled mark label → Type 0
  IsGiven id s t = (v : View T) × HasView (views_of s) id v × IsActive v.role
      × (views_of t ≡ slice_set (views_of s) id (splitting v) ++ newcomer v ∷ [])

  -- the home joined seat `id`
  abbrev pub IsJoined : ℕ → Ruled mark label → Ruled mark label → Type 0
  IsJoined id s t = (v w : View T) × HasView (views_of s) 0 v × IsActive v.role × HasView (views_of s) id w
      × (id ≡ 0 → ⊥) × (views_of t ≡ slice_set (slice_set (views_of s) 0 (taken_in v w)) id spent)

  -- if seat `id` holds the connection by the run that it knows, then it still holds it, with the
  -- same number of finished requests, and no fewer have arrived
  abbrev pub KnowsHeld : ℕ → ℕ → Ruled mark label → Type 0
  KnowsHeld id c s = (v : View T) → HasView (views_of s) id v → IsActive v.role
      → (u : Owners) × Runs 0 no_requests v.trace.run u × (u.places c ≡ held id → StaysHeld id c u (owners_of s))
