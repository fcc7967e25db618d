-- What a seat learns from each kind of step of a ring. Of public clauses only laws cite this module.
use Rattle.std.specs.Prelude.{◌≡◌, ◌≢◌, ℕ, ◌+◌, ◌-◌, ◌<◌, ◌≤◌, List, [], ◌∷◌, false, Option, Some, None}
use Rattle.atomic_table.specs.Table.{Me, Step, rest}
use Rattle.zy_table.specs.declared.name.Name.{Name}
use Rattle.zy_table.specs.Member.{is_in, without}
use Rattle.zy_shuffle.specs.declared.ring.view.Role.TheVariants.{Core, Home, Closed}
use Rattle.zy_shuffle.specs.declared.ring.view.Event.{Event}
use Rattle.zy_shuffle.specs.declared.ring.view.Event.TheVariants.{Claim, GiveBack, Collect}
use Rattle.zy_shuffle.specs.Run.{Before, publication, MayFollow}
use Rattle.zy_shuffle.specs.declared.ring.view.View.{View}
use Rattle.zy_shuffle.specs.HomeRole.{with_stored, with_published, with_bells, one_more, one_less, IsHome, rung_place}
use Rattle.zy_shuffle.specs.HomeRole.{noted_in}
use Rattle.zy_shuffle.specs.Hand.{first_of, rest_of, emptied, below_then, marked}
use Rattle.zy_shuffle.specs.View.{plain_step, head_step, tail_step, try_step, bell_step, fresh, traced}
use Rattle.zy_shuffle.specs.View.{after_event, after_events, joining}

-- a seat's view, and the slots that it has taken
abbrev pub Seated : Type 0 → Type 0
Seated T = Me (Option T) (View T)

module _ {T : Type 0} where
  -- ---- views after steps

  -- the place that the seat noted for its next claim
  abbrev pub noted_place : View T → ℕ
  noted_place v = noted_in v.note

  -- the seat loaded the cell of k
  abbrev pub noting : ℕ → ℕ → View T → View T
  noting k found v = record v { note = Some (k, found); trace = plain_step v.trace }

  -- the place is now in the hand, with its block
  abbrev pub taking : ℕ → T → ℕ → ℕ × List Event → View T → View T
  taking p b found since v = record v {
    hand = p ∷ v.hand;
    kept = (p, b) ∷ v.kept;
    note = None;
    trace = after_event since (Claim since.0) (try_step found v.trace);
  }

  -- the home stored the place in the next cell, and its slot is in front
  abbrev pub storing : ℕ → View T → View T
  storing p v = record v { role = with_stored p v.role; hand = p ∷ without p v.hand; trace = plain_step v.trace }

  -- the home raised the tail, with this block in the slot in front
  abbrev pub publishing : ℕ × List Event → List Event → View T → List (ℕ × Option T) → View T
  publishing since acts v [] = v
  publishing since acts v ((p, None) ∷ cs) = v
  publishing since acts v ((p, Some b) ∷ cs) = record v {
    role = with_published v.role;
    hand = rest_of v.hand;
    kept = (p, b) ∷ v.kept;
    trace = after_events since acts (plain_step v.trace);
  }

  -- the slot of the place is in front
  abbrev pub fronting : ℕ → ℕ → View T → View T
  fronting p found v = record v { hand = p ∷ without p v.hand; trace = head_step found v.trace }

  -- the place in front left the hand, with this block in its slot
  abbrev pub giving : ℕ × List Event → View T → List (ℕ × Option T) → View T
  giving since v [] = v
  giving since v ((p, None) ∷ cs) = v
  giving since v ((p, Some b) ∷ cs) = record v {
    hand = rest_of v.hand;
    kept = (p, b) ∷ v.kept;
    trace = after_event since (GiveBack since.0 (first_of v.hand)) (plain_step v.trace);
  }

  -- the home loaded a doorbell word
  abbrev pub noting_bells : ℕ → ℕ → View T → View T
  noting_bells word found v =
      record v { role = with_bells (Some (word, found)) v.role; trace = bell_step word found v.trace }

  -- the place is back in the home's hand, with its block
  abbrev pub collecting : ℕ → T → ℕ × List Event → View T → View T
  collecting p b since v = record v {
    role = with_bells None v.role;
    hand = p ∷ v.hand;
    kept = (p, b) ∷ v.kept;
    trace = after_event since (Collect p) (plain_step v.trace);
  }

  -- the first seat became the home's, with all m places in its hand
  abbrev pub naming : Name → ℕ → View T
  naming name m = record (fresh (Home 0 None None 0) name) { hand = below_then m [] }

  -- the home is closed
  abbrev pub closing : View T → View T
  closing v = record v { role = Closed v.hand; hand = []; trace = plain_step v.trace }

  -- the home gave a pass
  abbrev pub splitting : View T → View T
  splitting v = record v { role = one_more v.role }

  -- the pass given, which begins with an empty hand
  abbrev pub newcomer : View T → View T
  newcomer v = fresh Core v.label

  -- the home joined a pass
  abbrev pub taken_in : View T → View T → View T
  taken_in v w = record v { role = one_less v.role; trace = joining v.trace w.trace }

  -- ---- what is learned: from the step, the seat before, the number found, to the seat after

  -- the head was loaded
  abbrev pub saw_head : Step (Option T) → Seated T → ℕ → Seated T → Type 0
  saw_head st m r n = n ≡ (traced (head_step r) m.0, m.1)

  -- at that moment the head had some value, which is at most the tail
  abbrev pub saw_tail : Step (Option T) → Seated T → ℕ → Seated T → Type 0
  saw_tail st m r n = (u : ℕ) × (n ≡ (traced (tail_step r u) m.0, m.1)) × (m.0.trace.head.value ≤ u) × (u ≤ r)
      × (st.slots ≡ 0 → r ≡ 0)

  -- the cell of the head that was seen was loaded
  abbrev pub saw_cell : Step (Option T) → Seated T → ℕ → Seated T → Type 0
  saw_cell st m r n = n ≡ (noting m.0.trace.head.value r m.0, m.1)

  -- the place whose slot came to the front was stored in the next cell
  abbrev pub stored_cell : Step (Option T) → Seated T → Seated T → Type 0
  stored_cell st m n = n ≡ (storing st.first m.0, emptied (st.first ∷ without st.first m.0.hand))

  -- the head was loaded, and the slot of this place came to the front
  abbrev pub fronted : ℕ → Seated T → ℕ → Seated T → Type 0
  fronted p m r n = n ≡ (fronting p r m.0, emptied (p ∷ without p m.0.hand))

  -- the place in front was given back
  abbrev pub gave : Seated T → Seated T → Type 0
  gave m n = (since : ℕ × List Event) × (n ≡ (giving since m.0 m.1, rest m.1)) × MayFollow since m.0.trace

  -- a doorbell word was loaded
  abbrev pub saw_bells : Step (Option T) → Seated T → ℕ → Seated T → Type 0
  saw_bells st m r n = n ≡ (noting_bells (st.word - (32 + st.slots)) r m.0, m.1)

  -- the first load named the ring's label and took all slots
  abbrev pub named_as : Name → Step (Option T) → Seated T → Type 0
  named_as name st n = n ≡ (naming name st.slots, emptied (below_then st.slots []))

  -- the last load closed the home
  abbrev pub closed : Seated T → Seated T → Type 0
  closed m n = n ≡ (closing m.0, [])

  module _ {M : Type 0} (before : Before) (mark : T → M) where
    -- the events of publishing the place in front
    abbrev pub next_publication : View T → List Event
    next_publication v = publication before (first_of v.hand) (marked mark (first_of v.hand) v.kept)

    -- the place in front was published
    abbrev pub published : Seated T → Seated T → Type 0
    published m n = (since : ℕ × List Event) × (n ≡ (publishing since (next_publication m.0) m.0 m.1, rest m.1))
        × MayFollow since m.0.trace

  module _ {M : Type 0} (mark : T → M) (label : T → Name) where
    -- the block that comes with a place has the ring's label, and for the home the mark that it keeps
    abbrev pub Comes : ℕ → View T → ℕ → T → Type 0
    Comes m v p b = (p < m) × (is_in p v.hand ≡ false) × (label b ≡ v.label)
        × (IsHome v.role → marked mark p v.kept ≡ Some (mark b))

    -- the exchange of the head took the place that was noted, or it failed
    abbrev pub claimed : Step (Option T) → Seated T → ℕ → Seated T → Type 0
    claimed st m r n =
        (r ≡ st.first → (b : T) × (since : ℕ × List Event)
        × (n ≡ (taking (noted_place m.0) b r since m.0, (noted_place m.0, Some b) ∷ m.1))
        × Comes st.slots m.0 (noted_place m.0) b × MayFollow since m.0.trace)
        × (r ≢ st.first → n ≡ (traced (try_step r) m.0, m.1))

    -- the home collected the place of the lowest bit that it noted
    abbrev pub collected : Step (Option T) → Seated T → Seated T → Type 0
    collected st m n = (b : T) × (since : ℕ × List Event)
        × (n ≡ (collecting (rung_place m.0.role) b since m.0, (rung_place m.0.role, Some b) ∷ m.1))
        × Comes st.slots m.0 (rung_place m.0.role) b × MayFollow since m.0.trace
