-- How a ring's table follows the ownership machine: the state that the table shows is one that a
-- run of the machine reaches, and the views of the seats have that run. Seats are the cores of the
-- machine, and seat 0 is the home core.
use Rattle.std.specs.Prelude.{◌≡◌, ◌≢◌, ◌⊎◌, ◌↔◌, ℕ, zero, suc, ◌+◌, ◌-◌, ◌<◌, List, [], ◌∷◌, Option, None}
use Rattle.zy_shuffle.specs.Ownership.{Place, idle, ready, held, returned, Owners, no_requests, Runs}
use Rattle.zy_shuffle.specs.Run.{IsKnown}
use Rattle.zy_shuffle.specs.declared.ring.view.Event.{Event}
use Rattle.zy_shuffle.specs.declared.ring.view.View.{View}
use Rattle.zy_shuffle.specs.Word.{cell}
use Rattle.zy_shuffle.specs.Holder.{Holder, nobody, in_queue, in_hand, at_bell}

-- the machine's place of a connection agrees with the holder of its place in the ring. In the hand
-- of the home it is idle or held by the home, since settling a connection that has nothing to do is
-- not a step
abbrev pub Agrees : Holder → Place → Type 0
Agrees nobody place = (place ≡ idle) ⊎ (place ≡ held 0)
Agrees (in_queue k) place = place ≡ ready
Agrees (in_hand j) place = (place ≡ held j) ⊎ ((j ≡ 0) × (place ≡ idle))
Agrees at_bell place = place ≡ returned

-- the places in the first n cells from the head on
abbrev pub queue_of : List ℕ → ℕ → ℕ → ℕ → List ℕ
queue_of words m head zero = []
queue_of words m head (suc n) = cell words m head ∷ queue_of words m (head + 1) n

-- there is a run of the machine to a state in which each connection's place agrees with the table,
-- and the queue is that of the table; and this run is the one that the views have
pub record Follows {T M : Type 0} (words : List ℕ) (m head tail : ℕ) (holders : ℕ → Holder) (marks : ℕ → Option M)
    (views : List (View T)) : Type 0 where
  pub owners : Owners
  pub events : List Event
  pub run : Runs 0 no_requests events owners
  pub places : (p : ℕ) → p < m → Agrees (holders p) (owners.places p)
  pub queue : owners.queue ≡ queue_of words m head (tail - head)
  -- a connection is idle if and only if the home keeps no mark for it, as it was never published
  pub unmarked : (p : ℕ) → p < m → (owners.places p ≡ idle) ↔ (marks p ≡ None)
  -- a connection that is not idle has one unfinished request
  pub due : (p : ℕ) → p < m → owners.places p ≢ idle → owners.finished p + 1 ≡ owners.arrived p
  pub known : IsKnown events views
