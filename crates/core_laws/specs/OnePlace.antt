-- The words and views of a ring show each place in one spot: in one hand, or in the queue once, or
-- at its doorbell.
use Rattle.std.specs.Prelude.{◌≡◌, ◌⊎◌, ℕ, ◌+◌, ◌<◌, ◌≤◌, length, true}
use Rattle.zy_table.specs.Member.{is_in}
use Rattle.zy_shuffle.specs.declared.ring.view.View.{View}
use Rattle.zy_shuffle.specs.HomeRole.{IsHome}
use Rattle.zy_shuffle.specs.Word.{cell, bell_at}
use Rattle.zy_shuffle.specs.ShuffleRule.{RingState}
use mathlib.Core.Option.{some}
use lib.ListN.{get_elem?}

-- the head is at most the tail, and the tail is at most the head plus the number of places
abbrev pub IsBounded : ℕ → ℕ → ℕ → Type 0
IsBounded head tail m = (head ≤ tail) × (tail ≤ head + m)

module _ {T : Type 0} (s : RingState T) where
  -- the place is in the hand of this seat
  abbrev pub Holds : ℕ → ℕ → Type 0
  Holds j place = (v : View T) × (get_elem? s.views j ≡ some v) × (is_in place v.hand ≡ true)

  -- a place is in at most one hand
  abbrev pub HasOneHand : Type 0
  HasOneHand = (i j place : ℕ) → Holds i place → Holds j place → i ≡ j

  -- the home has made its first step, and is not closed
  abbrev pub IsOpen : Type 0
  IsOpen = (v : View T) × (get_elem? s.views 0 ≡ some v) × IsHome v.role

  module _ (head tail : ℕ) where
    -- the k-th place that was published is this one, and it has not been claimed yet
    abbrev pub IsQueued : ℕ → ℕ → Type 0
    IsQueued k place = (head ≤ k) × (k < tail) × (cell s.words (length s.homes) k ≡ place)

    -- a place is in the queue at most once
    abbrev pub IsOnceQueued : Type 0
    IsOnceQueued = (i j place : ℕ) → IsQueued i place → IsQueued j place → i ≡ j

    -- a place in a hand is not in the queue, and its doorbell bit is 0
    abbrev pub HandsApart : Type 0
    HandsApart = (j place : ℕ) → Holds j place → (bell_at s.words (length s.homes) place ≡ 0)
        × ((k : ℕ) → IsQueued k place → ⊥)

    -- the doorbell bit of a place in the queue is 0
    abbrev pub QueueApart : Type 0
    QueueApart = (k place : ℕ) → IsQueued k place → bell_at s.words (length s.homes) place ≡ 0

    -- each place is in the hand of a seat, or in the queue, or at its doorbell
    abbrev pub NoneIsLost : Type 0
    NoneIsLost = (place : ℕ) → place < length s.homes → ((j : ℕ) × Holds j place)
        ⊎ (((k : ℕ) × IsQueued k place) ⊎ (bell_at s.words (length s.homes) place ≡ 1))
