-- The holder of a place of a ring, as the ring's table shows it.
use Rattle.std.specs.Prelude.{ℕ, ◌+◌, List, [], ◌∷◌, ⊤}
use Rattle.zy_shuffle.specs.declared.ring.view.Role.{Role}
use Rattle.zy_shuffle.specs.declared.ring.view.Role.TheVariants.{Spent, Start, Core, Home, Closed}
use Rattle.zy_shuffle.specs.declared.ring.view.View.{View}

-- the holder of a place: nobody, before the first step of the home and after its last; the queue,
-- as the k-th place that was published; the hand of seat j; or its doorbell
pub data Holder : Type 0 where
  nobody : Holder
  in_queue : ℕ → Holder
  in_hand : ℕ → Holder
  at_bell : Holder

-- 1 if the place is in the queue
abbrev pub weight : Holder → ℕ
weight nobody = 0
weight (in_queue k) = 1
weight (in_hand j) = 0
weight at_bell = 0

-- its doorbell bit
abbrev pub bell : Holder → ℕ
bell nobody = 0
bell (in_queue k) = 0
bell (in_hand j) = 0
bell at_bell = 1

-- its block is in the table
abbrev pub IsInTable : Holder → Type 0
IsInTable nobody = ⊥
IsInTable (in_queue k) = ⊤
IsInTable (in_hand j) = ⊥
IsInTable at_bell = ⊤

-- 1 for the seat of a pass that is out
abbrev pub core_count : Role → ℕ
core_count Spent = 0
core_count Start = 0
core_count Core = 1
core_count (Home tail stored noted out) = 0
core_count (Closed gone) = 0

-- the number of passes that are out
abbrev pub cores : {T : Type 0} → List (View T) → ℕ
cores [] = 0
cores (v ∷ vs) = core_count v.role + cores vs
