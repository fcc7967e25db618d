-- Which cores are settled, have counted themselves, or have all their blocks.
use Rattle.std.specs.Prelude.{◌≡◌, ℕ, ◌==◌, ◌&&◌, ◌||◌, not, List, [], ◌∷◌, Bool, true, false, Some, slice_get}
use Rattle.zy_home.specs.Home.{all_here, is_settled}
use Rattle.zy_control.specs.View.{MustHaveCounted, has_counted}
use Rattle.zy_core.specs.Core.{Cored, with_count}
use Rattle.zy_rounds.specs.Turns.{EachBecame}

-- some core has this property
abbrev pub HasOne : (Cored → Type 0) → List Cored → Type 0
HasOne P cores = (i : ℕ) × (core : Cored) × (slice_get cores i ≡ Some core) × P core

-- the core is not settled
abbrev pub IsUnsettled : Cored → Type 0
IsUnsettled core = is_settled core.home ≡ false

-- the core has seen that not all cores have counted themselves
abbrev pub SeesOthers : Cored → Type 0
SeesOthers core = (core.control.trace.done.value == core.control.cores) ≡ false

-- the core has counted itself if it is settled
abbrev pub IsNoted : Cored → Type 0
IsNoted core = is_settled core.home ≡ true → MustHaveCounted core.control.role

-- each core has counted itself if it is settled
abbrev pub EachNoted : List Cored → Type 0
EachNoted cores = (i : ℕ) (core : Cored) → slice_get cores i ≡ Some core → IsNoted core

-- the core is settled, and has not counted itself
abbrev pub is_due : Cored → Bool
is_due core = not (has_counted core.control.role) && is_settled core.home

-- so is one of several cores
abbrev pub some_due : List Cored → Bool
some_due [] = false
some_due (core ∷ cores) = is_due core || some_due cores

-- the core counted itself if it was settled and had not done so, and otherwise is as it was
pub record NotesTo (before after : Cored) : Type 0 where
  pub counted : is_due before ≡ true → (done : ℕ) × (after ≡ with_count done before)
  pub kept : is_due before ≡ false → after ≡ before

-- so did each of several cores
abbrev pub EachNotes : List Cored → List Cored → Type 0
EachNotes before after = EachBecame NotesTo before after

-- no block of these cores is away
abbrev pub have_all_blocks : List Cored → Bool
have_all_blocks [] = true
have_all_blocks (core ∷ cores) = all_here core.home.blocks && have_all_blocks cores
