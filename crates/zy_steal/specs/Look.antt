-- What a core found at the other cores.
use Rattle.std.specs.Prelude.{◌≡◌, ◌≢◌, ℕ, List, Option, Some, None, slice_get}
use Rattle.zy_steal.specs.declared.looks.Look.{Look}

-- the look that was noted, if one was
abbrev pub noted : Option (Option Look) → Option Look
noted None = None
noted (Some look) = look

-- the look at a core
abbrev pub look_at : List (Option Look) → ℕ → Option Look
look_at looks core = noted (slice_get looks core)

-- no look was noted
abbrev pub IsBlank : List (Option Look) → Type 0
IsBlank looks = (core : ℕ) → look_at looks core ≡ None

-- these looks were noted over the earlier ones: each is the newest at its core, and the others stay
pub record NotesAll (made before after : List (Option Look)) : Type 0 where
  pub newest : (core : ℕ) (look : Look) → look_at made core ≡ Some look → look_at after core ≡ Some look
  pub others : (core : ℕ) → look_at made core ≡ None → look_at after core ≡ look_at before core

-- the look at one core was noted, and the others are as they were
pub record Notes (core : ℕ) (look : Look) (before after : List (Option Look)) : Type 0 where
  pub here : look_at after core ≡ Some look
  pub others : (other : ℕ) → other ≢ core → look_at after other ≡ look_at before other
