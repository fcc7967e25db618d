-- Counts that grow from moment to moment, and the moments at which they rise.
use Rattle.std.specs.Prelude.{◌≡◌, ℕ, ◌+◌, ◌<◌, ◌≤◌, List, length, Some}
use Rattle.std.specs.List.{slice_get}

-- the count is above a number at this moment, and not before
pub record IsFirstRise (count : ℕ → ℕ) (number moment : ℕ) : Type 0 where
  pub above : number < count moment
  pub first : (earlier : ℕ) → earlier < moment → count earlier ≤ number

-- the moments at which the count rose, up to a last one: one for each number below the count there
pub record AreRises (count : ℕ → ℕ) (last : ℕ) (moments : List ℕ) : Type 0 where
  pub size : length moments ≡ count last
  pub each : (number moment : ℕ) → slice_get moments number ≡ Some moment
      → (moment ≤ last) × IsFirstRise count number moment

-- the count never falls
abbrev pub Grows : (ℕ → ℕ) → Type 0
Grows count = (moment : ℕ) → count moment ≤ count (moment + 1)
