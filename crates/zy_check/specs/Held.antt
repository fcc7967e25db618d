-- Adding the holds up. No public clause cites this module.
use Rattle.std.specs.Prelude.{◌≡◌, ◌≢◌, ℕ, ◌<◌, ◌≤◌, get_or, List, length, Option, None, Some}
use Rattle.mc_calls.specs.declared.hold.Hold.{Hold}
use Rattle.zy_run.specs.Spans.{held_of}
use Rattle.zy_check.specs.Given.{Given, IsHeld}

-- the sums of the holds of the first `count` connections
pub record AreSums (count : ℕ) (holds : List Hold) (sums : List ℕ) : Type 0 where
  pub count_is : length sums ≡ count
  pub each : (conn : ℕ) → conn < count → get_or sums conn 0 ≡ held_of conn holds

-- no connection from `count` on has a sum of holds above 0, or this is the first one that has
abbrev pub FoundStray : ℕ → List Hold → Option ℕ → Type 0
FoundStray count holds None = (conn : ℕ) → count ≤ conn → held_of conn holds ≡ 0
FoundStray count holds (Some stray) =
    (count ≤ stray) × (held_of stray holds ≢ 0) × ((conn : ℕ) → count ≤ conn → conn < stray → held_of conn holds ≡ 0)

-- the holds of each connection add up to the number of its commands, or this is the first
-- connection whose holds do not
abbrev pub FoundUnheld : Given → Option ℕ → Type 0
FoundUnheld g None = (conn : ℕ) → IsHeld g conn
FoundUnheld g (Some conn) = ((c : ℕ) → c < conn → IsHeld g c) × (IsHeld g conn → ⊥)
