-- Naps of a group's one core, and how it calls up the cores that rest.
use Rattle.std.specs.Prelude.{◌≡◌, ◌⊎◌, ℕ, ◌+◌, ◌<◌, ◌≤◌, ◌^◌, List, [], ◌∷◌, map, Some, slice_get}
use Rattle.zy_control.specs.Pass.{seeing_sleepers}
use Rattle.zy_park.specs.Pass.{Passed, ringing_each}
use Rattle.zy_core.specs.Core.{Cored, Identity, stepped}
use Rattle.zy_core.specs.Nap.{NapTo}
use Rattle.zy_core.specs.declared.nap.Nap.{Nap}
use Rattle.zy_rounds.specs.declared.round.Round.{Round}
use Rattle.zy_rounds.specs.declared.round.Round.TheVariants.{Idle}
use Rattle.zy_rounds.specs.Round.{round_of_nap}

-- there is one core, with this number
abbrev pub IsAlone : ℕ → List Identity → Type 0
IsAlone number ids = map (λ (d : Identity). d.core) ids ≡ number ∷ []

-- a core among `cores` cores took a nap, which came to this round; or it took none, since it had taken the most turns
-- that a core may take
abbrev pub NappedTo : ℕ → Cored → Cored → Passed → Passed → Round → Type 0
NappedTo cores before after bell bell' round =
    ((before.turns < 2 ^ 48) × (after.turns ≡ before.turns + 1)
    × ((nap : Nap) × (round ≡ round_of_nap nap) × NapTo cores before after bell bell' nap))
    ⊎ ((2 ^ 48 ≤ before.turns) × (after ≡ before) × (bell' ≡ bell) × (round ≡ Idle))

-- the first core did so
pub record FirstNapped (cores : ℕ) (before after : List Cored) (bell bell' : Passed) (round : Round) : Type 0 where
  pub core : Cored
  pub napped : Cored
  pub was : slice_get before 0 ≡ Some core
  pub is : slice_get after 0 ≡ Some napped
  pub nap : NappedTo cores core napped bell bell' round

-- the first core loaded sleepers, and its pass at the bells then rang each core whose bit was 1
pub record CallsUp (before after : List Cored) (pass pass' : Passed) : Type 0 where
  pub core : Cored
  pub sleepers : ℕ
  pub first : slice_get before 0 ≡ Some core
  pub loaded : slice_get after 0 ≡ Some (stepped (seeing_sleepers sleepers core.control) core)
  pub rung : pass' ≡ ringing_each sleepers pass
