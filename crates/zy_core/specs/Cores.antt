-- What the cores of a run are, and what stays of them while they are driven.
use Rattle.std.specs.Prelude.{◌≡◌, ℕ, ◌≤◌, List, length, map, true, Some, slice_get}
use Rattle.zy_rx.specs.Ring.{RingName}
use Rattle.zy_home.specs.Home.{Homed, is_settled}
use Rattle.zy_core.specs.Share.{Sharing}
use Rattle.zy_core.specs.Core.{Cored, Identity, identity_of, Fits}

-- what stays of cores
abbrev pub identities : List Cored → List Identity
identities cores = map identity_of cores

-- their homes
abbrev pub homes_of : List Cored → List Homed
homes_of cores = map (λ (c : Cored). c.home) cores

-- each is a core of the shared parts
unfoldable pub EachFits : Sharing → List Identity → Type 0
EachFits shared ids = (i : ℕ) (d : Identity) → slice_get ids i ≡ Some d → Fits shared d

-- the cores of a run: at least 1 and at most 64, one for each ring, by rising number
pub record AreCores (shared : Sharing) (ids : List Identity) : Type 0 where
  pub count : length ids ≡ length shared.rings
  pub some : 1 ≤ length ids
  pub few : length ids ≤ 64
  pub numbers : (i : ℕ) (d : Identity) → slice_get ids i ≡ Some d → d.core ≡ i
  pub each : EachFits shared ids

-- the ring with the number of each core is the one of its outlet
abbrev pub AreInlets : List RingName → List Identity → Type 0
AreInlets rings ids = (i : ℕ) (d : Identity) → slice_get ids i ≡ Some d → slice_get rings d.core ≡ Some d.ring

-- each core is settled
abbrev pub EachSettled : List Cored → Type 0
EachSettled cores = (i : ℕ) (c : Cored) → slice_get cores i ≡ Some c → is_settled c.home ≡ true
