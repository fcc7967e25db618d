-- What the cores of a run are when they are made, and their receive rings.
use Rattle.std.specs.Prelude.{◌≡◌, ℕ, List, [], length, false, Some, slice_get}
use Rattle.zy_table.specs.declared.name.Name.{Name}
use Rattle.zy_rx.specs.Ring.{Offering, offering}
use Rattle.zy_shuffle.specs.Pass.{Ringed}
use Rattle.zy_conn.specs.Block.{Blocked, label_of}
use Rattle.zy_home.specs.Home.{Homed, HomeStands}
use Rattle.zy_steal.specs.Steal.{PassList, ArePasses, AreIdle, seats_of}
use Rattle.zy_core.specs.Share.{Sharing}
use Rattle.zy_core.specs.Core.{Cored}

-- the home of this core, of this number of cores, on its ring among these, with this label; no allocation failed in it,
-- and it has received and published nothing
pub record IsNewHome (rings : List Ringed) (label : Name) (cores core : ℕ) (h : Homed) : Type 0 where
  pub core_is : h.core ≡ core
  pub cores_is : h.cores ≡ cores
  pub ring : (r : Ringed) → slice_get rings core ≡ Some r → h.pass.table ≡ r.id
  pub label_is : h.pass.label ≡ label
  pub unpublished : h.pass.count ≡ 0
  pub live : h.refused ≡ false
  pub stands : HomeStands h []

-- the passes of this core on the rings of the others, with this label and nothing in their hands
pub record AreNewPasses (rings : List Ringed) (label : Name) (core : ℕ) (p : PassList Blocked) : Type 0 where
  pub core_is : p.core ≡ core
  pub passes : ArePasses rings p
  pub idle : AreIdle label (seats_of p.items)

-- the label of the rings of a run: that of the store and the number of cores
abbrev pub run_label : Sharing → Name
run_label shared = label_of shared.store.id (length shared.rings)

-- the core with this number, with a new home for `count` connections and new passes
pub record IsNewCore (shared : Sharing) (count core : ℕ) (c : Cored) : Type 0 where
  pub home : IsNewHome shared.rings (run_label shared) (length shared.rings) core c.home
  pub count_is : c.home.count ≡ count
  pub passes : AreNewPasses shared.rings (run_label shared) core c.passes

-- such cores, by rising number
abbrev pub AreNewCores : Sharing → ℕ → List Cored → Type 0
AreNewCores shared count cores =
    (core : ℕ) (c : Cored) → slice_get cores core ≡ Some c → IsNewCore shared count core c

-- nothing was offered to a receive ring of 256 slots, and all of them are free
pub record IsUnusedRing (inlet : Offering) : Type 0 where
  pub unused : inlet ≡ offering inlet.ring [] 256
  pub slots : inlet.ring.capacity ≡ 256

-- the same holds of the receive ring of each core
abbrev pub AreUnusedRings : List Offering → Type 0
AreUnusedRings inlets = (core : ℕ) (inlet : Offering) → slice_get inlets core ≡ Some inlet → IsUnusedRing inlet
