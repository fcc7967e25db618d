-- How far the making of cores has come. No public clause cites this module.
use Rattle.std.specs.Prelude.{◌≡◌, ℕ, ◌+◌, ◌≤◌, List, [], ◌∷◌, ◌++◌, length, map, Some, slice_get}
use Rattle.mc_store.specs.Pass.{Stored}
use Rattle.zy_rx.specs.Ring.{Offering}
use Rattle.zy_rx.specs.Feed.{rings_of}
use Rattle.zy_shuffle.specs.Pass.{Ringed}
use Rattle.zy_conn.specs.Block.{Blocked, label_of}
use Rattle.zy_control.specs.Pass.{rooted}
use Rattle.zy_home.specs.Home.{Homed}
use Rattle.zy_steal.specs.Steal.{PassList}
use Rattle.zy_core.specs.Share.{Sharing}
use Rattle.zy_core.specs.Core.{Cored, Fits, identity_of}
use Rattle.zy_core.specs.Cores.{identities, homes_of, AreCores}
use Rattle.zy_core.specs.Running.{rings_in}
use Rattle.zy_setup.specs.declared.making.Making.{Making}
use Rattle.zy_setup.specs.New.{IsNewHome, AreNewPasses, IsUnusedRing, AreUnusedRings}

-- the parts of the cores of a run: 1 to 64 rings, and for each, by rising number, a home and passes on the others
pub record AreReady (rings : List Ringed) (store : Stored) (homes : List Homed)
    (passes : List (PassList Blocked)) : Type 0 where
  pub some : 1 ≤ length rings
  pub few : length rings ≤ 64
  pub homes_are : length homes ≡ length rings
  pub passes_are : length passes ≡ length rings
  pub each_home : (core : ℕ) (h : Homed) → slice_get homes core ≡ Some h
      → IsNewHome rings (label_of store.id (length rings)) (length rings) core h
  pub each_passes : (core : ℕ) (p : PassList Blocked) → slice_get passes core ≡ Some p
      → AreNewPasses rings (label_of store.id (length rings)) core p

-- the passes of cores, in their order
abbrev pub passes_of : List Cored → List (PassList Blocked)
passes_of cores = map (λ (c : Cored). c.passes) cores

-- a core of this home and these passes was made, with a receive ring to which nothing was sent
pub record AddsCore (shared : Sharing) (home : Homed) (passes : PassList Blocked) (m m' : Making) : Type 0 where
  pub core : Cored
  pub inlet : Offering
  pub cores : m'.cores ≡ m.cores ++ core ∷ []
  pub inlets : m'.inlets.items ≡ m.inlets.items ++ inlet ∷ []
  pub root : m'.root ≡ rooted m.root.table (m.root.given + 1) m.root.cores
  pub home_is : core.home ≡ home
  pub passes_are : core.passes ≡ passes
  pub fits : Fits shared (identity_of core)
  pub ring : core.outlet.ring ≡ inlet.ring
  pub fresh : IsUnusedRing inlet

-- cores were made of all these homes and passes except for those that are left
pub record HasMadeCores (shared : Sharing) (homes : List Homed) (passes : List (PassList Blocked)) (m : Making)
    (homes_left : List Homed) (passes_left : List (PassList Blocked)) : Type 0 where
  pub count : length m.inlets.items + length homes_left ≡ length shared.rings
  pub left : length passes_left ≡ length homes_left
  pub root : m.root ≡ rooted shared.control.id (length m.inlets.items) (length shared.rings)
  pub rings : rings_of m.inlets.items ≡ rings_in (identities m.cores)
  pub homes_are : homes_of m.cores ++ homes_left ≡ homes
  pub passes_are : passes_of m.cores ++ passes_left ≡ passes
  pub each : (i : ℕ) (c : Cored) → slice_get m.cores i ≡ Some c → Fits shared (identity_of c)
  pub fresh : AreUnusedRings m.inlets.items

-- cores were made of all of them
pub record HasMadeAll (shared : Sharing) (homes : List Homed) (passes : List (PassList Blocked))
    (m : Making) : Type 0 where
  pub cores : AreCores shared (identities m.cores)
  pub rings : rings_of m.inlets.items ≡ rings_in (identities m.cores)
  pub homes_are : homes_of m.cores ≡ homes
  pub passes_are : passes_of m.cores ≡ passes
  pub fresh : AreUnusedRings m.inlets.items
