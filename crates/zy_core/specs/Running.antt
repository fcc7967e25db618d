-- The parts of a run, which driving keeps.
use Rattle.std.specs.Prelude.{◌≡◌, ℕ, List, map, Some, slice_get}
use Rattle.mc_store.specs.Root.{IsRootOf}
use Rattle.zy_rx.specs.Ring.{RingName}
use Rattle.zy_rx.specs.Feed.{rings_of}
use Rattle.zy_core.specs.Core.{Identity}
use Rattle.zy_core.specs.Cores.{identities, AreCores}
use Rattle.zy_core.specs.declared.running.Running.{Running}

-- the receive rings of cores, in their order
abbrev pub rings_in : List Identity → List RingName
rings_in ids = map (λ (i : Identity). i.ring) ids

-- the parts are those of one run of `count` connections
pub record IsRunning (count : ℕ) (run : Running) : Type 0 where
  -- the cores are one for each ring that they share, by rising number
  pub cores : AreCores run.shared (identities run.cores)
  -- each was made for this number of connections
  pub counts : (core : ℕ) (i : Identity) → slice_get (identities run.cores) core ≡ Some i → i.count ≡ count
  -- the inlets are the other ends of the cores' outlets, in their order
  pub rings : rings_of run.inlets.items ≡ rings_in (identities run.cores)
  -- the root gave the passes of these connections and no others, and joined none
  pub root : IsRootOf run.shared.store.id count run.root

-- the run is the same after it was driven
pub record IsSameRun (before after : Running) : Type 0 where
  pub cores : identities after.cores ≡ identities before.cores
  pub rings : rings_of after.inlets.items ≡ rings_of before.inlets.items
  pub shared : after.shared ≡ before.shared
  pub root : after.root ≡ before.root
