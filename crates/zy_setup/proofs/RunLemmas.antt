-- The run of these parts, when its cores are made of them.
use Rattle.std.proofs.Common.{◌≡◌, ℕ, List, Some, slice_get, sym, ap, ◌∙◌, subst}
use Rattle.mc_store.specs.Pass.{Rooted, Stored}
use Rattle.mc_store.specs.Root.{IsRootOf}
use Rattle.zy_rx.specs.Feed.{rings_of}
use Rattle.zy_shuffle.specs.Pass.{Ringed}
use Rattle.zy_conn.specs.Block.{Blocked}
use Rattle.zy_home.specs.Home.{Homed}
use Rattle.zy_steal.specs.Steal.{PassList}
use Rattle.zy_core.specs.Core.{Cored, Identity, identity_of}
use Rattle.zy_core.specs.Cores.{identities, homes_of, AreCores}
use Rattle.zy_core.specs.Running.{rings_in, IsRunning}
use Rattle.zy_core.specs.declared.running.Running.{Running}
use Rattle.zy_core.proofs.ListLemmas.{get_map, map_get}
use Rattle.zy_setup.specs.declared.core_parts.CoreParts.{CoreParts}
use Rattle.zy_setup.specs.New.{AreNewCores}
use Rattle.zy_setup.specs.Progress.{AreReady, passes_of}

module _ (count : ℕ) (parts : CoreParts) (store : Stored) (run : Running) (ready : AreReady parts.rings store parts.homes.items parts.passes.items)
    (counts : (core : ℕ) (h : Homed) → slice_get parts.homes.items core ≡ Some h → h.count ≡ count)
    (homes : homes_of run.cores ≡ parts.homes.items) (passes : passes_of run.cores ≡ parts.passes.items)
    (rings : run.shared.rings ≡ parts.rings) (same : run.shared.store ≡ store) where
  -- the parts are those of the run
  ready_now : AreReady run.shared.rings run.shared.store (homes_of run.cores) (passes_of run.cores)
  ready_now =
      subst (λ (l : List Homed). AreReady run.shared.rings run.shared.store l (passes_of run.cores)) (sym homes)
      (subst (λ (l : List (PassList Blocked)). AreReady run.shared.rings run.shared.store parts.homes.items l) (sym passes)
      (subst (λ (s : Stored). AreReady run.shared.rings s parts.homes.items parts.passes.items) (sym same)
      (subst (λ (l : List Ringed). AreReady l store parts.homes.items parts.passes.items) (sym rings) ready)))

  pub new_cores : AreNewCores run.shared count run.cores
  new_cores i c at =
      let home = get_map (λ (x : Cored). x.home) run.cores i c at in record {
        home = ready_now.each_home i c.home home;
        count_is = counts i c.home (ap (λ (l : List Homed). slice_get l i) (sym homes) ∙ home);
        passes = ready_now.each_passes i c.passes (get_map (λ (x : Cored). x.passes) run.cores i c at);
      }

  pub new_run : AreCores run.shared (identities run.cores) → rings_of run.inlets.items ≡ rings_in (identities run.cores) → (root : Rooted) → IsRootOf store.id count root → run.root ≡ root → IsRunning count run
  new_run cores inlets root given kept = record {
    cores = cores;
    counts = λ core i at. let c = map_get identity_of run.cores core i at in ap (λ (x : Identity). x.count) (sym c.2) ∙ (new_cores core c.0 c.1).count_is;
    rings = inlets;
    root = subst (λ (s : Stored). IsRootOf s.id count run.root) (sym same) (subst (IsRootOf store.id count) (sym kept) given);
  }
