-- A run before and after it is driven.
use Rattle.std.proofs.Common.{◌≡◌, ℕ, List, length, slice_get, sym, ap, ◌∙◌, subst}
use Rattle.std.proofs.lemmas.List.{length-map}
use Rattle.mc_store.specs.Pass.{Rooted}
use Rattle.mc_store.specs.Root.{IsRootOf}
use Rattle.zy_rx.specs.Ring.{Offering}
use Rattle.zy_rx.specs.Feed.{rings_of}
use Rattle.zy_core.specs.Share.{Sharing}
use Rattle.zy_core.specs.Core.{Cored, Identity, identity_of}
use Rattle.zy_core.specs.Cores.{identities, AreCores, AreInlets}
use Rattle.zy_core.specs.Running.{rings_in, IsRunning, IsSameRun}
use Rattle.zy_core.specs.declared.running.Running.{Running}
use Rattle.zy_core.proofs.ListLemmas.{get_map}

-- there are as many cores as rings
pub core_count : (shared : Sharing) (cores : List Cored) → AreCores shared (identities cores) → length cores ≡ length shared.rings
core_count shared cores are = sym (length-map cores identity_of) ∙ are.count

module _ (shared : Sharing) (ids : List Identity) (inlets : List Offering) (are : AreCores shared ids) (rings : rings_of inlets ≡ rings_in ids) where
  -- and as many inlets
  pub inlet_count : length inlets ≡ length shared.rings
  inlet_count = sym (length-map inlets (λ (i : Offering). i.ring)) ∙ ap length rings ∙ length-map ids (λ (i : Identity). i.ring) ∙ are.count

  -- the inlet with the number of a core is the other end of its outlet
  pub inlets_by_number : AreInlets (rings_of inlets) ids
  inlets_by_number i d at =
      ap (λ l. slice_get l d.core) rings ∙ ap (slice_get (rings_in ids)) (are.numbers i d at) ∙ get_map (λ (x : Identity). x.ring) ids i d at

-- driving keeps a run
pub still_running : (count : ℕ) (before after : Running) → IsRunning count before → IsSameRun before after → IsRunning count after
still_running count before after is same = record {
  cores = subst (λ (s : Sharing). AreCores s (identities after.cores)) (sym same.shared) (subst (AreCores before.shared) (sym same.cores) is.cores);
  counts = λ core i at. is.counts core i (ap (λ (l : List Identity). slice_get l core) (sym same.cores) ∙ at);
  rings = same.rings ∙ is.rings ∙ ap rings_in (sym same.cores);
  root = subst (λ (s : Sharing). IsRootOf s.store.id count after.root) (sym same.shared) (subst (λ (r : Rooted). IsRootOf before.shared.store.id count r) (sym same.root) is.root);
}
