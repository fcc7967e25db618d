-- How cores are made one after the other.
use Rattle.std.proofs.Common.{◌≡◌, ℕ, ◌+◌, List, [], ◌∷◌, ◌++◌, length, get_or, Some, slice_get, sym, ap, ◌∙◌, subst, arith, append_assoc, length-append}
use Rattle.std.specs.Prelude.{remove}
use Rattle.std.proofs.lemmas.List.{append-nil, map-append, length-map}
use Rattle.zy_rx.specs.Ring.{Offering, Taking}
use Rattle.zy_rx.specs.Feed.{rings_of}
use Rattle.zy_conn.specs.Block.{Blocked, label_of}
use Rattle.zy_control.specs.Pass as control
use Rattle.zy_home.specs.Home.{Homed}
use Rattle.zy_steal.specs.Order.{other_core}
use Rattle.zy_steal.specs.Steal.{PassList, Thief, seat_of}
use Rattle.zy_core.specs.Share.{Sharing}
use Rattle.zy_core.specs.Core.{Cored, Identity, Fits, cored, identity_of}
use Rattle.zy_core.specs.Cores.{identities, homes_of}
use Rattle.zy_core.specs.Running.{rings_in}
use Rattle.zy_core.proofs.ListLemmas.{get_map, map_get, get_seam}
use Rattle.zy_core.proofs.FitLemmas.{all_fit}
use Rattle.zy_setup.specs.declared.making.Making.{Making}
use Rattle.zy_setup.specs.New.{IsNewHome, AreNewPasses, IsUnusedRing, run_label}
use Rattle.zy_setup.specs.Progress.{AreReady, passes_of, AddsCore, HasMadeCores, HasMadeAll}
use Rattle.zy_setup.proofs.ListLemmas.{each_push, none_left, first_removed}

-- a core of new parts fits
pub fits_new : (shared : Sharing) (number : ℕ) (home : Homed) (thief : Thief) (passes : PassList Blocked) (outlet : Taking) (pass : control.Held)
    → IsNewHome shared.rings (run_label shared) (length shared.rings) number home → AreNewPasses shared.rings (run_label shared) number passes
    → pass.table ≡ shared.control.id → Fits shared (identity_of (cored home thief passes outlet pass 0))
fits_new shared number home thief passes outlet pass new own words = record {
  cores = sym new.cores_is;
  ring = λ r at. new.ring r (ap (slice_get shared.rings) (sym new.core_is) ∙ at);
  others = λ at s r seat there.
      let v = map_get seat_of passes.items at s seat in
      let same : passes.core ≡ home.core = own.core_is ∙ sym new.core_is in
      ap (λ x. x.table) (sym v.2) ∙ own.passes.tables at v.0 r v.1 (ap (λ k. slice_get shared.rings (other_core k at)) same ∙ there);
  store = new.label_is ∙ ap (label_of shared.store.id) (sym new.cores_is);
  control = words;
}

module _ (shared : Sharing) (homes : List Homed) (passes : List (PassList Blocked)) where
  -- there is a core for each inlet
  as_many : (inlets : List Offering) (cores : List Cored) → rings_of inlets ≡ rings_in (identities cores) → length inlets ≡ length cores
  as_many inlets cores same =
      sym (length-map inlets (λ (i : Offering). i.ring)) ∙ ap length same ∙ length-map (identities cores) (λ (i : Identity). i.ring) ∙ length-map cores identity_of

  -- no core was made
  pub made_none : (m : Making) → m.cores ≡ [] → m.inlets.items ≡ [] → m.root ≡ control.rooted shared.control.id 0 (length shared.rings)
      → AreReady shared.rings shared.store homes passes → HasMadeCores shared homes passes m homes passes
  made_none m cores inlets root ready =
      let z : length m.inlets.items ≡ 0 = ap length inlets in
      record {
        count = let near = ready.homes_are in omega arith;
        left = ready.passes_are ∙ sym ready.homes_are;
        root = root ∙ ap (λ k. control.rooted shared.control.id k (length shared.rings)) (sym z);
        rings = ap rings_of inlets ∙ sym (ap (λ cs. rings_in (identities cs)) cores);
        homes_are = ap (λ cs. homes_of cs ++ homes) cores;
        passes_are = ap (λ cs. passes_of cs ++ passes) cores;
        each = λ i c at. let none = ap (λ l. slice_get l i) (sym cores) ∙ at in absurd (cc);
        fresh = λ i o at. let none = ap (λ l. slice_get l i) (sym inlets) ∙ at in absurd (cc);
      }

  -- the first home that is left, and the first passes
  pub first_left : (m : Making) (left hs : List Homed) (h : Homed) (ps rest : List (PassList Blocked)) (p : PassList Blocked) → HasMadeCores shared homes passes m left ps
      → left ≡ h ∷ hs → p ≡ get_or ps 0 p → rest ≡ remove ps 0 → HasMadeCores shared homes passes m (h ∷ hs) (p ∷ rest)
  first_left m left hs h ps rest p has is read removed =
      let near = has.left in
      let size = ap length is in
      let own : ps ≡ p ∷ rest = first_removed ps p (omega arith) read ∙ ap (λ l. p ∷ l) (sym removed) in
      subst (λ l. HasMadeCores shared homes passes m l (p ∷ rest)) is (subst (HasMadeCores shared homes passes m left) own has)

  module _ (m : Making) (h : Homed) (hs : List Homed) (p : PassList Blocked) (ps : List (PassList Blocked)) (has : HasMadeCores shared homes passes m (h ∷ hs) (p ∷ ps)) where
    -- the next home and its passes are new
    module _ (ready : AreReady shared.rings shared.store homes passes) where
      made : length m.inlets.items ≡ length m.cores
      made = as_many m.inlets.items m.cores has.rings

      pub next_home : IsNewHome shared.rings (run_label shared) (length shared.rings) (length m.inlets.items) h
      next_home = subst (λ n. IsNewHome shared.rings (run_label shared) (length shared.rings) n h) (length-map m.cores (λ (c : Cored). c.home) ∙ sym made)
          (ready.each_home (length (homes_of m.cores)) h (ap (λ l. slice_get l (length (homes_of m.cores))) (sym has.homes_are) ∙ get_seam (homes_of m.cores) hs h))

      pub next_passes : AreNewPasses shared.rings (run_label shared) (length m.inlets.items) p
      next_passes = subst (λ n. AreNewPasses shared.rings (run_label shared) n p) (length-map m.cores (λ (c : Cored). c.passes) ∙ sym made)
          (ready.each_passes (length (passes_of m.cores)) p (ap (λ l. slice_get l (length (passes_of m.cores))) (sym has.passes_are) ∙ get_seam (passes_of m.cores) ps p))

    -- the next core was made
    pub made_next : (m' : Making) → AddsCore shared h p m m' → HasMadeCores shared homes passes m' hs ps
    made_next m' adds =
        let n : length m'.inlets.items ≡ length m.inlets.items + 1 = ap length adds.inlets ∙ length-append m.inlets.items (adds.inlet ∷ []) in
        let ids : identities m'.cores ≡ identities m.cores ++ identity_of adds.core ∷ [] = ap identities adds.cores ∙ map-append identity_of m.cores (adds.core ∷ []) in
        record {
          count = let near = has.count in omega arith;
          left = let near = has.left in omega arith;
          root = adds.root ∙ ap (λ r. control.rooted r.table (r.given + 1) r.cores) has.root ∙ ap (λ k. control.rooted shared.control.id k (length shared.rings)) (sym n);
          rings = ap rings_of adds.inlets ∙ map-append (λ (i : Offering). i.ring) m.inlets.items (adds.inlet ∷ []) ∙ (λ i. has.rings i ++ sym adds.ring i ∷ [])
              ∙ sym (ap rings_in ids ∙ map-append (λ (i : Identity). i.ring) (identities m.cores) (identity_of adds.core ∷ []));
          homes_are = ap (λ cs. homes_of cs ++ hs) adds.cores ∙ ap (λ l. l ++ hs) (map-append (λ (c : Cored). c.home) m.cores (adds.core ∷ []))
              ∙ append_assoc (homes_of m.cores) (adds.core.home ∷ []) hs ∙ ap (λ x. homes_of m.cores ++ x ∷ hs) adds.home_is ∙ has.homes_are;
          passes_are = ap (λ cs. passes_of cs ++ ps) adds.cores ∙ ap (λ l. l ++ ps) (map-append (λ (c : Cored). c.passes) m.cores (adds.core ∷ []))
              ∙ append_assoc (passes_of m.cores) (adds.core.passes ∷ []) ps ∙ ap (λ x. passes_of m.cores ++ x ∷ ps) adds.passes_are ∙ has.passes_are;
          each = λ i c at. each_push (λ (k : ℕ) (x : Cored). Fits shared (identity_of x)) m.cores adds.core has.each adds.fits i c (ap (λ l. slice_get l i) (sym adds.cores) ∙ at);
          fresh = λ i o at. each_push (λ (k : ℕ) (x : Offering). IsUnusedRing x) m.inlets.items adds.inlet has.fresh adds.fresh i o (ap (λ l. slice_get l i) (sym adds.inlets) ∙ at);
        }

  -- all were made
  pub made_all : (m : Making) (ps : List (PassList Blocked)) → AreReady shared.rings shared.store homes passes → HasMadeCores shared homes passes m [] ps → HasMadeAll shared homes passes m
  made_all m ps ready has =
      let n : length m.inlets.items ≡ length shared.rings = let near = has.count in omega arith in
      let ids : length (identities m.cores) ≡ length shared.rings = length-map m.cores identity_of ∙ sym (as_many m.inlets.items m.cores has.rings) ∙ n in
      let all : homes_of m.cores ≡ homes = sym (append-nil (homes_of m.cores)) ∙ has.homes_are in
      record {
        cores = record {
          count = ids;
          some = let near = ready.some in omega arith;
          few = let near = ready.few in omega arith;
          numbers = λ i d at.
              let c = map_get identity_of m.cores i d at in
              ap (λ (x : Identity). x.core) (sym c.2) ∙ (ready.each_home i c.0.home (ap (λ l. slice_get l i) (sym all) ∙ get_map (λ (x : Cored). x.home) m.cores i c.0 c.1)).core_is;
          each = all_fit shared (identities m.cores) (λ i d at. let c = map_get identity_of m.cores i d at in subst (Fits shared) c.2 (has.each i c.0 c.1));
        };
        rings = has.rings;
        homes_are = all;
        passes_are = sym (append-nil (passes_of m.cores)) ∙ ap (λ l. passes_of m.cores ++ l) (sym (none_left ps (let near = has.left in omega arith))) ∙ has.passes_are;
        fresh = has.fresh;
      }
