-- The homes of a run whose cores are settled, and what they have received.
use Rattle.std.specs.Prelude.{◌&&◌, not}
use Rattle.std.proofs.Common.{◌≡◌, ℕ, zero, suc, List, [], ◌∷◌, length, Bool, true, false, Some, slice_get, refl, sym, ap, ◌∙◌, subst, arith, ◌≤◌}
use Rattle.std.proofs.lemmas.List.{length-map}
use Rattle.zy_capture.specs.declared.record.Record.{Record}
use Rattle.zy_rx.specs.Ring.{Offering}
use Rattle.zy_capture.specs.Capture.{connection_limit}
use Rattle.zy_conn.specs.Block.{label_of}
use Rattle.zy_home.specs.Home.{Homed, HomeStands, is_settled, all_here}
use Rattle.zy_feed.specs.Routing.{offered_to}
use Rattle.zy_feed.proofs.TakenLemmas.{all_taken}
use Rattle.zy_core.specs.Share.{Sharing}
use Rattle.zy_core.specs.Core.{Cored, Identity, identity_of}
use Rattle.zy_core.specs.Cores.{identities, homes_of, AreCores, EachSettled}
use Rattle.zy_core.specs.Running.{rings_in, IsRunning}
use Rattle.zy_core.specs.declared.running.Running.{Running}
use Rattle.zy_core.proofs.ListLemmas.{get_map, map_get}
use Rattle.zy_core.proofs.FitLemmas.{fits_at}
use Rattle.zy_core.proofs.RunningLemmas.{core_count}
use Rattle.zy_rx.specs.Feed.{rings_of, sent_by}
use Rattle.zy_finish.specs.Received.{AllSent}
use Rattle.zy_finish.specs.Finish.{HaveReceived}
use Rattle.zy_finish.specs.Over.{IsHomeOver, AreOver}
use Rattle.zy_finish.specs.Shown.{HasShown, HaveShown}

-- the inlet of a core
shown_at : (inlets : List Offering) (cores : List Cored) → HaveShown inlets cores → (i : ℕ) (c : Cored) → slice_get cores i ≡ Some c → (o : Offering) × (slice_get inlets i ≡ Some o) × HasShown o c
shown_at [] [] shown i c at = absurd (cc)
shown_at [] (x ∷ xs) shown i c at = absurd shown
shown_at (o ∷ os) [] shown i c at = absurd shown
shown_at (o ∷ os) (x ∷ xs) shown zero c at = let is : x ≡ c = cc in (o, refl, subst (HasShown o) is shown.0)
shown_at (o ∷ os) (x ∷ xs) shown (suc i) c at = shown_at os xs shown.1 i c at

-- a settled home has received the end, and was not refused memory
settled_parts : (ended refused here : Bool) → ended && (not refused && here) ≡ true → (ended ≡ true) × (refused ≡ false)
settled_parts true false here is = (refl, refl)
settled_parts true true here is = absurd (cc)
settled_parts false refused here is = absurd (cc)

-- a settled core that was sent just what it is offered has taken just that
taken_one : (o : Offering) (c : Cored) (records : List Record) → HasShown o c → is_settled c.home ≡ true → o.sent ≡ offered_to c.home.cores c.home.core records → HomeStands c.home (offered_to c.home.cores c.home.core records)
taken_one o c records shown settled sent =
    let parts = settled_parts c.home.ended c.home.refused (all_here c.home.blocks) settled in
    let stands = shown.keeps.stands parts.1 in
    subst (HomeStands c.home) (all_taken c.home.cores c.home.core 0 records c.outlet.taken shown.known (sym shown.all ∙ sent) (stands.ended 0 ∙ parts.0)) stands

-- and so each core
pub all_received : (shared : Sharing) (cores : List Cored) (inlets : List Offering) → AreCores shared (identities cores) → rings_of inlets ≡ rings_in (identities cores) → HaveShown inlets cores
    → EachSettled cores → (records : List Record) → AllSent (sent_by inlets) records → HaveReceived (homes_of cores) records
all_received shared cores inlets are rings shown settled records sents i h at =
    let c = map_get (λ (x : Cored). x.home) cores i h at in
    let o = shown_at inlets cores shown i c.0 c.1 in
    let here = get_map identity_of cores i c.0 c.1 in
    let number : i ≡ c.0.home.core = sym (are.numbers i (identity_of c.0) here) in
    let count : length (sent_by inlets) ≡ c.0.home.cores =
    length-map inlets (λ (x : Offering). x.sent) ∙ sym (length-map inlets (λ (x : Offering). x.ring)) ∙ ap length rings
    ∙ length-map (identities cores) (λ (x : Identity). x.ring) ∙ are.count ∙ (fits_at shared (identities cores) are.each i (identity_of c.0) here).cores in
    let sent : o.0.sent ≡ offered_to c.0.home.cores c.0.home.core records =
    sents i o.0.sent (get_map (λ (x : Offering). x.sent) inlets i o.0 o.1) ∙ (λ k. offered_to (count k) (number k) records) in
    subst (λ (x : Homed). HomeStands x (offered_to x.cores x.core records)) c.2 (taken_one o.0 c.0 records o.2 (settled i c.0 c.1) sent)

-- ---- the homes of a settled run

pub over_of : (count : ℕ) (run : Running) → count ≤ connection_limit → IsRunning count run → EachSettled run.cores → AreOver run.shared.store.id count (homes_of run.cores)
over_of count run few is settled =
    let size : length (homes_of run.cores) ≡ length run.shared.rings = length-map run.cores (λ (x : Cored). x.home) ∙ core_count run.shared run.cores is.cores in
    let ids = is.cores.count in
    record {
      some = (let some = is.cores.some in omega arith);
      few = (let most = is.cores.few in omega arith);
      connections = few;
      each = λ core h at.
          let c = map_get (λ (x : Cored). x.home) run.cores core h at in
          let here = get_map identity_of run.cores core c.0 c.1 in
          let fits = fits_at run.shared (identities run.cores) is.cores.each core (identity_of c.0) here in
          let wide : c.0.home.cores ≡ length (homes_of run.cores) = sym fits.cores ∙ sym size in
          subst (IsHomeOver run.shared.store.id (length (homes_of run.cores)) count core) c.2
          (record {
            core_is = is.cores.numbers core (identity_of c.0) here;
            cores_is = wide;
            count_is = is.counts core (identity_of c.0) here;
            settled = settled core c.0 c.1;
            label = fits.store ∙ ap (label_of run.shared.store.id) wide;
          });
    }
