use Rattle.std.proofs.Common.{◌≡◌, List, ◌∷◌, length, Some, slice_get, sym, ap, ◌∙◌, subst}
use Rattle.mc_store.specs.Pass.{Stored}
use Rattle.zy_shuffle.specs.Pass.{Ringed}
use Rattle.zy_conn.specs.Block.{label_of}
use Rattle.zy_home.specs.Home.{Homed}
use Rattle.zy_core.specs.Core.{Cored}
use Rattle.zygos_bench.proofs.conn.starting.serve_run.Goals as goal

pub serve_rounds-spent-requires-clause-table : goal.serve_rounds-spent-requires-clause-table
serve_rounds-spent-requires-clause-table g c =
    let new = c.requires.new 0 c.in-Some.core (ap (λ (l : List Cored). slice_get l 0) c.in-Some.ensures.value) in
    ap (λ (h : Homed). h.pass.table) c.into_parts-home.ensures.home
    ∙ new.home.ring c.ring-ring.result.now (ap (λ (l : List Ringed). slice_get l 0) (sym c.into_parts-rings.ensures.value.0) ∙ c.ring-ring.ensures.value)

pub serve_rounds-spent-requires-clause-label : goal.serve_rounds-spent-requires-clause-label
serve_rounds-spent-requires-clause-label g c =
    let new = c.requires.new 0 c.in-Some.core (ap (λ (l : List Cored). slice_get l 0) c.in-Some.ensures.value) in
    let same = c.into_parts-home.ensures.home in
    ap (λ (h : Homed). h.pass.label) same ∙ new.home.label_is ∙ ap (λ (s : Stored). label_of s.id (length c.args.running.shared.rings)) (sym c.into_parts-rings.ensures.value.1)
    ∙ ap (label_of c.into_parts-rings.result.1.id) (sym (ap (λ (h : Homed). h.cores) same ∙ new.home.cores_is))

pub serve_rounds-spent-requires-clause-live : goal.serve_rounds-spent-requires-clause-live
serve_rounds-spent-requires-clause-live g c =
    let new = c.requires.new 0 c.in-Some.core (ap (λ (l : List Cored). slice_get l 0) c.in-Some.ensures.value) in
    ap (λ (h : Homed). h.refused) c.into_parts-home.ensures.home ∙ new.home.live

pub serve_rounds-spent-requires-clause-count : goal.serve_rounds-spent-requires-clause-count
serve_rounds-spent-requires-clause-count g c =
    let new = c.requires.new 0 c.in-Some.core (ap (λ (l : List Cored). slice_get l 0) c.in-Some.ensures.value) in
    ap (λ (h : Homed). h.pass.count) c.into_parts-home.ensures.home ∙ new.home.unpublished
