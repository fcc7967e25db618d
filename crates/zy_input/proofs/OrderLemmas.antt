-- What is so of the outputs that are kept of a replies file: the version was read before them, and they are in the order
-- of sessions.
use Rattle.std.proofs.Common.{◌≡◌, ℕ, List, [], ◌∷◌, ◌++◌, sym, ◌∙◌, ap, subst}
use Rattle.std.specs.Prelude.{Option, None, Some}
use Rattle.zy_read.proofs.MagicLemmas.{IsVersion}
use Rattle.zy_capture.specs.declared.session_bytes.SessionBytes.{SessionBytes}
use Rattle.zy_capture.specs.Outputs.{AllOutputs, AreOutputs, MayAdd, with_output}
use Rattle.zy_capture.specs.Replies.{items_of, AreBySession}
use Rattle.zy_capture.specs.RepliesSteps.{RepliesPlace}
use Rattle.zy_capture.specs.RepliesVerdict.{version_of, outputs_of}
use Rattle.zy_capture.specs.SoFar.{IsRepliesSoFar}
use Rattle.zy_capture.proofs.AddLemmas.{Adds, next_adds}
use Rattle.zy_capture.proofs.AgainLemmas.{with_output_are}
use Rattle.zy_capture.proofs.RepliesSoFarLemmas.{outputs_so_far}
use Rattle.zy_capture.proofs.RepliesTellLemmas.{told_magic, version_stays}
use Rattle.zy_input.specs.Keeping.{KeepsRecords, IsAdding}
use Rattle.zy_input.specs.Kinds.{replies_keeping}
use Rattle.zy_input.proofs.KeepingLemmas.{Stays, not_none, kept_here, given_last, given_some}

-- ---- the version

-- the version of a text is 1 or 2
pub version_is_known : (text : List ℕ) (version : ℕ) → Some version ≡ version_of text → IsVersion version
version_is_known text version is = (told_magic text version (sym is)).known

-- a version that was read stays
pub stays : Stays replies_keeping
stays bytes more version small is = version_stays bytes more version is

-- ---- a further output

-- where an output was given, the outputs are those of a replies file
so_far : (reader : RepliesPlace) (kept : Option AllOutputs) (item : SessionBytes) (is : IsAdding replies_keeping reader kept item) → IsRepliesSoFar is.bytes
so_far reader kept item is = outputs_so_far is.bytes is.small is.clean (λ none. given_some replies_keeping reader kept item is none)

-- so there are outputs to which it is added
pub outputs_made : (reader : RepliesPlace) (kept : Option AllOutputs) (item : SessionBytes) → IsAdding replies_keeping reader kept item → kept ≡ None → ⊥
outputs_made reader kept item is none =
    let all = so_far reader kept item is in
    not_none replies_keeping kept is.bytes is.given all.version none all.version_is is.kept

-- and it comes next
adds : (reader : RepliesPlace) (kept : Option AllOutputs) (item : SessionBytes) (outputs : AllOutputs) → IsAdding replies_keeping reader kept item → kept ≡ Some outputs → Adds outputs item
adds reader kept item outputs is made =
    let all = so_far reader kept item is in
    let known = kept_here replies_keeping kept outputs is.bytes is.given all.version made all.version_is is.kept in
    let same : outputs_of is.bytes ≡ items_of outputs ++ item ∷ [] = given_last replies_keeping reader kept item is ∙ ap (λ (l : List SessionBytes). l ++ item ∷ []) (sym known.0) in
    next_adds outputs item known.2
    (subst (λ (v : ℕ). AreBySession v 0 0 (items_of outputs ++ item ∷ [])) (sym known.1) (subst (AreBySession all.version 0 0) same all.lawful.ordered))

pub may_add : (reader : RepliesPlace) (kept : Option AllOutputs) (item : SessionBytes) (outputs : AllOutputs) → IsAdding replies_keeping reader kept item → kept ≡ Some outputs → MayAdd outputs item.conn
may_add reader kept item outputs is made = (adds reader kept item outputs is made).may

-- one further output is kept
pub output_kept : (reader : RepliesPlace) (kept : Option AllOutputs) (old new : AllOutputs) (item : SessionBytes) (given : List SessionBytes) (version : Option ℕ) → IsAdding replies_keeping reader kept item → kept ≡ Some old
    → KeepsRecords replies_keeping (Some old) version given → new ≡ with_output old item.conn item.bytes → KeepsRecords replies_keeping (Some new) version (given ++ item ∷ [])
output_kept reader kept old new item given None is made keeps added = absurd keeps
output_kept reader kept old new item given (Some v) is made keeps added =
    let found = adds reader kept item old is made in (
      (ap (λ (o : AllOutputs). items_of o) added ∙ found.items ∙ ap (λ (l : List SessionBytes). l ++ item ∷ []) keeps.0),
      (ap (λ (o : AllOutputs). o.version) added ∙ keeps.1),
      subst AreOutputs (sym added) (with_output_are old item.conn item.bytes keeps.2 found.may),
    )
