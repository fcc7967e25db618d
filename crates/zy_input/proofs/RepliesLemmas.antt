-- What is kept of a replies file while it is read.
use Rattle.std.proofs.Common.{◌≡◌, ℕ, List, sym, ◌∙◌, ap}
use Rattle.std.specs.Prelude.{None, Some, Ok}
use Rattle.zy_capture.specs.declared.session_bytes.SessionBytes.{SessionBytes}
use Rattle.zy_capture.specs.Outputs.{AllOutputs}
use Rattle.zy_capture.specs.RepliesStanding.{StandsForReplies, EndsAs}
use Rattle.zy_capture.specs.RepliesVerdict.{verdict, version_of}
use Rattle.zy_capture.specs.RepliesVerdict.Verdict.{Good}
use Rattle.zy_input.specs.declared.replies_part.RepliesPart.{RepliesPart}
use Rattle.zy_input.specs.Kinds.{StandsForRepliesPart, HasOutputs, replies_keeping}
use Rattle.zy_input.proofs.KeepingLemmas.{not_none, kept_here}
use Rattle.zy_capture.proofs.RepliesSoFarLemmas.{good_tells}
use Rattle.zy_capture.proofs.RepliesWholeLemmas.{good_spells}

-- ---- the end

-- the version of a whole replies file was read
whole_version : (part : RepliesPart) (bytes : List ℕ) (stands : StandsForRepliesPart part bytes) → ((given : List SessionBytes) (b : List ℕ) → StandsForReplies part.reader given b → EndsAs given (Ok tt) (verdict b))
    → (version : ℕ) × (verdict bytes ≡ Good version stands.given) × (version_of bytes ≡ Some version)
whole_version part bytes stands ends =
    let good = ends stands.given bytes stands.reader in
    let spells = good_spells bytes good.0 stands.given stands.small good.1 in
    (good.0, good.1, (good_tells bytes good.0 stands.given spells.valid.known good.1).version_is)

-- the outputs are those of the replies file
pub outputs_of_file : (part : RepliesPart) (outputs : AllOutputs) (bytes : List ℕ) → StandsForRepliesPart part bytes → part.outputs ≡ Some outputs → ((given : List SessionBytes) (b : List ℕ) → StandsForReplies part.reader given b → EndsAs given (Ok tt) (verdict b))
    → HasOutputs outputs bytes
outputs_of_file part outputs bytes stands is ends =
    let whole = whole_version part bytes stands ends in
    let kept = kept_here replies_keeping part.outputs outputs bytes stands.given whole.0 is whole.2 stands.kept in
    (whole.1 ∙ ap (λ (v : ℕ). Good v stands.given) (sym kept.1) ∙ ap (λ (l : List SessionBytes). Good outputs.version l) (sym kept.0), kept.2)

-- a whole replies file has outputs
pub outputs_there : (part : RepliesPart) (bytes : List ℕ) → StandsForRepliesPart part bytes → part.outputs ≡ None → ((given : List SessionBytes) (b : List ℕ) → StandsForReplies part.reader given b → EndsAs given (Ok tt) (verdict b)) → ⊥
outputs_there part bytes stands is ends =
    let whole = whole_version part bytes stands ends in
    not_none replies_keeping part.outputs bytes stands.given whole.0 is whole.2 stands.kept
