use Rattle.std.proofs.Common.{sym, subst, List}
use Rattle.std.proofs.lemmas.Result.{IfOk-weaker}
use Rattle.mc_allows.specs.declared.shown.Shown.{Shown}
use Rattle.mc_allows.specs.Needs.{Suits}
use Rattle.mc_shown.specs.declared.part.Part.{Part}
use Rattle.mc_shown.specs.Parts.{AreSuited}
use Rattle.mc_shown.proofs.MarkedLemmas.{meta_suited}
use Rattle.mc_shown.proofs.showing.meta_parts.Goals as goal

pub returns : goal.returns
returns c = record {
  suits = IfOk-weaker c.only_part.result _ _
      (
      λ parts is saids answer. subst (λ (ps : List Part). AreSuited ps saids) (sym is)
      (
      meta_suited c.args.meta.now c.args.text.now saids c.numbered_part.result answer
      (λ said one. subst (λ (x : Shown). Suits x said) (sym c.numbered_part.ensures.value) (c.in_ok-shown.ensures.value said one))
      )
      )
      c.only_part.ensures.value;
}
