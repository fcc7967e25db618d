use Rattle.std.proofs.Common.{sym, ◌∙◌, subst}
use Rattle.mc_allows.specs.declared.shown.Shown.{Shown}
use Rattle.mc_allows.specs.Needs.{Suits}
use Rattle.mc_shown.specs.Parts.{AreSuited}
use Rattle.mc_shown.specs.declared.part.Part.{Part}
use Rattle.std.specs.Prelude.{List}
use Rattle.std.proofs.lemmas.Result.{IfOk-weaker}
use Rattle.mc_shown.specs.Told.{IsToldBy}
use Rattle.mc_shown.proofs.ToldLemmas.{one_told, one_suited}
use Rattle.mc_shown.proofs.showing.reply_parts.Goals as goal

pub returns-in-Some : goal.returns-in-Some
returns-in-Some c =
    let kind = sym c.reply_kind.ensures.value ∙ c.in-Some.is in
    let loud = sym c.is_quiet.ensures.value ∙ c.if-is_quiet.false in
    record {
      suits = IfOk-weaker c.only_part.result _ _
          (
          λ parts is saids answer. subst (λ (ps : List Part). AreSuited ps saids) (sym is)
          (
          one_suited (IsToldBy c.args.text.now) saids c.new-in-Some.result (one_told c.args.command.now c.in-Some.field-0 c.args.text.now saids kind loud answer)
          (λ said one. subst (λ (x : Shown). Suits x said) (sym c.new-in-Some.ensures.value) (c.line_shown.ensures.value said one))
          )
          )
          c.only_part.ensures.value;
    }
