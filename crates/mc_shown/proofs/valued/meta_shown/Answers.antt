use Rattle.std.proofs.Common.{refl, sym, subst}
use Rattle.std.proofs.lemmas.Result.{IfOk-weaker}
use Rattle.mc_parse.specs.declared.meta.Meta.{Meta}
use Rattle.mc_allows.specs.declared.shown.Shown.{Shown}
use Rattle.mc_allows.specs.Needs.{Suits}
use Rattle.mc_answers.specs.Cut.{IsOfLine}
use Rattle.mc_shown.specs.Marked.{IsMetaText}
use Rattle.mc_shown.proofs.ValuedLemmas.{value_suits}
use Rattle.mc_shown.proofs.valued.meta_shown.Goals as goal

pub returns-in-Some : goal.returns-in-Some
returns-in-Some c =
    let text = c.args.text.now in
    let word = c.if-not-is_word.ensures.value refl in
    let named = subst IsOfLine c.bytes.ensures.value word.of_line in
    let there = sym c.if-not-starts_with.ensures.value in
    record {
      value = IfOk-weaker c.hit_with.result _ _
          (
          λ shown is said one.
          subst (λ (x : Shown). Suits x said) (sym is)
          (value_suits c.in-Get.key c.in-Get.flags text c.in-Some.value.now named there c.in-Some.ensures.value said (subst (λ (m : Meta). IsMetaText m text said) c.in-Get.is one))
          )
          c.hit_with.ensures.value;
    }
