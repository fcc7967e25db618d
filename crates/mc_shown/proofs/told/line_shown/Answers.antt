use Rattle.std.proofs.Common.{sym, ◌∙◌, subst}
use Rattle.mc_allows.specs.declared.shown.Shown.{Shown}
use Rattle.mc_allows.specs.Needs.{Suits}
use Rattle.mc_shown.proofs.ToldLemmas.{read_suits, unread_suits}
use Rattle.mc_shown.proofs.told.line_shown.Goals as goal

pub returns-in-Some : goal.returns-in-Some
returns-in-Some c = record {
  value = λ said one. subst (λ (x : Shown). Suits x said) (sym c.shown_of.ensures.value) (read_suits c.args.line.now c.in-Some.reply (sym c.read_reply.ensures.value ∙ c.in-Some.is) said one);
}

pub returns-in-None : goal.returns-in-None
returns-in-None c = record { value = λ said one. unread_suits c.args.line.now (sym c.read_reply.ensures.value ∙ c.in-None.is) said one }
