use Rattle.std.proofs.Common.{sym, subst}
use Rattle.mc_allows.specs.declared.shown.Shown.{Shown}
use Rattle.mc_allows.specs.Needs.{Suits}
use Rattle.mc_shown.proofs.MarkedLemmas.{meta_suits}
use Rattle.mc_shown.proofs.valued.coded_shown.Goals as goal

pub returns : goal.returns
returns c = record { value = λ said one. subst (λ (x : Shown). Suits x said) (sym c.marked_shown.ensures.value) (meta_suits c.args.meta.now c.args.text.now said one) }
