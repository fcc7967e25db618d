use Rattle.std.proofs.Common.{◌≡◌, ◌∙◌, List, length, ap, sym, subst, arith, rules}
use Rattle.zy_core.specs.Core.{Cored}
use Rattle.zy_core.specs.Cores.{identities, EachFits}
use Rattle.zy_rounds.specs.Driven.{returned_cores}
use Rattle.zy_drive.specs.Seat.{all_of_groups, AllFit}
use Rattle.zy_drive.proofs.GroupLemmas.{dealt_fit, gather_same, gather_settled}
use Rattle.zy_drive.proofs.threads.drive_groups.Goals as goal

pub in_scope-lent-requires-clause-fits : goal.in_scope-lent-requires-clause-fits
in_scope-lent-requires-clause-fits g c =
    let fits : AllFit c.args.shared.now (all_of_groups c.deal.new.groups.items) = dealt_fit c.args.shared.now c.deal.new.groups.items c.into_items-items.result.items c.deal.ensures.dealt
    (subst (λ (cs : List Cored). EachFits c.args.shared.now (identities cs)) (sym c.into_items-items.ensures.value) c.requires.cores.each) in search rules

pub returns-clause-settled : goal.returns-clause-settled
returns-clause-settled g c = λ is.
    let all = c.in_scope-lent.ensures.settled (c.answer.ensures.settled.0 is).1 in
    gather_settled c.len-count.result c.in_scope-lent.result.1.groups.items (returned_cores c.answer.result) all (c.answer.ensures.cores ∙ c.together.ensures.value)

pub returns-clause-same : goal.returns-clause-same
returns-clause-same g c =
    let length_is : c.len-count.result ≡ length c.into_items-items.result.items = let ok = c.into_items-items.result.ok.0 in let len = c.len-count.ensures in omega arith in
    gather_same c.len-count.result c.deal.new.groups.items c.in_scope-lent.result.1.groups.items c.into_items-items.result.items (returned_cores c.answer.result) length_is c.deal.ensures.dealt c.in_scope-lent.ensures.same
    (c.answer.ensures.cores ∙ c.together.ensures.value) ∙ ap identities c.into_items-items.ensures.value
