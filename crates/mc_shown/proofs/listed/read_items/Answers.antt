use Rattle.std.proofs.Common.{rules, ◌≡◌, ◌+◌, sym, subst, List, [], ◌∷◌, ◌++◌}
use Rattle.mc_shown.specs.declared.listed.Listed.{Listed}
use Rattle.mc_shown.specs.Listing.{AreRead}
use Rattle.mc_shown.proofs.ReadLemmas.{read_more}
use Rattle.mc_shown.proofs.listed.read_items.Goals as goal

pub loop-preserved : goal.loop-preserved
loop-preserved c =
    let pushed : c.push.new.self.items ≡ c.loop.items.items ++ c.in-Some.next.item ∷ [] = search rules in
    subst (λ (items : List Listed). AreRead c.args.asked items c.args.text.now (c.loop.at + c.in-Some.next.length)) (sym pushed)
    (read_more c.args.asked c.loop.items.items c.args.text.now c.text_from-rest.result.now c.loop.at c.in-Some.next.length c.in-Some.next.item c.loop.invariant c.text_from-rest.ensures.value c.in-Some.ensures.value)
