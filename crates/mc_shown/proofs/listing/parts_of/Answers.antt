use Rattle.std.proofs.Common.{rules, ◌≡◌, ◌+◌, ap, sym, ◌∙◌, subst, length, length-append, ℕ, [], ◌∷◌, ◌++◌, arith}
use Rattle.mc_shown.specs.Listing.{SuitsAt, AreSuitedAt}
use Rattle.mc_shown.proofs.GotLemmas.{one_more}
use Rattle.mc_shown.proofs.listing.parts_of.Goals as goal

pub loop-i-preserved : goal.loop-i-preserved
loop-i-preserved c =
    let keys = c.args.keys.now in
    let items = c.args.items.now in
    let parts = c.loop-i.parts.items in
    let pushed : c.push_part.new.parts.items ≡ parts ++ c.in-Ok.part ∷ [] = search rules in
    let long = length-append parts (c.in-Ok.part ∷ []) in
    let count = c.loop-i.invariant.count in
    record {
      count = ap length pushed ∙ (let e : length (parts ++ c.in-Ok.part ∷ []) ≡ c.loop-i.i + 1 = omega (arith, long, count) in e);
      suited = subst (AreSuitedAt c.args.asked keys items) (sym pushed)
          (
          one_more c.args.asked keys items parts c.in-Ok.part c.loop-i.invariant.suited
          (subst (λ (k : ℕ). SuitsAt c.args.asked keys items k c.in-Ok.part.shown) (sym c.loop-i.invariant.count) c.in-Ok.ensures.value)
          );
    }
