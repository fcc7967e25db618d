use Rattle.std.proofs.Common.{◌+◌, ◌-◌, ◌≡◌, ◌++◌, ◌∷◌, [], ap, ◌∙◌, sym, arith, append_assoc, append-nil}
use Rattle.zy_deal.specs.Deal.{lists_of, gathered}
use Rattle.zy_deal.proofs.DealLemmas.{gathers_next, gathers_none}
use Rattle.zy_deal.proofs.dealing.collect.Goals as goal

pub returns-in-None : goal.returns-in-None
returns-in-None g c =
    record { value = sym (append-nil c.loop.back.items) ∙ ap (λ l. c.loop.back.items ++ l) (sym (gathers_none (c.args.count - c.loop.counter) (lists_of c.loop.groups.items) c.in-None.ensures.none)) ∙ c.loop.invariant.1 }

pub loop-preserved : goal.loop-preserved
loop-preserved g c =
    let near = c.loop-test.true in
    let left = c.args.count - (c.loop.counter + 1) in
    let one : left + 1 ≡ c.args.count - c.loop.counter = omega arith in
    let next = gathers_next left c.in-Some.item (lists_of c.loop.groups.items) (lists_of c.take_next.new.groups.items) c.in-Some.ensures.some in (
      omega (arith, c.loop.invariant.0, c.push_reserved.ensures.len, c.push_reserved.ensures.capacity),
      ap (λ l. l ++ gathered left (lists_of c.take_next.new.groups.items)) c.push_reserved.ensures.items ∙ append_assoc c.loop.back.items (c.in-Some.item ∷ []) (gathered left (lists_of c.take_next.new.groups.items))
          ∙ ap (λ l. c.loop.back.items ++ l) (sym next ∙ ap (λ n. gathered n (lists_of c.loop.groups.items)) one) ∙ c.loop.invariant.1,
    )
