use Rattle.std.proofs.Common.{◌+◌, ◌-◌, ◌<◌, ◌≡◌, length, take, drop, arith, vec_len, sym, ◌∙◌, ap}
use Rattle.std.specs.Prelude.{remove}
use Rattle.zy_deal.proofs.DealLemmas.{last_of, one_at_least}
use Rattle.zy_deal.proofs.dealing.deal.Goals as goal

pub put_before-requires-clause-room : goal.put_before-requires-clause-room
put_before-requires-clause-room g c = one_at_least (vec_len c.loop.items) c.loop.groups.items (let a = c.loop.invariant.0 in let b = c.loop-test.true in omega arith) c.loop.invariant.3

pub loop-preserved : goal.loop-preserved
loop-preserved g c =
    let inv = c.loop.invariant in
    let left = vec_len c.remove-item.new.self in
    let one_less : left + 1 ≡ vec_len c.loop.items = c.remove-item.ensures.len in
    let place : c.len.result - 1 ≡ left = omega (arith, one_less, c.len.ensures) in
    let within : left < length c.args.items.items = omega (arith, one_less, inv.0, c.len-end.ensures, c.args.items.ok.0) in
    let last_is = last_of c.args.items.items c.loop.items.items left c.remove-item.result within (inv.4 ∙ ap (λ n. take n c.args.items.items) (sym one_less)) (rw place at c.remove-item.ensures.value) in (
      omega (arith, one_less, inv.0),
      c.put_before.ensures.len ∙ inv.1,
      omega (arith, c.put_before.ensures.len, inv.2),
      c.put_before.ensures.room left (rw one_less inv.3),
      c.remove-item.ensures.items ∙ ap (λ n. remove c.loop.items.items n) place ∙ last_is.before,
      rw last_is.dealt (c.put_before.ensures.dealt (drop (left + 1) c.args.items.items) (rw one_less inv.5)),
    )
