use Rattle.std.proofs.Common.{◌≡◌, ◌+◌, ◌*◌, sym, subst, arith}
use Rattle.std.specs.Prelude.{if◌then◌else◌, None, Some}
use Rattle.zy_journal.specs.Walk.{IsBest, IsLeastIn}
use Rattle.zy_journal.proofs.WalkLemmas.{none_yet}
use Rattle.zy_journal.proofs.heads.quad_of.Goals as goal

pub returns-then-least : goal.returns-then-least
returns-then-least c = record {
  value = λ rests heads.
      let quad = c.args.quad in
      let end = 4 * quad + 4 in
      let within = c.requires.within in
      let one = c.and_before-last.ensures.value rests end (omega arith) (sym (heads (4 * quad + 3))) (none_yet rests (4 * quad + 3 + 1) end (omega arith)) in
      let two = c.and_before-two.ensures.value rests end (omega arith) (sym (heads (4 * quad + 2)))
      (subst (λ n. IsLeastIn rests n end c.and_before-last.result) (let on : 4 * quad + 3 ≡ 4 * quad + 2 + 1 = omega arith in on) one) in
      let three = c.and_before-three.ensures.value rests end (omega arith) (sym (heads (4 * quad + 1)))
      (subst (λ n. IsLeastIn rests n end c.and_before-two.result) (let on : 4 * quad + 2 ≡ 4 * quad + 1 + 1 = omega arith in on) two) in
      let four = c.and_before-least.ensures.value rests end (omega arith) (sym (heads (4 * quad))) three in
      let best = c.and_before-least.result in
      subst (λ there. IsBest rests (4 * quad) end (if there then Some (record { shard = best.shard; stamp = best.stamp }) else None)) c.if-least.true four.0;
}

pub returns : goal.returns
returns c = record {
  value = λ rests heads.
      let quad = c.args.quad in
      let end = 4 * quad + 4 in
      let within = c.requires.within in
      let one = c.and_before-last.ensures.value rests end (omega arith) (sym (heads (4 * quad + 3))) (none_yet rests (4 * quad + 3 + 1) end (omega arith)) in
      let two = c.and_before-two.ensures.value rests end (omega arith) (sym (heads (4 * quad + 2)))
      (subst (λ n. IsLeastIn rests n end c.and_before-last.result) (let on : 4 * quad + 3 ≡ 4 * quad + 2 + 1 = omega arith in on) one) in
      let three = c.and_before-three.ensures.value rests end (omega arith) (sym (heads (4 * quad + 1)))
      (subst (λ n. IsLeastIn rests n end c.and_before-two.result) (let on : 4 * quad + 2 ≡ 4 * quad + 1 + 1 = omega arith in on) two) in
      let four = c.and_before-least.ensures.value rests end (omega arith) (sym (heads (4 * quad))) three in
      let best = c.and_before-least.result in
      subst (λ there. IsBest rests (4 * quad) end (if there then Some (record { shard = best.shard; stamp = best.stamp }) else None)) c.if-least.false four.0;
}
