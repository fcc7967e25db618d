use Rattle.std.proofs.Common.{List, ℕ, length, ap, arith}
use Rattle.mc_reply.specs.Text.{item_text}
use Rattle.mc_reply.proofs.SizeLemmas.{item_within}
use Rattle.mc_reply.proofs.length.item_room.Goals as goal

pub returns-in-Some-checked_add : goal.returns-in-Some-checked_add
returns-in-Some-checked_add c = record {
  value = λ asked.
      let key = ap (λ (l : List ℕ). length l) c.bytes.ensures.value in
      let value = ap (λ (l : List ℕ). length l) c.bytes-2.ensures.value in
      let sum = c.in-Some.ensures.0 in
      let sum_is = c.in-Some.ensures.1 in
      let room_is = c.in-Some-checked_add.ensures.1 in
      let most = item_within asked c.args.key.now c.in-Hit.flags c.in-Hit.unique c.in-Hit.value (omega arith) (omega arith) (omega (arith, key, value, sum)) in
      let is = ap (λ reply. length (item_text asked c.args.key.now reply)) c.in-Hit.is in
      omega (arith, key, value, sum_is, room_is, most, is);
}
