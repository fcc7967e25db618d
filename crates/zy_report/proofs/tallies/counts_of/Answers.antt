use Rattle.std.proofs.Common.{rules, ◌≡◌, ◌+◌, sym, ap, subst, ◌∙◌, ◌++◌, ◌∷◌, [], map, length, arith}
use Rattle.std.specs.List.{range_with_len}
use Rattle.std.proofs.lemmas.List.{length-append, get_or_default}
use Rattle.std.proofs.lemmas.List.FromFn.{map-range_with_len_more}
use Rattle.mc_calls.specs.Counted.{counted}
use Rattle.mc_calls.specs.Order.{at_shard}
use Rattle.zy_report.specs.Tally.{CountsEntries, none_kept}
use Rattle.zy_report.proofs.tallies.counts_of.Goals as goal

pub loop-tally-preserved : goal.loop-tally-preserved
loop-tally-preserved c =
    let i = c.loop-tally.tally-index in
    let here = c.tally-item.is ∙ get_or_default c.args.tallies.now i c.tally-item.result none_kept c.loop-tally-test.true in
    record {
      value = λ es are.
          let own = c.counted.ensures.value (at_shard i es) (subst (λ kept. CountsEntries kept (at_shard i es)) (sym here) (are.each i)) in
          c.push_reserved.ensures.items ∙ ap (λ l. l ++ c.counted.result ∷ []) (c.loop-tally.invariant.value es are)
          ∙ ap (λ t. map (λ shard. counted (at_shard shard es)) (range_with_len 0 i) ++ t ∷ []) own
          ∙ sym (map-range_with_len_more (λ shard. counted (at_shard shard es)) 0 i i (let none : 0 + i ≡ i = omega arith in none));
      size = ap (λ l. length l) c.push_reserved.ensures.items ∙ length-append c.loop-tally.counts.items (c.counted.result ∷ []) ∙ ap (λ n. n + 1) c.loop-tally.invariant.size;
      room = search rules;
    }
