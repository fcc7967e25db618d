use Rattle.std.proofs.Common.{rules, ◌≡◌, ◌<◌, ◌≤◌, length, arith, refl, ◌∙◌}
use Rattle.std.proofs.lemmas.List.{length-set}
use Rattle.mc_calls.specs.Order.{history_of}
use Rattle.zy_journal.proofs.WalkLemmas.{no_heads, own_inside, one_more, all_heads}
use Rattle.zy_journal.proofs.heads.heads_of.Goals as goal

pub loop-shard-init : goal.loop-shard-init
loop-shard-init c = record {
  heads = record { below = λ i less. absurd (omega (arith, less)); above = λ i past. no_heads 256 i };
  size = refl;
  within = omega arith;
}

pub loop-shard-preserved : goal.loop-shard-preserved
loop-shard-preserved c =
    let hs = c.args.histories.now in
    let size : length c.loop-shard.heads ≡ 256 = c.loop-shard.invariant.size in
    let within = c.loop-shard-test.true in
    let few = c.requires.few in
    let room : c.loop-shard.shard < length c.loop-shard.heads = omega (arith, size, within, few) in
    let own : history_of hs c.loop-shard.shard ≡ c.index-histories-shard.result = own_inside hs c.loop-shard.shard c.index-histories-shard.result c.loop-shard-test.true ∙ search rules in
    record {
      heads = one_more hs c.loop-shard.shard c.loop-shard.heads c.index-histories-shard.result c.stamp_at.result c.loop-shard.invariant.heads room own c.stamp_at.ensures.value;
      size = length-set c.loop-shard.heads c.loop-shard.shard c.stamp_at.result ∙ size;
      within = search rules;
    }

pub returns : goal.returns
returns c =
    let hs = c.args.histories.now in
    let end : length hs ≤ c.loop-shard.shard = search rules in
    record { value = all_heads hs c.loop-shard.shard c.loop-shard.heads c.loop-shard.invariant.heads end }
