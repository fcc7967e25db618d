use Rattle.std.proofs.Common.{ap, ◌∙◌, arith}
use Rattle.mc_calls.specs.Key.{shard_of}
use Rattle.zy_confirm.proofs.GatherLemmas.{passed, moved}
use Rattle.zy_confirm.proofs.gathering.move_first.Goals as goal

pub returns-then-shard_of-shard-clause-moved : goal.returns-then-shard_of-shard-clause-moved
returns-then-shard_of-shard-clause-moved c =
    let differ = c.if-shard_of-shard.true in
    let value = c.shard_of.ensures.value ∙ ap (λ bytes. shard_of bytes c.args.shards) c.bytes.ensures.value in
    passed c.args.shard c.args.shards c.args.items.now c.args.all.now c.pop_first.new.self c.in-Some.key c.in-Some.item c.in-Some.ensures.value c.in-Some.ensures.updates
    (λ own. omega (arith, differ, value, own))

pub returns-in-Ok-clause-moved : goal.returns-in-Ok-clause-moved
returns-in-Ok-clause-moved c =
    let same = c.if-shard_of-shard.false in
    let value = c.shard_of.ensures.value ∙ ap (λ bytes. shard_of bytes c.args.shards) c.bytes.ensures.value in
    moved c.args.shard c.args.shards c.args.items.now c.args.all.now c.pop_first.new.self c.in-Some.key c.in-Some.item c.in-Some.ensures.value c.in-Some.ensures.updates
    c.insert.new.self (omega (arith, same, value)) c.in-Ok.ensures.updates
