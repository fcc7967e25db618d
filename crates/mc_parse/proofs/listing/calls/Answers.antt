use Rattle.std.proofs.Common.{List, length, ap, sym, ◌∙◌}
use Rattle.std.specs.List.{slice_get}
use Rattle.mc_parse.specs.declared.shard_call.ShardCall.{ShardCall}
use Rattle.mc_parse.specs.Calls.{calls_of}
use Rattle.mc_parse.proofs.CallLemmas.{taken_more, taken_all}
use Rattle.mc_parse.proofs.listing.calls.Goals as goal

pub loop-call-preserved : goal.loop-call-preserved
loop-call-preserved c =
    let all : List ShardCall = calls_of c.args.shards c.args.command.now in
    let next = ap (λ (items : List ShardCall). slice_get all (length items)) (sym c.items.ensures.value) ∙ sym c.in-Ok-Some.ensures.value ∙ c.in-Ok-Some.field-0-is in
    taken_more all c.loop-call.calls c.push.new.calls c.in-Ok-Some.call c.loop-call.invariant next c.in_default.ensures.ok

pub returns-in-Ok-None : goal.returns-in-Ok-None
returns-in-Ok-None c =
    let all : List ShardCall = calls_of c.args.shards c.args.command.now in
    let none = ap (λ (items : List ShardCall). slice_get all (length items)) (sym c.items.ensures.value) ∙ sym c.in-Ok-None.ensures.value ∙ c.in-Ok-None.field-0-is in
    record { value = taken_all all c.loop-call.calls c.loop-call.invariant none }
