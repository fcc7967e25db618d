use Rattle.std.proofs.Common.{◌≡◌, List, length, ◌+◌, ◌∙◌, ap, sym, subst}
use Rattle.std.specs.List.{slice_get}
use Rattle.mc_parse.specs.declared.shard_call.ShardCall.{ShardCall}
use Rattle.mc_parse.specs.Calls.{calls_of}
use Rattle.mc_calls.specs.declared.call_reply.CallReply.{CallReply}
use Rattle.zy_check.specs.Begun.{IsPartlyAnswered}
use Rattle.zy_check.proofs.AskedLemmas.{kept_more}
use Rattle.zy_check.proofs.begun.Begun.answer.Goals as goal

pub invariant_of-self : goal.invariant_of-self
invariant_of-self c =
    let b = c.self.inside in
    let calls : List ShardCall = calls_of b.shards b.command in
    let more = rw (← c.self.view_is) at c.requires.more in
    let kind = rw (← c.self.view_is) at c.requires.kind in
    let next : c.in-Ok.next ≡ slice_get calls (length b.replies + 1) =
    c.in-Ok.ensures.value ∙ ap (λ (l : List CallReply). slice_get calls (length l + 1)) c.items-part.ensures.value in
    subst (λ o. IsPartlyAnswered b.command b.shards o c.push.new.self) (sym c.replace.ensures.after)
    (subst (IsPartlyAnswered b.command b.shards c.in-Ok.next) (sym c.in-Ok-push.ensures.ok)
    (kept_more b.command b.shards b.next c.in-Ok.next b.replies c.args.reply more kind next c.self.invariant))
