use Rattle.std.proofs.Common.{◌≡◌, List, length, Some, None, sym, ◌∙◌, arith}
use Rattle.std.specs.List.{slice_get}
use Rattle.mc_parse.specs.declared.shard_call.ShardCall.{ShardCall}
use Rattle.mc_parse.specs.Calls.{calls_of}
use Rattle.zy_check.proofs.AskedLemmas.{due_exact, due_past, none_left}
use Rattle.zy_check.proofs.begun.Begun.is_due.Goals as goal

pub returns-in-Some : goal.returns-in-Some
returns-in-Some c =
    let b = c.self.inside in
    let calls : List ShardCall = calls_of b.shards b.command in
    let there : slice_get calls (length b.replies) ≡ Some c.in-Some.call = sym c.self.invariant.next_is ∙ c.in-Some.is in
    let own = rw c.items.ensures.value at c.is_call.ensures.exact in
    rw (← c.self.view_is) (record { exact = due_exact c.args.conn c.args.index (length b.replies) calls c.in-Some.call c.args.entry.now c.is_call.result there own })

pub returns-in-None : goal.returns-in-None
returns-in-None c =
    let b = c.self.inside in
    let calls : List ShardCall = calls_of b.shards b.command in
    let none : None ≡ slice_get calls (length b.replies) = sym c.in-None.is ∙ c.self.invariant.next_is in
    let all : length calls ≡ length b.replies = none_left calls (length b.replies) none c.self.invariant.few in
    rw (← c.self.view_is) (record { exact = due_past c.args.conn c.args.index (length b.replies) calls c.args.entry.now (omega (arith, all)) })
