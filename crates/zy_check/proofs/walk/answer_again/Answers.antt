use Rattle.std.proofs.Common.{◌≡◌, ap, subst}
use Rattle.std.specs.Prelude.{IfOk, OnOk}
use Rattle.mc_calls.specs.declared.call.Call.{Call}
use Rattle.mc_calls.specs.declared.entry.Tag.{Tag}
use Rattle.mc_calls.specs.Shard.{reply_to}
use Rattle.mc_shard.specs.Replay.{state_replayed}
use Rattle.zy_check.proofs.StepLemmas.{due_at_call, due_here, due_call}
use Rattle.zy_check.proofs.walk.answer_again.Goals as goal

pub call-requires : goal.call-requires
call-requires c =
    let t = c.index-tracks-tag.result in
    let e = c.args.entry.now in
    let conn_is = ap (λ (tag : Tag). tag.conn) c.tag.ensures.value in
    record { next = due_at_call t.begun t.commands e (due_here c.args.tracks.now e c.tag.result.conn t c.requires.next conn_is c.index-tracks-tag.is) }

pub returns-clause-reply : goal.returns-clause-reply
returns-clause-reply c =
    let t = c.index-tracks-tag.result in
    let e = c.args.entry.now in
    let conn_is = ap (λ (tag : Tag). tag.conn) c.tag.ensures.value in
    let due = due_here c.args.tracks.now e c.tag.result.conn t c.requires.next conn_is c.index-tracks-tag.is in
    let asked = due_call t.begun t.commands e c.call.result.now due c.call.ensures.value in
    subst (λ (call : Call). IfOk c.answer.result (λ reply. reply ≡ reply_to c.args.state.now.state call)) asked c.answer.ensures.reply

pub returns-clause-ok : goal.returns-clause-ok
returns-clause-ok c =
    let t = c.index-tracks-tag.result in
    let e = c.args.entry.now in
    let conn_is = ap (λ (tag : Tag). tag.conn) c.tag.ensures.value in
    let due = due_here c.args.tracks.now e c.tag.result.conn t c.requires.next conn_is c.index-tracks-tag.is in
    let asked = due_call t.begun t.commands e c.call.result.now due c.call.ensures.value in
    subst (λ (call : Call). OnOk c.answer.result (c.answer.new.self ≡ state_replayed c.args.state.now call)) asked c.answer.ensures.ok
