use Rattle.std.proofs.Common.{◌≡◌, List, ◌++◌, ◌∷◌, [], ap, ◌∙◌, subst}
use Rattle.mc_calls.specs.declared.call.Call.{Call}
use Rattle.mc_calls.specs.declared.call_reply.CallReply.{CallReply}
use Rattle.mc_calls.specs.declared.entry.Entry.{Entry}
use Rattle.mc_history.specs.Recorded.{entry_of}
use Rattle.zy_report.specs.Tally.{CountsEntries}
use Rattle.zy_report.proofs.TableLemmas.{on_ok}
use Rattle.zy_report.proofs.tally.Tally.add.Goals as goal

pub add_call-added-requires : goal.add_call-added-requires
add_call-added-requires c = record { room = c.requires.room; key = rw (c.call.ensures.value, c.in_ok-exchange.ensures.call) c.key.ensures.value }

pub returns : goal.returns
returns c =
    let e = c.args.entry.now in
    let call : c.call.result.now ≡ e.call = c.call.ensures.value ∙ c.in_ok-exchange.ensures.call in
    let reply : c.reply.result.now ≡ e.reply = c.reply.ensures.value ∙ c.in_ok-exchange.ensures.reply in
    let same : entry_of e.tag e.shard c.call.result.now c.reply.result.now e.stamp ≡ e =
    ap (λ (x : Call). entry_of e.tag e.shard x c.reply.result.now e.stamp) call ∙ ap (λ (x : CallReply). entry_of e.tag e.shard e.call x e.stamp) reply in
    record {
      ok = on_ok c.add_call-added.result
          (λ adds es are. subst (λ (x : Entry). CountsEntries c.add_call-added.new.self (es ++ x ∷ [])) same (adds es e.tag e.shard e.stamp are)) c.add_call-added.ensures.ok;
    }
