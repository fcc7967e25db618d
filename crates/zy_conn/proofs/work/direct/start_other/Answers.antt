use Rattle.std.proofs.Common.{◌≡◌, inr, [], ◌∷◌, sym, ap, subst, ◌∙◌, List}
use Rattle.mc_calls.specs.declared.call_reply.CallReply.{CallReply}
use Rattle.mc_parse.specs.declared.command.Command.{Command}
use Rattle.mc_parse.specs.declared.shard_call.ShardCall.{ShardCall}
use Rattle.mc_parse.specs.Calls.{calls_of}
use Rattle.mc_parse.specs.OneSet.{set_command, IsSetBy}
use Rattle.zy_frame.specs.Frame.{command_of}
use Rattle.zy_conn.specs.Direct.{IsBegunBy, TriesTo}
use Rattle.zy_conn.proofs.work.direct.start_other.Goals as goal

pub returns-in-Ok-clause-to : goal.returns-in-Ok-clause-to
returns-in-Ok-clause-to c =
    let shards = c.args.store.now.shards in
    let one = c.in-Ok.one in
    let is : IsSetBy shards (command_of c.args.frame) one.next one.quiet =
    subst (λ n. IsSetBy n (command_of c.args.frame) one.next one.quiet) c.shards.ensures.value c.in-Ok.ensures.value in
    let same : command_of c.args.frame ≡ set_command one.next.call one.quiet = is.command_is ∙ sym (ap (λ (n : ShardCall). set_command n.call one.quiet) is.next_is) in
    λ replies none. inr (record {
      asked = one.next;
      only = ap (calls_of shards) is.command_is ∙ ap (λ (n : ShardCall). n ∷ []) (sym is.next_is);
      begun_is = subst (λ (command : Command). IsBegunBy c.set.result command c.set.new.begun) (sym same) c.set.ensures.begun;
      tries = subst (λ (r : List CallReply). TriesTo (command_of c.args.frame) one.next c.args.pass.now c.args.batch.now c.set.new.pass r c.set.new.batch c.set.result) (sym none) (c.set.ensures.to shards (command_of c.args.frame) is);
    })
