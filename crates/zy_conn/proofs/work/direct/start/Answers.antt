use Rattle.std.proofs.Common.{◌≡◌, inr, [], ◌∷◌, sym, ap, subst}
use Rattle.std.specs.Prelude.{Option, IfSome}
use Rattle.mc_parse.specs.declared.command.Command.{Command}
use Rattle.mc_parse.specs.declared.retrieval.OneKey.{OneKey}
use Rattle.mc_parse.specs.declared.command.Command.TheVariants.{Get}
use Rattle.mc_parse.specs.Calls.{calls_of, get_at}
use Rattle.zy_frame.specs.Frame.{command_of}
use Rattle.zy_conn.specs.Direct.{IsBegunBy, TriesTo}
use Rattle.zy_conn.proofs.work.direct.start.Goals as goal

pub returns-in-Ok-clause-to : goal.returns-in-Ok-clause-to
returns-in-Ok-clause-to c =
    let shards = c.args.store.now.shards in
    let one = c.in-Ok-Some.one in
    let is : command_of c.args.frame ≡ Get (one.key ∷ []) one.unique =
    subst (λ (found : Option OneKey). IfSome found (λ o. command_of c.args.frame ≡ Get (o.key ∷ []) o.unique)) c.in-Ok-Some.field-0-is c.in-Ok-Some.ensures.some in
    inr (record {
      asked = get_at shards one.key;
      only = ap (calls_of shards) is;
      begun_is = subst (λ (command : Command). IsBegunBy c.get.result command c.get.new.begun) (sym is) c.get.ensures.begun;
      tries = subst (λ (command : Command). TriesTo command (get_at shards one.key) c.args.pass.now c.args.batch.now c.get.new.pass c.get.new.replies.items c.get.new.batch c.get.result) (sym is) c.get.ensures.to;
    })
