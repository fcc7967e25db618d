use Rattle.std.proofs.Common.{true, false, List, IfOk, subst}
use Rattle.std.proofs.lemmas.Result.{IfOk-weaker}
use Rattle.mc_kind.specs.Cutting.{IsCutting}
use Rattle.mc_kind.specs.declared.cutting.Cutting.TheVariants.{All, Front}
use Rattle.mc_kind.specs.declared.text.Text.{Text}
use Rattle.mc_parse.specs.declared.command.Command.{Command}
use Rattle.zy_outputs.specs.Sessions.{SessionIsDone, SessionAdds}
use Rattle.zy_outputs.proofs.session.observe_session.Goals as goal

pub returns-in-All : goal.returns-in-All
returns-in-All c =
    let s = c.args.session.now in
    let output = c.args.output.now in
    let texts = c.in-All.texts in
    let seen = subst (IsCutting c.as_slice.result.now output) c.in-All.is c.in_ok-index.ensures.value in
    let cut = subst (λ (cs : List Command). IsCutting cs output (All texts)) c.as_slice.ensures.value seen in
    let added = subst (λ (ts : List Text). IfOk c.add_commands.result (SessionAdds c.args.rules c.args.name s output ts true c.args.calls.now c.add_commands.new.calls)) c.items.ensures.value c.add_commands.ensures.added in
    record {
      done = IfOk-weaker c.add_commands.result (SessionAdds c.args.rules c.args.name s output texts true c.args.calls.now c.add_commands.new.calls)
          (SessionIsDone c.args.rules c.args.name s output c.args.calls.now c.add_commands.new.calls) (λ found adds. adds cut.1 (λ yes. cut.2)) added;
    }

pub returns-in-Front : goal.returns-in-Front
returns-in-Front c =
    let s = c.args.session.now in
    let output = c.args.output.now in
    let texts = c.in-Front.texts in
    let seen = subst (IsCutting c.as_slice.result.now output) c.in-Front.is c.in_ok-index.ensures.value in
    let cut = subst (λ (cs : List Command). IsCutting cs output (Front texts)) c.as_slice.ensures.value seen in
    let added = subst (λ (ts : List Text). IfOk c.add_commands-in-Front.result (SessionAdds c.args.rules c.args.name s output ts false c.args.calls.now c.add_commands-in-Front.new.calls)) c.items-in-Front.ensures.value c.add_commands-in-Front.ensures.added in
    record {
      done = IfOk-weaker c.add_commands-in-Front.result (SessionAdds c.args.rules c.args.name s output texts false c.args.calls.now c.add_commands-in-Front.new.calls)
          (SessionIsDone c.args.rules c.args.name s output c.args.calls.now c.add_commands-in-Front.new.calls) (λ found adds. adds cut.1 (λ yes. absurd (cc))) added;
    }
