use Rattle.std.proofs.Common.{sym, ◌∙◌}
use Rattle.mc_kind.proofs.LineLemmas.{reply_answers, answer_replies}
use Rattle.mc_kind.proofs.lines.may_answer.Goals as goal

pub returns-in-Some : goal.returns-in-Some
returns-in-Some c =
    let kind = sym c.reply_kind.ensures.value ∙ c.in-Some.is in
    record {
      value = (
        λ is. reply_answers c.args.command.now c.in-Some.kind c.args.line.now kind c.requires.loud (c.may_be_said.ensures.value.0 is),
        λ one. c.may_be_said.ensures.value.1 (answer_replies c.args.command.now c.in-Some.kind c.args.line.now kind c.requires.loud one),
      );
    }
