use Rattle.std.proofs.Common.{sym, ◌∙◌}
use Rattle.mc_answered.proofs.ReplyLemmas.{reply_to, reply_to_may, reply_to_none}
use Rattle.mc_answered.proofs.reply.is_reply_to.Goals as goal

pub returns-in-Some : goal.returns-in-Some
returns-in-Some c =
    let there = sym c.read_reply.ensures.value ∙ c.in-Some.is in
    record {
      value = (
        λ is. reply_to c.args.kind c.args.line.now c.in-Some.reply there (sym c.may_say-may.ensures.value ∙ is),
        λ one. c.may_say-may.ensures.value ∙ reply_to_may c.args.kind c.args.line.now c.in-Some.reply c.requires.lined there one,
      );
    }

pub returns-in-None : goal.returns-in-None
returns-in-None c =
    let there = sym c.read_reply.ensures.value ∙ c.in-None.is in
    record { value = (λ is. absurd (cc), λ one. absurd (reply_to_none c.args.kind c.args.line.now c.requires.lined there one)) }
