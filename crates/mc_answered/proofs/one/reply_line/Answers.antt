use Rattle.std.proofs.Common.{ap, sym, ◌∙◌}
use Rattle.mc_reply.specs.Text.{reply_line}
use Rattle.mc_answered.proofs.ReplyLemmas.{reply_of-some, same_reply}
use Rattle.mc_answered.proofs.one.reply_line.Goals as goal

pub returns-then-same : goal.returns-then-same
returns-then-same c =
    let read = reply_of-some _ c.in-Some-read_reply.read (sym c.read_reply.ensures.value ∙ c.in-Some-read_reply.is) in
    let same = same_reply c.in-Some-read_reply.read c.args.reply.now read.has (c.is_same-same.ensures.code c.if-same.true) (c.is_same-same.ensures.number c.if-same.true) in
    record { value = (c.in-Some.ensures.within.1, read.is ∙ ap reply_line same) }
