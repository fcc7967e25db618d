use Rattle.std.proofs.lemmas.Result.{IfOk-weaker}
use Rattle.mc_answered.proofs.MarkedLemmas.{written_found}
use Rattle.mc_answered.proofs.marked.said_length.Goals as goal

pub returns-in_default : goal.returns-in_default
returns-in_default c = record {
  value = IfOk-weaker c.written_length.result _ _
      (λ found one. written_found c.args.command.now c.args.meta.now c.args.said.now c.in-Replied.reply c.args.bytes.now found c.requires.same c.requires.loud c.requires.may c.in-Replied.is one) c.written_length.ensures.value;
}
