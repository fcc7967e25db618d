use Rattle.std.proofs.Common.{sym, arith}
use Rattle.zygos_judge.proofs.CallLemmas.{noted_commands}
use Rattle.zygos_judge.proofs.naming.length_of.Goals as goal

pub returns-in-Some : goal.returns-in-Some
returns-in-Some c = record {
  value = λ count r hold.
      let same = noted_commands c.args.sessions.now count r c.args.conn c.args.session c.in-Some.own.now hold (sym c.in-Some.ensures.value) in
      omega (arith, same, c.len.ensures, c.in-Some.own.now.commands.ok.0);
}
