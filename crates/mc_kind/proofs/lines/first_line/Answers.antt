use Rattle.mc_kind.proofs.LineLemmas.{line_whole, line_refused}
use Rattle.mc_kind.proofs.lines.first_line.Goals as goal

pub returns-then-may_answer : goal.returns-then-may_answer
returns-then-may_answer c = record {
  value = line_whole c.args.command.now c.args.bytes.now c.in-Some.length c.requires.line c.in-Some.ensures.within.1 c.in-Some.ensures.some (c.may_answer.ensures.value.0 c.if-may_answer.true);
}

pub returns-else-is_fault : goal.returns-else-is_fault
returns-else-is_fault c = record {
  value = line_refused c.args.command.now c.args.bytes.now c.in-Some.length c.requires.line c.in-Some.ensures.some
      (λ one. let a = c.may_answer.ensures.value.1 one in let b = c.if-may_answer.false in absurd (cc)) (λ one. let a = c.is_error_line.ensures.value.1 one in let b = c.if-is_error_line.false in absurd (cc));
}
