use Rattle.std.proofs.Common.{rules, ◌-◌, ◌≤◌, ℕ, List, [], length, take, drop, arith}
use Rattle.std.proofs.lemmas.List.{length-drop}
use Rattle.zy_read.specs.Runs.{RunsOver}
use Rattle.zy_read.proofs.TakenLemmas.{front_fed}
use Rattle.zy_read.proofs.field_reader.FieldReader.take_front.Goals as goal

pub returns-clause-fed : goal.returns-clause-fed
returns-clause-fed g c =
    let bytes : List ℕ = drop c.args.at c.args.bytes.now in
    let run : ℕ = c.judge_front-run.result in
    let over : RunsOver g.S.FieldFormat.fields c.args.self.now.state c.args.self.now.at (take run (take c.min-most.result bytes)) c.judge_front-run.new.self [] = search rules in
    let fits : c.min-most.result ≤ length bytes = (let small : c.min-most.result ≤ length c.args.bytes.now - c.args.at - 1 = search rules in omega (arith, small, length-drop c.args.at c.args.bytes.now)) in
    front_fed g.S.FieldFormat.fields g.met.S.FieldFormat.lawful g.S.FieldFormat.good g.S.FieldFormat.bad c.args.self.now _ bytes c.min-most.result run (search rules) (search rules) over (search rules) fits (search rules) (search rules)
