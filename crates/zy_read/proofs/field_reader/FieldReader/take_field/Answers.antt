use Rattle.std.proofs.Common.{rules, ◌≤◌, ℕ, List, [], length, take}
use Rattle.zy_read.specs.Runs.{RunsOver}
use Rattle.zy_read.proofs.TakenLemmas.{front_fed}
use Rattle.zy_read.proofs.field_reader.FieldReader.take_field.Goals as goal

pub returns-clause-fed : goal.returns-clause-fed
returns-clause-fed g c =
    let bytes : List ℕ = c.args.bytes.now in
    let most : ℕ = c.min-most.result in
    let size : ℕ = c.judge_whole-size.result in
    let over : RunsOver g.S.FieldFormat.fields c.args.self.now.state c.args.self.now.at (take size (take most bytes)) c.judge_whole-size.new.state [] = search rules in
    let fits : most ≤ length bytes = search rules in
    front_fed g.S.FieldFormat.fields g.met.S.FieldFormat.lawful g.S.FieldFormat.good g.S.FieldFormat.bad c.args.self.now _ bytes most size (search rules) (search rules) over (search rules) fits (search rules) (search rules)
