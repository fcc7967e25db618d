use Rattle.std.proofs.Common.{◌+◌, ℕ, List, [], take, drop}
use Rattle.zy_read.specs.Fields.{format_of}
use Rattle.zy_read.specs.Standing.{Feeds}
use Rattle.zy_read.proofs.PieceLemmas.{run_more}
use Rattle.zy_read.proofs.field_reader.steps.FieldReaderReads.take_run.Goals as goal

pub returns-clause-fed : goal.returns-clause-fed
returns-clause-fed g c =
    let format = format_of g.S.FieldFormat.fields g.S.FieldFormat.good g.S.FieldFormat.bad in
    let bytes : List ℕ = c.args.bytes.now in
    let fields : ℕ = c.take_fields-fields.result in
    let first : Feeds format c.args.self.now c.take_front.new.self (take (fields + c.take_front.result) (drop c.args.at bytes)) [] =
    run_more format c.args.self.now c.take_fields-fields.new.self c.take_front.new.self bytes c.args.at fields c.take_front.result c.take_fields-fields.ensures.fed c.take_front.ensures.fed in
    run_more format c.args.self.now c.take_front.new.self c.take_part.new.self bytes c.args.at (fields + c.take_front.result) c.take_part.result first c.take_part.ensures.fed
