use Rattle.std.proofs.Common.{rules, ◌≡◌, ◌+◌, ℕ, List, length, take, sym, ◌∙◌, ap}
use Rattle.zy_read.specs.Fields.Judged.{Then}
use Rattle.zy_read.specs.FieldReading.{width_of}
use Rattle.zy_read.proofs.TakenLemmas.{quiet_then}
use Rattle.zy_read.proofs.OverLemmas.{over_then}
use Rattle.zy_read.proofs.field_reader.judging.judge_whole_run.Goals as goal

pub returns-then-is_taken-clause-runs : goal.returns-then-is_taken-clause-runs
returns-then-is_taken-clause-runs g c =
    let size : ℕ = c.args.others + 1 in
    let field : List ℕ = take size c.args.bytes.now in
    let wide = g.met.S.FieldFormat.widths c.args.state.now ∙ ap (λ k. width_of k) c.requires.shape in
    let long : length field ≡ size = search rules in
    let same : c.extend_from_slice.new.self.items ≡ field = search rules in
    let leads : g.S.FieldFormat.fields.judge c.args.state.now c.args.at field ≡ Then c.judge_run.new.self = search (rules, quiet_then) in
    over_then g.S.FieldFormat.fields c.args.state.now c.judge_run.new.self c.args.at field (long ∙ sym wide) leads
