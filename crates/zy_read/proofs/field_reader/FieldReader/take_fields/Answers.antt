use Rattle.std.proofs.Common.{ℕ, ◌+◌, ◌<◌, List, [], length, take, drop, subst, arith}
use Rattle.std.proofs.lemmas.List.{length-drop, take_rest}
use Rattle.zy_read.specs.Standing.{Feeds}
use Rattle.zy_read.specs.Fields.{format_of}
use Rattle.zy_read.proofs.PieceLemmas.{run_more}
use Rattle.zy_read.proofs.field_reader.FieldReader.take_fields.Goals as goal

pub loop-at-preserved : goal.loop-at-preserved
loop-at-preserved g c =
    let format = format_of g.S.FieldFormat.fields g.S.FieldFormat.good g.S.FieldFormat.bad in
    let at : ℕ = c.args.at + c.loop-at.run in
    let bytes : List ℕ = c.args.bytes.now in
    let size : ℕ = c.take_field-size.result in
    let within : size < length (drop at bytes) = subst (λ (l : List ℕ). size < length l) (take_rest bytes at) c.take_field-size.ensures.within in
    let more : Feeds format c.loop-at.self c.take_field-size.new.self (take size (drop at bytes)) [] = subst (λ (l : List ℕ). Feeds format c.loop-at.self c.take_field-size.new.self (take size l) []) (take_rest bytes at) c.take_field-size.ensures.fed in
    record {
      within = omega (arith, within, length-drop at bytes, c.loop-at.invariant.within);
      fed = run_more format c.args.self.now c.loop-at.self c.take_field-size.new.self bytes c.args.at c.loop-at.run size c.loop-at.invariant.fed more;
    }
