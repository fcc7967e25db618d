use Rattle.std.proofs.Common.{ℕ, List, length, sym, arith, Ok, Some}
use Rattle.std.proofs.Math.Seq.{take-length}
use Rattle.zy_capture.specs.declared.record.Record.TheVariants as Kinds
use Rattle.zy_feed.proofs.PieceLemmas.{piece_taken}
use Rattle.zy_feed.proofs.intake.Intake.cut_held.Goals as goal

pub returns-in-Some-clause-some : goal.returns-in-Some-clause-some
returns-in-Some-clause-some c =
    let all : List ℕ = c.self.inside.pieces in
    rw (← c.self.view_is, c.pass.ensures.value, c.take_held.ensures.kept) (piece_taken (length all) (length all) c.in-Some.held.taken c.self.inside.reader c.take_held.new.self all all (Ok (Some (Kinds.Segment c.in-Some.held.segment)))
    (sym (take-length all)) (omega arith) c.in-Some.ensures.within (λ gave is. c.in-Some.ensures.some) c.in-Some.ensures.fed c.in-Some.ensures.exact tt)
