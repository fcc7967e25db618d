use Rattle.std.proofs.Common.{ℕ, List, ◌++◌, [], ◌∷◌, take, refl, sym, subst}
use Rattle.std.specs.Prelude.{Option, Result, Ok, Err, Some}
use Rattle.zy_read.specs.Bytes.{AreBytes}
use Rattle.zy_read.specs.declared.not_taken.NotTaken.{NotTaken}
use Rattle.zy_capture.specs.declared.capture_fault.CaptureFault.{CaptureFault}
use Rattle.zy_capture.specs.declared.record.Record.{Record}
use Rattle.zy_capture.specs.declared.record.Record.TheVariants as Kinds
use Rattle.zy_capture.specs.Verdict.{is_good}
use Rattle.zy_input.specs.declared.capture_part.CapturePart.{CapturePart}
use Rattle.zy_input.specs.declared.stop.Refusal.TheVariants.{Capture}
use Rattle.zy_input.specs.Kinds.{capture_keeping, capture_kind, StandsForCapture}
use Rattle.zy_input.specs.declared.notes.Noted.{Noted}
use Rattle.zy_input.specs.Parts.{HasNotes}
use Rattle.zy_input.specs.Reading.{TakesInPart}
use Rattle.zy_input.proofs.KeepingLemmas.{keeping_on, taken_on}
use Rattle.zy_input.proofs.LawfulLemmas.{stays}
use Rattle.zy_input.proofs.capture_part.CapturePart.take_held.Goals as goal

pub keep_taken-requires : goal.keep_taken-requires
keep_taken-requires g c =
    let all : List ℕ = c.args.pieces.now in
    let held = c.in-Some.held in
    let small : AreBytes all = rw (← c.take_held.ensures.kept, ← c.left.ensures.value) c.are_bytes.ensures.value in
    let answer : Result (Option Record) (NotTaken CaptureFault) = Ok (Some (Kinds.Segment held.segment)) in
    record { keeping = λ gave is. keeping_on (capture_keeping g.N.Notes.holds) (stays g.N.Notes.holds) c.args.self.now.reader c.take_held.new.self c.args.self.now.kept c.requires.goes.1 all held.taken gave answer is c.requires.goes.2 small c.in-Some.ensures.fed c.in-Some.ensures.exact }

pub returns-in-Some-clause-value : goal.returns-in-Some-clause-value
returns-in-Some-clause-value g c bytes stands goes_on =
    let all : List ℕ = c.args.pieces.now in
    let held = c.in-Some.held in
    let small : AreBytes all = rw (← c.take_held.ensures.kept, ← c.left.ensures.value) c.are_bytes.ensures.value in
    let answer : Result (Option Record) (NotTaken CaptureFault) = Ok (Some (Kinds.Segment held.segment)) in
    let part : CapturePart g.row.N.Denot = record { alloc = c.args.self.now.alloc; reader = c.take_held.new.self; kept = c.keep_taken.new.made } in
    subst (λ (count : ℕ). TakesInPart (capture_kind g.N.Notes.holds) part (bytes ++ take count all) c.keep_taken.result.answer) (sym c.keep_taken.ensures.count)
    (taken_on (capture_keeping g.N.Notes.holds) is_good (λ (f : CaptureFault). Capture f) (StandsForCapture g.N.Notes.holds) (λ (kept : Noted g.row.N.Denot) (text : List ℕ). HasNotes g.N.Notes.holds text kept.streams kept.notes) c.take_held.new.self c.args.self.now.kept part.kept part (bytes ++ take held.taken all) answer c.keep_taken.result.answer c.is_done-done.result (λ kept. kept)
    (λ gave is. (keeping_on (capture_keeping g.N.Notes.holds) (stays g.N.Notes.holds) c.args.self.now.reader c.take_held.new.self c.args.self.now.kept bytes all held.taken gave answer is stands small c.in-Some.ensures.fed c.in-Some.ensures.exact, refl)) c.is_done-done.ensures.value
    (λ fault is more. cc) c.keep_taken.ensures.value)
