use Rattle.std.proofs.Common.{ℕ, List, ◌++◌, take, refl, sym, subst, arith}
use Rattle.zy_read.specs.Bytes.{AreBytes}
use Rattle.zy_read.proofs.ByteLemmas.{each_byte}
use Rattle.zy_capture.specs.declared.capture_fault.CaptureFault.{CaptureFault}
use Rattle.zy_capture.specs.Verdict.{is_good}
use Rattle.zy_input.specs.declared.capture_part.CapturePart.{CapturePart}
use Rattle.zy_input.specs.declared.stop.Refusal.TheVariants.{Capture}
use Rattle.zy_input.specs.Kinds.{capture_keeping, capture_kind, StandsForCapture}
use Rattle.zy_input.specs.declared.notes.Noted.{Noted}
use Rattle.zy_input.specs.Parts.{HasNotes}
use Rattle.zy_input.specs.Reading.{TakesInPart}
use Rattle.zy_input.proofs.CaptureLemmas.{fault_within}
use Rattle.zy_input.proofs.KeepingLemmas.{keeping_on, taken_on}
use Rattle.zy_input.proofs.LawfulLemmas.{stays}
use Rattle.zy_input.proofs.capture_part.CapturePart.take_piece.Goals as goal

pub keep_taken-requires : goal.keep_taken-requires
keep_taken-requires g c =
    let fed = c.feed_piece-fed in
    let small : AreBytes c.args.next.now = each_byte c.args.next.now (λ i. omega (arith, c.type_inv.next i)) in
    record { keeping = λ gave is. keeping_on (capture_keeping g.N.Notes.holds) (stays g.N.Notes.holds) c.args.self.now.reader fed.new.self c.args.self.now.kept c.requires.goes.1 c.args.next.now fed.result.taken gave fed.result.answer is c.requires.goes.2 small fed.ensures.fed fed.ensures.exact }

pub returns-clause-value : goal.returns-clause-value
returns-clause-value g c bytes stands goes_on within =
    let fed = c.feed_piece-fed in
    let small : AreBytes c.args.next.now = each_byte c.args.next.now (λ i. omega (arith, c.type_inv.next i)) in
    let part : CapturePart g.row.N.Denot = record { alloc = c.args.self.now.alloc; reader = fed.new.self; kept = c.keep_taken.new.made } in
    subst (λ (count : ℕ). TakesInPart (capture_kind g.N.Notes.holds) part (bytes ++ take count c.args.next.now) c.keep_taken.result.answer) (sym c.keep_taken.ensures.count)
    (taken_on (capture_keeping g.N.Notes.holds) is_good (λ (f : CaptureFault). Capture f) (StandsForCapture g.N.Notes.holds) (λ (kept : Noted g.row.N.Denot) (text : List ℕ). HasNotes g.N.Notes.holds text kept.streams kept.notes) fed.new.self c.args.self.now.kept part.kept part (bytes ++ take fed.result.taken c.args.next.now) fed.result.answer c.keep_taken.result.answer c.is_done-done.result (λ kept. kept)
    (λ gave is. (keeping_on (capture_keeping g.N.Notes.holds) (stays g.N.Notes.holds) c.args.self.now.reader fed.new.self c.args.self.now.kept bytes c.args.next.now fed.result.taken gave fed.result.answer is stands small fed.ensures.fed fed.ensures.exact, refl)) c.is_done-done.ensures.value
    (λ fault is more. fault_within g.N.Notes.holds c.args.self.now fed.new.self bytes (take fed.result.taken c.args.next.now) more fed.result.answer fault is stands goes_on within fed.ensures.fed fed.ensures.exact) c.keep_taken.ensures.value)
