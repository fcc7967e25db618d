use Rattle.std.proofs.Common.{ℕ, List, ◌++◌, ◌∷◌, [], refl, subst, arith}
use Rattle.std.specs.Prelude.{Option, Result, Ok}
use Rattle.zy_read.specs.declared.not_taken.NotTaken.{NotTaken}
use Rattle.zy_read.specs.Standing.{FeedsAs, TellsFault}
use Rattle.zy_capture.specs.declared.capture_fault.CaptureFault.{CaptureFault}
use Rattle.zy_capture.specs.declared.record.Record.{Record}
use Rattle.zy_capture.specs.Verdict.{captures, is_good}
use Rattle.zy_input.specs.declared.capture_part.CapturePart.{CapturePart}
use Rattle.zy_input.specs.declared.stop.Refusal.TheVariants.{Capture}
use Rattle.zy_input.specs.Kinds.{capture_keeping, StandsForCapture}
use Rattle.zy_input.specs.declared.notes.Noted.{Noted}
use Rattle.zy_input.specs.Parts.{HasNotes}
use Rattle.zy_input.proofs.FormatLemmas.{byte_fault}
use Rattle.zy_input.proofs.CaptureLemmas.{once}
use Rattle.zy_input.proofs.KeepingLemmas.{keeping_on, taken_on}
use Rattle.zy_input.proofs.LawfulLemmas.{stays}
use Rattle.zy_input.proofs.capture_part.CapturePart.take_byte.Goals as goal

pub keep_taken-requires : goal.keep_taken-requires
keep_taken-requires g c =
    let fed = c.feed-answer in
    let old = c.args.self.now.reader in
    let byte = c.args.byte in
    record {
      keeping = λ gave is.
          keeping_on (capture_keeping g.N.Notes.holds) (stays g.N.Notes.holds) old fed.new.self c.args.self.now.kept c.requires.goes.1 (byte ∷ []) 1 gave (Ok gave) refl c.requires.goes.2 (omega (arith, c.ranges.byte), tt)
          (subst (λ (a : Result (Option Record) (NotTaken CaptureFault)). FeedsAs captures old fed.new.self (byte ∷ []) a) is fed.ensures.fed)
          (subst (λ (a : Result (Option Record) (NotTaken CaptureFault)). TellsFault captures old (byte ∷ []) a) is fed.ensures.exact);
    }

pub returns-clause-value : goal.returns-clause-value
returns-clause-value g c bytes stands goes_on =
    let fed = c.feed-answer in
    let old = c.args.self.now.reader in
    let byte = c.args.byte in
    let part : CapturePart g.row.N.Denot = record { alloc = c.args.self.now.alloc; reader = fed.new.self; kept = c.keep_taken.new.made } in
    taken_on (capture_keeping g.N.Notes.holds) is_good (λ (f : CaptureFault). Capture f) (StandsForCapture g.N.Notes.holds) (λ (kept : Noted g.row.N.Denot) (text : List ℕ). HasNotes g.N.Notes.holds text kept.streams kept.notes) fed.new.self c.args.self.now.kept part.kept part (bytes ++ byte ∷ []) fed.result c.keep_taken.result.answer c.is_done-done.result (λ kept. kept)
    (λ gave is. (
      keeping_on (capture_keeping g.N.Notes.holds) (stays g.N.Notes.holds) old fed.new.self c.args.self.now.kept bytes (byte ∷ []) 1 gave (Ok gave) refl stands (omega (arith, c.ranges.byte), tt)
          (subst (λ (a : Result (Option Record) (NotTaken CaptureFault)). FeedsAs captures old fed.new.self (byte ∷ []) a) is fed.ensures.fed)
          (subst (λ (a : Result (Option Record) (NotTaken CaptureFault)). TellsFault captures old (byte ∷ []) a) is fed.ensures.exact),
      refl,
    )) c.is_done-done.ensures.value
    (λ fault is more.
    let faulty = byte_fault captures is_good once old stands.given bytes more byte fault stands.reader goes_on (subst (λ (a : Result (Option Record) (NotTaken CaptureFault)). TellsFault captures old (byte ∷ []) a) is fed.ensures.exact) in
    (fault, refl, faulty.0, faulty.1)) c.keep_taken.ensures.value
