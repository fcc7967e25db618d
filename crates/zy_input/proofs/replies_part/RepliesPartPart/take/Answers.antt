use Rattle.std.proofs.Common.{ℕ, false, ◌++◌, take, refl, sym, subst}
use Rattle.zy_base.specs.declared.file_fault.FileFault.{FileFault}
use Rattle.zy_read.specs.Bytes.{AreBytes}
use Rattle.zy_capture.specs.RepliesVerdict.{replies}
use Rattle.zy_input.specs.declared.replies_part.RepliesPart.{RepliesPart}
use Rattle.zy_input.specs.declared.stop.Refusal.TheVariants.{Replies as OfReplies}
use Rattle.zy_input.specs.Kinds.{replies_keeping, replies_kind, StandsForRepliesPart, HasOutputs}
use Rattle.zy_input.specs.Reading.{TakesInPart, never}
use Rattle.zy_input.proofs.FormatLemmas.{fault_ever}
use Rattle.zy_input.proofs.KeepingLemmas.{keeping_on, taken_on}
use Rattle.zy_input.proofs.OrderLemmas.{stays}
use Rattle.zy_input.proofs.replies_part.RepliesPartPart.take.Goals as goal

pub keep_taken-requires : goal.keep_taken-requires
keep_taken-requires c =
    let fed = c.feed_piece-fed in
    let small : AreBytes c.left-next.result.now = c.are_bytes.ensures.value in
    record { keeping = λ gave is. keeping_on replies_keeping stays c.args.self.now.reader fed.new.self c.args.self.now.outputs c.requires.goes.1 c.left-next.result.now fed.result.taken gave fed.result.answer is c.requires.goes.2 small fed.ensures.fed fed.ensures.exact }

pub returns-clause-value : goal.returns-clause-value
returns-clause-value c setting bytes stands goes_on =
    let fed = c.feed_piece-fed in
    let small : AreBytes c.left-next.result.now = c.are_bytes.ensures.value in
    let part : RepliesPart = record { alloc = c.args.self.now.alloc; reader = fed.new.self; outputs = c.keep_taken.new.made } in
    rw (← c.left-next.ensures.value)
    (subst (λ (count : ℕ). TakesInPart replies_kind part (bytes ++ take count c.left-next.result.now) c.keep_taken.result.answer) (sym c.keep_taken.ensures.count)
    (taken_on replies_keeping never (λ (f : FileFault). OfReplies f) StandsForRepliesPart HasOutputs fed.new.self c.args.self.now.outputs part.outputs part (bytes ++ take fed.result.taken c.left-next.result.now) fed.result.answer c.keep_taken.result.answer false (λ kept. kept)
    (λ gave is. (keeping_on replies_keeping stays c.args.self.now.reader fed.new.self c.args.self.now.outputs bytes c.left-next.result.now fed.result.taken gave fed.result.answer is stands small fed.ensures.fed fed.ensures.exact, refl)) (λ given b reads. refl)
    (λ fault is more. fault_ever replies (λ (f : FileFault). OfReplies f) c.args.self.now.reader stands.given bytes (take fed.result.taken c.left-next.result.now) more fed.result.answer fault is stands.reader fed.ensures.lasts) c.keep_taken.ensures.value))
