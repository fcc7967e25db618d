-- The rest of a piece, the first bytes of which were taken.
use Rattle.std.proofs.Common.{◌≡◌, ℕ, ◌<◌, ◌≤◌, List, ◌++◌, length, take, drop, take-take, length-take, sym, ◌∙◌, ap, arith}
use Rattle.std.specs.Prelude.{Option, Result, Ok}
use Rattle.std.proofs.lemmas.List.{length-take-le, take-append-drop}
use Rattle.zy_read.specs.declared.not_taken.NotTaken.{NotTaken}
use Rattle.zy_read.specs.Standing.{Feeds, TellsFault, TellsLasting, given_in}
use Rattle.zy_capture.specs.declared.record.Record.{Record}
use Rattle.zy_capture.specs.declared.capture_fault.CaptureFault.{CaptureFault}
use Rattle.zy_capture.specs.Steps.{CaptureProgress}
use Rattle.zy_capture.specs.Verdict.{captures}
use Rattle.zy_feed.specs.Reads.{in_pieces, TakesFirst}

-- the reader took the first bytes of the rest of the piece
pub piece_taken : (most n taken : ℕ) (old new : CaptureProgress) (left bytes : List ℕ) (answer : Result (Option Record) (NotTaken CaptureFault)) → bytes ≡ take n left → n ≤ most → taken ≤ length bytes
    → ((gave : Option Record) → answer ≡ Ok gave → 0 < taken)
    → Feeds captures old new (take taken bytes) (given_in answer) → TellsFault captures old (take taken bytes) answer → TellsLasting captures old (take taken bytes) answer
    → TakesFirst most (in_pieces old left) (in_pieces new (drop taken left)) answer
piece_taken most n taken old new left bytes answer is few within some feeds exact lasts =
    let short : taken ≤ n = omega (arith, within, ap (λ (l : List ℕ). length l) is, length-take n left) in
    let size : length (take taken bytes) ≡ taken = length-take-le taken bytes within in
    let first : take taken bytes ≡ take taken left = ap (λ (l : List ℕ). take taken l) is ∙ take-take taken n left short in
    record {
      fed = take taken bytes;
      left = sym (take-append-drop taken left) ∙ ap (λ (l : List ℕ). l ++ drop taken left) (sym first);
      few = omega (arith, size, short, few);
      some = λ gave ok. omega (arith, size, some gave ok);
      feeds = feeds;
      exact = exact;
      lasts = lasts;
    }
