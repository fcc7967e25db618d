use Rattle.std.proofs.Common.{◌<◌, ◌+◌, ◌∙◌, ℕ, length, take, arith, refl}
use Rattle.std.specs.Prelude.{None}
use Rattle.zy_pcap.specs.Standing.{FeedsFile}
use Rattle.zy_pcap.proofs.PieceLemmas.{piece_none, piece_more, piece_meets, slice_on, stop_within, stop_fed, stop_told, stop_lasts}
use Rattle.zy_pcap.proofs.reader.PcapReader.feed_piece.Goals as goal

pub loop-at-init : goal.loop-at-init
loop-at-init c = record { within = omega arith; port = refl; fed = piece_none c.args.self.now c.args.bytes.now; still = λ some. absurd (omega (arith, some)) }

pub loop-at-preserved : goal.loop-at-preserved
loop-at-preserved c =
    let place : ℕ = c.loop-at.at + c.take_run-at.result in
    let within : place < length c.args.bytes.now = omega (arith, c.take_run-at.ensures.within, c.loop-at-test.true) in
    let before : FeedsFile c.args.self.now c.take_run-at.new.self (take place c.args.bytes.now) = slice_on c.args.self.now c.loop-at.self c.take_run-at.new.self c.args.bytes.now c.loop-at.at c.take_run-at.result c.loop-at.invariant.fed c.take_run-at.ensures.fed in
    record {
      within = omega (arith, within);
      port = c.feed.ensures.port ∙ c.take_run-at.ensures.port ∙ c.loop-at.invariant.port;
      fed = piece_more c.args.self.now c.take_run-at.new.self c.feed.new.self c.args.bytes.now place within before c.in_default.ensures.fed;
      still = λ some. piece_meets c.args.self.now c.take_run-at.new.self c.args.bytes.now place None within (c.take_run-at.ensures.port ∙ c.loop-at.invariant.port) before c.in_default.ensures.exact;
    }

pub returns-in-Err-clause-within : goal.returns-in-Err-clause-within
returns-in-Err-clause-within c =
    let within : c.loop-at.at + c.take_run-at.result < length c.args.bytes.now = omega (arith, c.take_run-at.ensures.within, c.loop-at-test.true) in
    rw (c.stopped.ensures.taken) (stop_within (c.loop-at.at + c.take_run-at.result) (length c.args.bytes.now) c.in-Err.refused within)

pub returns-in-Err-clause-fed : goal.returns-in-Err-clause-fed
returns-in-Err-clause-fed c =
    let place : ℕ = c.loop-at.at + c.take_run-at.result in
    let within : place < length c.args.bytes.now = omega (arith, c.take_run-at.ensures.within, c.loop-at-test.true) in
    let before : FeedsFile c.args.self.now c.take_run-at.new.self (take place c.args.bytes.now) = slice_on c.args.self.now c.loop-at.self c.take_run-at.new.self c.args.bytes.now c.loop-at.at c.take_run-at.result c.loop-at.invariant.fed c.take_run-at.ensures.fed in
    rw (c.stopped.ensures.taken) (stop_fed c.args.self.now c.take_run-at.new.self c.feed.new.self c.args.bytes.now place c.in-Err.refused within before c.in-Err.ensures.fed)

pub returns-in-Err-clause-exact : goal.returns-in-Err-clause-exact
returns-in-Err-clause-exact c =
    let place : ℕ = c.loop-at.at + c.take_run-at.result in
    let within : place < length c.args.bytes.now = omega (arith, c.take_run-at.ensures.within, c.loop-at-test.true) in
    let before : FeedsFile c.args.self.now c.take_run-at.new.self (take place c.args.bytes.now) = slice_on c.args.self.now c.loop-at.self c.take_run-at.new.self c.args.bytes.now c.loop-at.at c.take_run-at.result c.loop-at.invariant.fed c.take_run-at.ensures.fed in
    rw (c.stopped.ensures.taken, c.stopped.ensures.answer) (stop_told c.args.self.now c.take_run-at.new.self c.args.bytes.now place c.in-Err.refused within (c.take_run-at.ensures.port ∙ c.loop-at.invariant.port) before c.in-Err.ensures.exact)

pub returns-in-Err-clause-lasts : goal.returns-in-Err-clause-lasts
returns-in-Err-clause-lasts c =
    let place : ℕ = c.loop-at.at + c.take_run-at.result in
    let within : place < length c.args.bytes.now = omega (arith, c.take_run-at.ensures.within, c.loop-at-test.true) in
    let before : FeedsFile c.args.self.now c.take_run-at.new.self (take place c.args.bytes.now) = slice_on c.args.self.now c.loop-at.self c.take_run-at.new.self c.args.bytes.now c.loop-at.at c.take_run-at.result c.loop-at.invariant.fed c.take_run-at.ensures.fed in
    rw (c.stopped.ensures.taken, c.stopped.ensures.answer) (stop_lasts c.args.self.now c.take_run-at.new.self c.args.bytes.now place c.in-Err.refused within (c.take_run-at.ensures.port ∙ c.loop-at.invariant.port) before c.in-Err.ensures.lasts)
