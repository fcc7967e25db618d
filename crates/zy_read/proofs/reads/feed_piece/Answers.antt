use Rattle.std.proofs.Common.{rules, ◌≡◌, ◌+◌, [], take, get_or, ℕ}
use Rattle.std.specs.Prelude.{Ok, None}
use Rattle.zy_read.specs.Standing.{Feeds}
use Rattle.zy_read.proofs.Feeding.{met_by}
use Rattle.zy_read.proofs.PieceLemmas.{run_on, stop_fed, stop_told, stop_lasts, goes_fed, goes_still}
use Rattle.zy_read.proofs.reads.feed_piece.Goals as goal

pub returns-in-Err-clause-fed : goal.returns-in-Err-clause-fed
returns-in-Err-clause-fed g c =
    let at : ℕ = c.loop-at.at + c.take_run-at.result in
    let before : Feeds g.R.Reads.format c.args.reader.now c.take_run-at.new.self (take at c.args.bytes.now) [] = run_on g.R.Reads.format c.args.reader.now c.loop-at.reader c.take_run-at.new.self c.args.bytes.now c.loop-at.at c.take_run-at.result c.loop-at.invariant.fed c.take_run-at.ensures.fed in
    rw (c.at.ensures.taken, c.at.ensures.answer, c.in-Err.ensures.returned) (stop_fed g.R.Reads.format g.R.Reads.wants c.args.reader.now c.take_run-at.new.self c.step.new.self c.args.bytes.now at c.step.result c.take_run-at.ensures.within before c.step.ensures.value)

pub returns-in-Err-clause-exact : goal.returns-in-Err-clause-exact
returns-in-Err-clause-exact g c =
    let at : ℕ = c.loop-at.at + c.take_run-at.result in
    let before : Feeds g.R.Reads.format c.args.reader.now c.take_run-at.new.self (take at c.args.bytes.now) [] = run_on g.R.Reads.format c.args.reader.now c.loop-at.reader c.take_run-at.new.self c.args.bytes.now c.loop-at.at c.take_run-at.result c.loop-at.invariant.fed c.take_run-at.ensures.fed in
    rw (c.at.ensures.taken, c.at.ensures.answer, c.in-Err.ensures.returned) (stop_told g.R.Reads.format g.R.Reads.wants c.args.reader.now c.take_run-at.new.self c.step.new.self c.args.bytes.now at c.step.result c.take_run-at.ensures.within before c.step.ensures.value)

pub returns-in-Err-clause-lasts : goal.returns-in-Err-clause-lasts
returns-in-Err-clause-lasts g c =
    let at : ℕ = c.loop-at.at + c.take_run-at.result in
    let before : Feeds g.R.Reads.format c.args.reader.now c.take_run-at.new.self (take at c.args.bytes.now) [] = run_on g.R.Reads.format c.args.reader.now c.loop-at.reader c.take_run-at.new.self c.args.bytes.now c.loop-at.at c.take_run-at.result c.loop-at.invariant.fed c.take_run-at.ensures.fed in
    rw (c.at.ensures.taken, c.at.ensures.answer, c.in-Err.ensures.returned) (stop_lasts g.R.Reads.format g.met.R.Reads.lasting g.R.Reads.wants c.args.reader.now c.take_run-at.new.self c.step.new.self c.args.bytes.now at c.step.result c.take_run-at.ensures.within before c.step.ensures.value)

pub loop-at-preserved : goal.loop-at-preserved
loop-at-preserved g c =
    let at : ℕ = c.loop-at.at + c.take_run-at.result in
    let before : Feeds g.R.Reads.format c.args.reader.now c.take_run-at.new.self (take at c.args.bytes.now) [] = run_on g.R.Reads.format c.args.reader.now c.loop-at.reader c.take_run-at.new.self c.args.bytes.now c.loop-at.at c.take_run-at.result c.loop-at.invariant.fed c.take_run-at.ensures.fed in
    let none : c.step.result ≡ Ok None = search rules in
    record {
      within = search rules;
      fed = goes_fed g.R.Reads.format g.R.Reads.wants c.args.reader.now c.take_run-at.new.self c.step.new.self c.args.bytes.now at c.step.result none c.take_run-at.ensures.within before c.step.ensures.value;
      still = λ some. goes_still g.R.Reads.format g.R.Reads.wants c.take_run-at.new.self c.step.new.self (get_or c.args.bytes.now at 0) c.step.result none c.step.ensures.value;
    }

pub returns-clause-exact : goal.returns-clause-exact
returns-clause-exact g c = met_by g.R.Reads.format c.args.reader.now c.loop-at.reader (take c.loop-at.at c.args.bytes.now) [] None c.loop-at.invariant.fed (c.loop-at.invariant.still (search rules))
