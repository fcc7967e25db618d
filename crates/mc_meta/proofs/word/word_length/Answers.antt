use Rattle.std.proofs.Common.{rules, ◌+◌, ◌<◌, ◌≤◌, length, arith}
use Rattle.mc_meta.proofs.WordLemmas.{word_begins, two_go_on, three_go_on, four_go_on, word_goes_on, word_ends_at, ended_whole}
use Rattle.mc_meta.proofs.PlaceLemmas.{first_word}
use Rattle.mc_meta.proofs.word.word_length.Goals as goal

pub loop-start-init : goal.loop-start-init
loop-start-init c = (search rules, word_begins c.args.text.now)

pub loop-start-preserved : goal.loop-start-preserved
loop-start-preserved c =
    let within : c.loop-start.start + 4 ≤ length c.args.text.now = omega (arith, c.loop-start-test.true, c.loop-start.invariant.0) in (
      within,
      four_go_on c.args.text.now c.loop-start.start within c.if-text-start-eq32.false c.if-text-start-eq32-2.false
          c.if-text-start-eq32-3.false c.if-text-start-eq32-4.false c.loop-start.invariant.1,
    )

pub returns-then-text-start-eq32-clause-value : goal.returns-then-text-start-eq32-clause-value
returns-then-text-start-eq32-clause-value c =
    let within : c.loop-start.start < length c.args.text.now = omega (arith, c.loop-start-test.true, c.loop-start.invariant.0) in
    first_word c.args.text.now c.loop-start.start (word_ends_at c.args.text.now c.loop-start.start within (search rules) c.if-text-start-eq32.true c.loop-start.invariant.1)

pub returns-then-text-start-eq32-2-clause-places : goal.returns-then-text-start-eq32-2-clause-places
returns-then-text-start-eq32-2-clause-places c =
    let within : c.loop-start.start + 4 ≤ length c.args.text.now = omega (arith, c.loop-start-test.true, c.loop-start.invariant.0) in
    word_ends_at c.args.text.now (c.loop-start.start + 1) (omega (arith, within)) (omega arith) c.if-text-start-eq32-2.true
    (word_goes_on c.args.text.now c.loop-start.start (omega (arith, within)) c.if-text-start-eq32.false c.loop-start.invariant.1)

pub returns-then-text-start-eq32-2-clause-value : goal.returns-then-text-start-eq32-2-clause-value
returns-then-text-start-eq32-2-clause-value c =
    let within : c.loop-start.start + 4 ≤ length c.args.text.now = omega (arith, c.loop-start-test.true, c.loop-start.invariant.0) in
    first_word c.args.text.now (c.loop-start.start + 1) (word_ends_at c.args.text.now (c.loop-start.start + 1) (omega (arith, within)) (omega arith)
    c.if-text-start-eq32-2.true (word_goes_on c.args.text.now c.loop-start.start (omega (arith, within)) c.if-text-start-eq32.false c.loop-start.invariant.1))

pub returns-then-text-start-eq32-3-clause-places : goal.returns-then-text-start-eq32-3-clause-places
returns-then-text-start-eq32-3-clause-places c =
    let within : c.loop-start.start + 4 ≤ length c.args.text.now = omega (arith, c.loop-start-test.true, c.loop-start.invariant.0) in
    word_ends_at c.args.text.now (c.loop-start.start + 2) (omega (arith, within)) (omega arith) c.if-text-start-eq32-3.true
    (two_go_on c.args.text.now c.loop-start.start within c.if-text-start-eq32.false c.if-text-start-eq32-2.false c.loop-start.invariant.1)

pub returns-then-text-start-eq32-3-clause-value : goal.returns-then-text-start-eq32-3-clause-value
returns-then-text-start-eq32-3-clause-value c =
    let within : c.loop-start.start + 4 ≤ length c.args.text.now = omega (arith, c.loop-start-test.true, c.loop-start.invariant.0) in
    first_word c.args.text.now (c.loop-start.start + 2) (word_ends_at c.args.text.now (c.loop-start.start + 2) (omega (arith, within)) (omega arith)
    c.if-text-start-eq32-3.true (two_go_on c.args.text.now c.loop-start.start within c.if-text-start-eq32.false c.if-text-start-eq32-2.false c.loop-start.invariant.1))

pub returns-then-text-start-eq32-4-clause-places : goal.returns-then-text-start-eq32-4-clause-places
returns-then-text-start-eq32-4-clause-places c =
    let within : c.loop-start.start + 4 ≤ length c.args.text.now = omega (arith, c.loop-start-test.true, c.loop-start.invariant.0) in
    word_ends_at c.args.text.now (c.loop-start.start + 3) (omega (arith, within)) (omega arith) c.if-text-start-eq32-4.true
    (three_go_on c.args.text.now c.loop-start.start within c.if-text-start-eq32.false c.if-text-start-eq32-2.false c.if-text-start-eq32-3.false c.loop-start.invariant.1)

pub returns-then-text-start-eq32-4-clause-value : goal.returns-then-text-start-eq32-4-clause-value
returns-then-text-start-eq32-4-clause-value c =
    let within : c.loop-start.start + 4 ≤ length c.args.text.now = omega (arith, c.loop-start-test.true, c.loop-start.invariant.0) in
    first_word c.args.text.now (c.loop-start.start + 3) (word_ends_at c.args.text.now (c.loop-start.start + 3) (omega (arith, within)) (omega arith)
    c.if-text-start-eq32-4.true (three_go_on c.args.text.now c.loop-start.start within c.if-text-start-eq32.false c.if-text-start-eq32-2.false c.if-text-start-eq32-3.false c.loop-start.invariant.1))

pub loop-at-init : goal.loop-at-init
loop-at-init c = c.loop-start.invariant.1

pub loop-at-preserved : goal.loop-at-preserved
loop-at-preserved c = word_goes_on c.args.text.now c.loop-at.at c.loop-at-test.true c.if-text-at-eq32.false c.loop-at.invariant

pub returns-then-text-at-eq32-clause-value : goal.returns-then-text-at-eq32-clause-value
returns-then-text-at-eq32-clause-value c =
    first_word c.args.text.now c.loop-at.at (word_ends_at c.args.text.now c.loop-at.at c.loop-at-test.true (search rules) c.if-text-at-eq32.true c.loop-at.invariant)

pub returns-clause-value : goal.returns-clause-value
returns-clause-value c =
    first_word c.args.text.now (length c.args.text.now) (ended_whole c.args.text.now c.loop-at.at c.loop-at-test.false (c.loop-at.auto.at-end c.loop-start.invariant.0) c.requires.some c.loop-at.invariant)
