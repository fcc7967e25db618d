use Rattle.std.proofs.Common.{◌∙◌, sym, subst, arith}
use mathlib.Core.Logic.{dite}
use native.Mathlib.Decide.{ℕ_discrete}
use Rattle.zy_check.specs.Given.{IsHeld}
use Rattle.zy_check.proofs.HoldLemmas.{held_at}
use Rattle.zy_check.proofs.holds.first_unheld.Goals as goal

pub returns-then-index-commands : goal.returns-then-index-commands
returns-then-index-commands c =
    let exactly = held_at c.args.files.now c.args.tracks.now c.count-count.result c.loop-conn.conn c.index.result.now c.holds.result.now c.in_ok-sums.sums.items c.index-tracks-conn.result
    c.requires.ended c.in_ok-sums.ensures.sums c.holds.ensures.value c.count-count.ensures.value c.loop-conn-test.true c.index-tracks-conn.is c.index.ensures in
    record { found = (c.loop-conn.invariant, (λ held. c.if-index-commands.true (exactly.1 held ∙ sym c.commands.ensures.value))) }

pub loop-conn-preserved : goal.loop-conn-preserved
loop-conn-preserved c k below =
    let exactly = held_at c.args.files.now c.args.tracks.now c.count-count.result c.loop-conn.conn c.index.result.now c.holds.result.now c.in_ok-sums.sums.items c.index-tracks-conn.result
    c.requires.ended c.in_ok-sums.ensures.sums c.holds.ensures.value c.count-count.ensures.value c.loop-conn-test.true c.index-tracks-conn.is c.index.ensures in
    dite (ℕ_discrete c.loop-conn.conn k)
    (λ same. subst (IsHeld c.args.files.now) same (exactly.0 (c.if-index-commands.false ∙ c.commands.ensures.value)))
    (λ other. c.loop-conn.invariant k (omega arith))
