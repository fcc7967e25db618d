use Rattle.std.proofs.Common.{◌+◌, set, take, subst, ◌∙◌, sym, arith, rules}
use Rattle.zy_table.proofs.SliceLemmas.{get_at}
use Rattle.zy_rounds.specs.declared.round.Round.{Round}
use Rattle.zy_rounds.specs.declared.round.Round.TheVariants as rounds
use Rattle.zy_rounds.specs.Turns.{AllTurned}
use Rattle.zy_rounds.proofs.CoreLemmas.{fits_there, same_there, same_more}
use Rattle.zy_rounds.proofs.TurnLemmas.{turns_on, turns_all, turns_next, turns_each}
use Rattle.zy_rounds.proofs.turns.turn_each.Goals as goal

pub turn_one-requires : goal.turn_one-requires
turn_one-requires g c =
    let near = c.loop-i-test.true in let len = c.loop-i.invariant.len in let whole = c.len-i-end.ensures in
    record { fits = fits_there c.args.shared.now c.args.cores.now.items c.loop-i.cores.items c.loop-i.i c.index_mut-core.result.now (omega arith) c.index_mut-core.ensures.value c.loop-i.invariant.same c.requires.fits }

pub returns-in_err-turn-clause-same : goal.returns-in_err-turn-clause-same
returns-in_err-turn-clause-same g c =
    let near = c.loop-i-test.true in let len = c.loop-i.invariant.len in let whole = c.len-i-end.ensures in
    same_there c.args.cores.now.items c.loop-i.cores.items c.loop-i.i c.index_mut-core.result.now c.turn_one.new.core (omega arith) c.index_mut-core.ensures.value c.turn_one.ensures.same c.loop-i.invariant.same

pub loop-i-preserved : goal.loop-i-preserved
loop-i-preserved g c =
    let near = c.loop-i-test.true in let len = c.loop-i.invariant.len in let whole = c.len-i-end.ensures in
    let there = get_at c.loop-i.cores.items c.loop-i.i c.index_mut-core.result.now c.index_mut-core.result.now (omega arith) c.index_mut-core.ensures.value in
    record {
      same = same_there c.args.cores.now.items c.loop-i.cores.items c.loop-i.i c.index_mut-core.result.now c.turn_one.new.core (omega arith) c.index_mut-core.ensures.value c.turn_one.ensures.same c.loop-i.invariant.same;
      len = search rules;
      came = subst
          (λ (r : Round). AllTurned (take (c.loop-i.i + 1) c.args.cores.now.items) (take (c.loop-i.i + 1) (set c.loop-i.cores.items c.loop-i.i c.turn_one.new.core)) c.args.looks.now c.turn_one.new.looks rounds.Idle r)
          (sym c.with-round.ensures.value)
          (turns_on c.args.cores.now.items c.loop-i.cores.items c.loop-i.i c.index_mut-core.result.now c.turn_one.new.core c.args.looks.now c.loop-i.looks c.turn_one.new.looks rounds.Idle c.loop-i.round c.in_ok-turn.turn
          (sym (c.loop-i.invariant.rest c.loop-i.i (omega arith)) ∙ there) there c.in_ok-turn.ensures.turned c.loop-i.invariant.came);
      rest = same_more c.loop-i.i c.args.cores.now.items c.loop-i.cores.items c.turn_one.new.core c.loop-i.invariant.rest;
      awake = c.with-round.ensures.awake;
    }

pub returns-clause-value : goal.returns-clause-value
returns-clause-value g c =
    let end = c.loop-i-test.false in let len = c.loop-i.invariant.len in let whole = c.len-i-end.ensures in
    turns_all c.args.cores.now.items c.loop-i.cores.items c.loop-i.i c.args.looks.now c.loop-i.looks rounds.Idle c.loop-i.round (omega arith) (omega arith) c.loop-i.invariant.came

pub returns-clause-turned : goal.returns-clause-turned
returns-clause-turned g c =
    let end = c.loop-i-test.false in let len = c.loop-i.invariant.len in let whole = c.len-i-end.ensures in
    turns_each c.args.cores.now.items c.loop-i.cores.items c.args.looks.now c.loop-i.looks rounds.Idle c.loop-i.round
    (turns_all c.args.cores.now.items c.loop-i.cores.items c.loop-i.i c.args.looks.now c.loop-i.looks rounds.Idle c.loop-i.round (omega arith) (omega arith) c.loop-i.invariant.came)

pub returns-clause-turns : goal.returns-clause-turns
returns-clause-turns g c =
    let end = c.loop-i-test.false in let len = c.loop-i.invariant.len in let whole = c.len-i-end.ensures in
    turns_next c.args.cores.now.items c.loop-i.cores.items c.args.looks.now c.loop-i.looks rounds.Idle c.loop-i.round
    (turns_all c.args.cores.now.items c.loop-i.cores.items c.loop-i.i c.args.looks.now c.loop-i.looks rounds.Idle c.loop-i.round (omega arith) (omega arith) c.loop-i.invariant.came)
