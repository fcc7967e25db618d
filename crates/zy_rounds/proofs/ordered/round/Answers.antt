use Rattle.std.proofs.Common.{refl, arith, rules, ap, ◌∙◌}
use Rattle.std.specs.Prelude.{slice_get}
use Rattle.zy_rx.specs.Feed.{rings_of}
use Rattle.zy_table.proofs.SliceLemmas.{get_at}
use Rattle.zy_rounds.specs.Turns.{turns_of}
use Rattle.zy_rounds.proofs.CoreLemmas.{fits_there, inlet_there, same_there}
use Rattle.zy_rounds.proofs.OrderLemmas.{none_so_far, turn_so_far, all_so_far}
use Rattle.zy_rounds.proofs.ordered.round.Goals as goal

pub meet_and_turn-requires-clause-fits : goal.meet_and_turn-requires-clause-fits
meet_and_turn-requires-clause-fits g c =
    let near = c.turn_of-at.ensures.limit in let len = c.loop-turn.invariant.len in let whole = c.len-count.ensures in
    fits_there c.args.shared.now c.args.cores.now.items c.loop-turn.cores.items c.turn_of-at.result c.index_mut-core.result.now (omega arith) c.index_mut-core.ensures.value c.loop-turn.invariant.same c.requires.fits

pub meet_and_turn-requires-clause-inlet : goal.meet_and_turn-requires-clause-inlet
meet_and_turn-requires-clause-inlet g c =
    let near = c.turn_of-at.ensures.limit in let len = c.loop-turn.invariant.len in let whole = c.len-count.ensures in
    ap (λ rs. slice_get rs c.index_mut-core.result.now.home.core) c.loop-turn.invariant.rings ∙ inlet_there (rings_of (g.F.Feeder.inlets c.args.feeder.now)) c.args.cores.now.items c.loop-turn.cores.items c.turn_of-at.result c.index_mut-core.result.now (omega arith) c.index_mut-core.ensures.value c.loop-turn.invariant.same c.requires.inlets

pub returns-in_err-meet_and_turn-clause-same : goal.returns-in_err-meet_and_turn-clause-same
returns-in_err-meet_and_turn-clause-same g c =
    let near = c.turn_of-at.ensures.limit in let len = c.loop-turn.invariant.len in let whole = c.len-count.ensures in
    same_there c.args.cores.now.items c.loop-turn.cores.items c.turn_of-at.result c.index_mut-core.result.now c.meet_and_turn.new.core (omega arith) c.index_mut-core.ensures.value c.meet_and_turn.ensures.same c.loop-turn.invariant.same

pub loop-turn-init : goal.loop-turn-init
loop-turn-init g c = record {
  same = refl;
  len = refl;
  turned = none_so_far c.len-count.result c.args.first (turns_of c.args.cores.now.items);
  leads = g.met.F.Feeder.leads_same c.args.feeder.now;
  rings = refl;
  ended = (((λ e. e), (λ e. e)), ((λ e. e), (λ e. e)));
}

pub loop-turn-preserved : goal.loop-turn-preserved
loop-turn-preserved g c =
    let near = c.turn_of-at.ensures.limit in let len = c.loop-turn.invariant.len in let whole = c.len-count.ensures in
    record {
      same = same_there c.args.cores.now.items c.loop-turn.cores.items c.turn_of-at.result c.index_mut-core.result.now c.meet_and_turn.new.core (omega arith) c.index_mut-core.ensures.value c.meet_and_turn.ensures.same c.loop-turn.invariant.same;
      len = search rules;
      turned = turn_so_far c.len-count.result c.args.first c.loop-turn.turn c.turn_of-at.result c.args.cores.now.items c.loop-turn.cores.items c.index_mut-core.result.now c.meet_and_turn.new.core (let some = c.requires.first in omega arith) c.loop-turn-test.true c.turn_of-at.ensures.value
          (get_at c.loop-turn.cores.items c.turn_of-at.result c.index_mut-core.result.now c.index_mut-core.result.now (omega arith) c.index_mut-core.ensures.value) c.in_ok-meet_and_turn.ensures.turns c.loop-turn.invariant.turned;
      leads = g.met.F.Feeder.leads_on _ _ _ c.loop-turn.invariant.leads c.meet_and_turn.ensures.leads;
      rings = c.meet_and_turn.ensures.rings ∙ c.loop-turn.invariant.rings;
      ended = (
        ((λ e. c.loop-turn.invariant.ended.0.0 (c.meet_and_turn.ensures.ended.0.0 e)), (λ e. c.meet_and_turn.ensures.ended.0.1 (c.loop-turn.invariant.ended.0.1 e))),
        ((λ e. c.loop-turn.invariant.ended.1.0 (c.meet_and_turn.ensures.ended.1.0 e)), (λ e. c.meet_and_turn.ensures.ended.1.1 (c.loop-turn.invariant.ended.1.1 e))),
      );
    }

pub returns-clause-turns : goal.returns-clause-turns
returns-clause-turns g c =
    let end = c.loop-turn-test.false in let len = c.loop-turn.invariant.len in let whole = c.len-count.ensures in
    all_so_far c.len-count.result c.args.first c.loop-turn.turn c.args.cores.now.items c.loop-turn.cores.items (let some = c.requires.first in omega arith) (omega arith) (let ok = c.args.cores.now.ok.0 in omega arith) (let ok = c.loop-turn.cores.ok.0 in omega arith) c.loop-turn.invariant.turned
