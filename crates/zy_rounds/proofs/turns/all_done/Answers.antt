use Rattle.std.proofs.Common.{◌≡◌, true, ap, sym, ◌∙◌, arith, rules}
use Rattle.std.specs.Prelude.{◌==◌}
use Rattle.zy_table.proofs.SliceLemmas.{get_at, get_set_there}
use Rattle.zy_home.specs.Home.{is_settled}
use Rattle.zy_core.specs.Core.{Cored}
use Rattle.zy_rounds.proofs.CoreLemmas.{fits_there, same_there, turns_there, have_more, have_all}
use Rattle.zy_rounds.proofs.turns.all_done.Goals as goal

pub is_done-requires : goal.is_done-requires
is_done-requires c =
    let near = c.loop-i-test.true in let len = c.loop-i.invariant.len in let whole = c.len-i-end.ensures in
    record { fits = fits_there c.args.shared.now c.args.cores.now.items c.loop-i.cores.items c.loop-i.i c.index_mut-core.result.now (omega arith) c.index_mut-core.ensures.value c.loop-i.invariant.same c.requires.fits }

pub returns-then-not-is_done-clause-same : goal.returns-then-not-is_done-clause-same
returns-then-not-is_done-clause-same c =
    let near = c.loop-i-test.true in let len = c.loop-i.invariant.len in let whole = c.len-i-end.ensures in
    same_there c.args.cores.now.items c.loop-i.cores.items c.loop-i.i c.index_mut-core.result.now c.is_done.new.self (omega arith) c.index_mut-core.ensures.value c.is_done.ensures.same c.loop-i.invariant.same

pub returns-then-not-is_done-clause-others : goal.returns-then-not-is_done-clause-others
returns-then-not-is_done-clause-others c = λ e.
    let near = c.loop-i-test.true in let len = c.loop-i.invariant.len in let whole = c.len-i-end.ensures in (
      c.loop-i.i,
      c.is_done.new.self,
      get_set_there c.loop-i.cores.items c.loop-i.i c.is_done.new.self c.index_mut-core.result.now (get_at c.loop-i.cores.items c.loop-i.i c.index_mut-core.result.now c.index_mut-core.result.now (omega arith) c.index_mut-core.ensures.value),
      ap (λ n. c.is_done.new.self.control.trace.done.value == n) (ap (λ (y : Cored). y.control.cores) c.is_done.ensures.core) ∙ sym c.is_done.ensures.value ∙ c.if-not-is_done.true,
    )

pub returns-then-not-is_done-clause-turns : goal.returns-then-not-is_done-clause-turns
returns-then-not-is_done-clause-turns c =
    let near = c.loop-i-test.true in let len = c.loop-i.invariant.len in let whole = c.len-i-end.ensures in
    turns_there c.args.cores.now.items c.loop-i.cores.items c.loop-i.i c.index_mut-core.result.now c.is_done.new.self (omega arith) c.index_mut-core.ensures.value (ap (λ (y : Cored). y.turns) c.is_done.ensures.core) c.loop-i.invariant.turns

pub loop-i-preserved : goal.loop-i-preserved
loop-i-preserved c =
    let near = c.loop-i-test.true in let len = c.loop-i.invariant.len in let whole = c.len-i-end.ensures in
    record {
      same = same_there c.args.cores.now.items c.loop-i.cores.items c.loop-i.i c.index_mut-core.result.now c.is_done.new.self (omega arith) c.index_mut-core.ensures.value c.is_done.ensures.same c.loop-i.invariant.same;
      len = search rules;
      turns = turns_there c.args.cores.now.items c.loop-i.cores.items c.loop-i.i c.index_mut-core.result.now c.is_done.new.self (omega arith) c.index_mut-core.ensures.value (ap (λ (y : Cored). y.turns) c.is_done.ensures.core) c.loop-i.invariant.turns;
      settled = have_more (λ (x : Cored). is_settled x.home ≡ true) c.loop-i.i c.loop-i.cores.items c.is_done.new.self (c.is_done.ensures.settled c.if-not-is_done.false) c.loop-i.invariant.settled;
    }

pub returns-clause-settled : goal.returns-clause-settled
returns-clause-settled c = λ e.
    let end = c.loop-i-test.false in let len = c.loop-i.invariant.len in let whole = c.len-i-end.ensures in
    have_all (λ (x : Cored). is_settled x.home ≡ true) c.loop-i.i c.loop-i.cores.items (omega arith) c.loop-i.invariant.settled
