use Rattle.std.proofs.Common.{ap, sym, ◌∙◌, arith}
use Rattle.std.proofs.lemmas.List.{length-map}
use Rattle.zy_park.specs.Token.{rings}
use Rattle.zy_park.specs.Pass.{change_at}
use Rattle.zy_park.specs.Bell.{Seated, views_of}
use Rattle.zy_park.proofs.SeatLemmas.{rung_next, kept_next, rung_all, table_count}
use Rattle.zy_park.proofs.bells.ringing.ring_each_at.Goals.{then-is_set, else-is_set}
use Rattle.zy_park.proofs.bells.ringing.ring_each_at.Goals as goal

pub loop-core-preserved : goal.loop-core-preserved
loop-core-preserved c =
    elim c.if-is_set.branch [
      | then-is_set w ↦ rw w.seats-is (record {
        bells = w.ring_at.ensures.bells ∙ c.loop-core.invariant.bells;
        value = w.ring_at.ensures.value ∙ ap (change_at rings c.loop-core.core) c.loop-core.invariant.value
            ∙ rung_next c.loop-core.core c.args.word (views_of c.args.seats.now.items) (sym c.is_set.ensures.value ∙ w.if-is_set.true);
      })
      | else-is_set w ↦ rw w.seats-is (record {
        bells = c.loop-core.invariant.bells;
        value = c.loop-core.invariant.value ∙ kept_next c.loop-core.core c.args.word (views_of c.args.seats.now.items) (sym c.is_set.ensures.value ∙ w.if-is_set.false);
      })
    ]

pub returns-clause-value : goal.returns-clause-value
returns-clause-value c =
    let out = c.loop-core-test.false in let end = c.len-core-end.ensures in
    let count = table_count c.args.seats.now.items c.args.bells.now.items c.requires.bells in
    let size = length-map c.args.seats.now.items (λ (s : Seated). s.view) in
    c.loop-core.invariant.value ∙ rung_all c.loop-core.core c.args.word 0 (views_of c.args.seats.now.items) (omega arith)
