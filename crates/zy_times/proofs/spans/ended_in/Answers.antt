use Rattle.std.proofs.Common.{refl, sym, ◌∙◌, ap, arith}
use Rattle.std.proofs.lemmas.Option.{slice_get_read}
use Rattle.zy_times.specs.Spans.{has_end}
use Rattle.zy_times.specs.Times.{number_if}
use Rattle.zy_times.proofs.TrueLemmas.{trues_of-more}
use Rattle.zy_times.proofs.spans.ended_in.Goals as goal
use Rattle.zy_times.proofs.spans.ended_in.Goals.{then-is_some, else-is_some}

pub loop-at-preserved : goal.loop-at-preserved
loop-at-preserved c =
    let inv = c.loop-at.invariant in
    let value = inv.value in
    let few = inv.few in
    let more = trues_of-more has_end c.args.spans.now.items c.loop-at.at c.index.result.now (slice_get_read c.args.spans.now.items _ c.loop-at.at c.index.result.now refl (omega (arith, c.loop-at-test.true, c.len-at-end.ensures)) c.index.ensures) in
    elim c.if-is_some.branch [
      | then-is_some w ↦ (
          let now = w.ended-is in
          let flag = ap number_if (sym c.is_some.ensures ∙ w.if-is_some.true) in
          record { value = omega (arith, value, more, now, flag); few = omega (arith, few, now) })
      | else-is_some w ↦ (
          let now = w.ended-is in
          let flag = ap number_if (sym c.is_some.ensures ∙ w.if-is_some.false) in
          record { value = omega (arith, value, more, now, flag); few = omega (arith, few, now) })
    ]
