use Rattle.std.proofs.Common.{◌≡◌, set, slice_get, slice_index_or, ap, subst, sym, ◌∙◌}
use Rattle.std.specs.Prelude.{Some}
use Rattle.mc_shard.specs.declared.slot.Slot.{Slot}
use Rattle.mc_shard.specs.Places.{Held, moved}
use Rattle.mc_shard.proofs.LineLemmas.{got_index, replaced}
use Rattle.mc_shard.proofs.line.Line.replace.Goals as goal

pub returns-clause-slots : goal.returns-clause-slots
returns-clause-slots c = λ slot is.
    let none : Slot = record { hash = 0; place = 0 } in
    replaced c.self.inside.slots c.self.inside.count c.args.at (slice_index_or c.slots.result.now c.args.at none).hash c.args.place slot
    (subst (λ (h : Held). slice_get h.slots c.args.at ≡ Some slot) (sym c.self.view_is) is)
    (ap (λ (s : Slot). s.hash) (ap (λ xs. slice_index_or xs c.args.at none) c.slots.ensures.value ∙ got_index c.args.self.now.slots c.args.at slot none is))
    ∙ ap (λ (h : Held). set h.slots c.args.at (moved slot c.args.place)) c.self.view_is
