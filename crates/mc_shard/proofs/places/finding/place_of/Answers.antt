use Rattle.std.proofs.Common.{◌≡◌, ◌<◌, List, length, slice_get, slice_index_or, ap, sym, subst, ◌∙◌}
use Rattle.std.specs.Prelude.{Some}
use Rattle.mc_shard.specs.declared.slot.Slot.{Slot}
use Rattle.mc_shard.specs.Places.{key_at, keys_in}
use Rattle.mc_shard.proofs.LineLemmas.{index_got, key_got}
use Rattle.mc_shard.proofs.RowLemmas.{item_got}
use Rattle.mc_shard.proofs.places.finding.place_of.Goals as goal

abbrev none : Slot
none = record { hash = 0; place = 0 }

pub returns-in-Some : goal.returns-in-Some
returns-in-Some g c =
    let stored = g.S.Stored.stored c.args.stored.now in
    let at = c.in-Some.at in
    let slots : List Slot = c.args.line.now.slots in
    let slot : Slot = slice_index_or c.slots.result.now at none in
    let got : slice_get slots at ≡ Some slot =
    ap (λ (xs : List Slot). slice_get xs at) (sym c.slots.ensures.value) ∙ index_got c.slots.result.now at none (subst (λ (xs : List Slot). at < length xs) (sym c.slots.ensures.value) c.in-Some.ensures.within) in
    record { value = sym (item_got (keys_in stored slots) c.args.key.now at (key_at stored slot) c.in-Some.ensures.some (key_got stored slots at slot got)) }
