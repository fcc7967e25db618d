use Rattle.std.proofs.Common.{◌≡◌, ◌+◌, ◌-◌, [], ◌∷◌, ◌++◌, List, ℕ, length, slice_index_or, ◌∙◌, ap, sym, subst, arith, length-append}
use Rattle.std.specs.Prelude.{Some}
use Rattle.mc_history.specs.Recorded.{item_at}
use Rattle.mc_shard.specs.declared.slot.Slot.{Slot}
use Rattle.mc_shard.specs.Places.{IsWith}
use Rattle.mc_shard.proofs.LineLemmas.{last_got}
use Rattle.mc_shard.proofs.TableLemmas.{roomier_moved}
use Rattle.mc_shard.proofs.places.evicting.make_room.Goals as goal

abbrev none : Slot
none = record { hash = 0; place = 0 }

pub returns-in-Ok-clause-same : goal.returns-in-Ok-clause-same
returns-in-Ok-clause-same g c =
    let stored = g.S.Stored.stored c.args.stored.now in
    let n : ℕ = length c.slots-slots.result.now - 1 in
    let last : Slot = slice_index_or c.slots-slots.result.now n none in
    let rest : List Slot = c.pop.new.self.slots in
    let whole : c.slots-slots.result.now ≡ rest ++ c.pop.result ∷ [] = c.slots-slots.ensures.value ∙ c.pop.ensures.slots in
    let size : length c.slots-slots.result.now ≡ length rest + 1 = ap (λ (xs : List Slot). length xs) whole ∙ length-append rest (c.pop.result ∷ []) in
    let popped : c.pop.result ≡ last = sym (ap (λ (xs : List Slot). slice_index_or xs n none) whole ∙ last_got rest c.pop.result none n (omega (arith, size))) in
    let is : c.in_ok-key.key ≡ (item_at stored last.place).key = c.in_ok-key.ensures.value ∙ c.with_hash.ensures.value ∙ c.key_at.ensures.value in
    roomier_moved stored c.args.line.now c.pop.new.self c.args.tree.now.entries c.insert.new.self.entries last c.requires.slots
    (c.pop.ensures.slots ∙ ap (λ (s : Slot). rest ++ s ∷ []) popped) c.pop.ensures.mark
    (subst (λ (k : List ℕ). IsWith c.args.tree.now.entries k (Some last.place) c.insert.new.self.entries) is c.in-Ok.ensures.updates.0)
