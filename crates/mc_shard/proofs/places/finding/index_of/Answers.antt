use Rattle.std.proofs.Common.{◌≡◌, ℕ, List, length, slice_get, slice_index_or, ◌∙◌, ap, sym, subst, arith}
use Rattle.std.specs.Prelude.{Some}
use Rattle.std.specs.BTreeMap.{is_at}
use Rattle.mc_calls.specs.Key.{hash_of}
use Rattle.mc_history.specs.Recorded.{item_at}
use Rattle.mc_shard.specs.declared.slot.Slot.{Slot}
use Rattle.mc_shard.specs.Contents.{hashed_cmp}
use Rattle.mc_shard.specs.Places.{Keyed, key_at, keys_in, IsSlot, NoneBefore}
use Rattle.mc_shard.proofs.LineLemmas.{index_got, key_got, keys_length, all_got}
use Rattle.mc_shard.proofs.PlaceLemmas.{apart}
use Rattle.mc_shard.proofs.RowLemmas.{before_next, first_found, none_found}
use Rattle.mc_shard.proofs.places.finding.index_of.Goals as goal
use Rattle.mc_shard.proofs.places.finding.index_of.Goals.{else-slot-hash-via-then-slot-hash+else-has, else-slot-hash-via-else-slot-hash}

abbrev none : Slot
none = record { hash = 0; place = 0 }

pub returns-then-has-clause-some : goal.returns-then-has-clause-some
returns-then-has-clause-some g c =
    let stored = g.S.Stored.stored c.args.stored.now in
    let at = c.loop-at.at in
    let slot : Slot = slice_index_or c.slots-slots.result.now at none in
    let got : slice_get c.args.line.now.slots at ≡ Some slot =
    subst (λ (xs : List Slot). slice_get xs at ≡ Some slot) c.slots-slots.ensures.value (index_got c.slots-slots.result.now at none (omega (arith, c.loop-at-test.true))) in
    first_found (keys_in stored c.args.line.now.slots) c.args.key.now at (key_at stored slot) c.loop-at.invariant.none (key_got stored c.args.line.now.slots at slot got)
    (ap (λ (k : List ℕ). is_at (hashed_cmp c.args.key.now) k) (sym c.key_at.ensures.value) ∙ sym c.has.ensures.value ∙ c.if-has.true)

pub loop-at-preserved : goal.loop-at-preserved
loop-at-preserved g c =
    let stored = g.S.Stored.stored c.args.stored.now in
    let at = c.loop-at.at in
    let slots : List Slot = c.args.line.now.slots in
    let slot : Slot = slice_index_or c.slots-slots.result.now at none in
    let got : slice_get slots at ≡ Some slot =
    subst (λ (xs : List Slot). slice_get xs at ≡ Some slot) c.slots-slots.ensures.value (index_got c.slots-slots.result.now at none (omega (arith, c.loop-at-test.true))) in
    let is : IsSlot stored slot = all_got (IsSlot stored) slots at slot c.requires.slots got in
    let next = before_next (keys_in stored slots) c.args.key.now at (key_at stored slot) c.loop-at.invariant.none (key_got stored slots at slot got) in
    record {
      none = elim c.else-slot-hash.branch [
        | else-slot-hash-via-then-slot-hash+else-has w ↦ next
            (ap (λ (k : List ℕ). is_at (hashed_cmp c.args.key.now) k) (sym w.key_at.ensures.value) ∙ sym w.has.ensures.value ∙ w.if-has.false)
        | else-slot-hash-via-else-slot-hash w ↦ next
            (apart hash_of c.args.key.now (item_at stored slot.place).key (λ same. w.if-slot-hash.false (is.hash ∙ same ∙ sym c.hash-hash.ensures.value)))
      ];
      within = (let size = ap (λ (xs : List Slot). length xs) c.slots-slots.ensures.value in omega (arith, c.loop-at-test.true, size));
    }

pub returns-clause-none : goal.returns-clause-none
returns-clause-none g c =
    let stored = g.S.Stored.stored c.args.stored.now in
    let row : Keyed = keys_in stored c.args.line.now.slots in
    let size = ap (λ (xs : List Slot). length xs) c.slots-slots.ensures.value in
    let whole : c.loop-at.at ≡ length row = omega (arith, c.loop-at-test.false, size, c.loop-at.invariant.within, keys_length stored c.args.line.now.slots) in
    none_found row c.args.key.now (subst (λ (n : ℕ). NoneBefore row c.args.key.now n) whole c.loop-at.invariant.none)
