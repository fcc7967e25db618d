-- The connection number of a flow, one number of its group after another.
use Rattle.std.proofs.Common.{◌≡◌, ℕ, suc, ◌+◌, ◌-◌, ◌*◌, ◌<◌, List, refl, sym, ap, ◌∙◌, arith}
use Rattle.std.specs.Prelude.{Some, None, false, slice_index_or}
use Rattle.zy_pcap.specs.Flow.{Keys, group_of_flow, is_same_flow, slot_from, slot_of}

pub slot_start : (keys : Keys) (key : List ℕ) (group : ℕ) → group ≡ group_of_flow key → slot_from keys key (group + 128 * 0) 32 ≡ slot_of keys key
unfolding slot_of
slot_start keys key group is = (let same : group + 128 * 0 ≡ group = omega arith in ap (λ (n : ℕ). slot_from keys key n 32) (same ∙ is))

slot_other : (keys : Keys) (key other : List ℕ) (number left : ℕ) → slice_index_or keys number None ≡ Some other → is_same_flow other key ≡ false → slot_from keys key number (suc left) ≡ slot_from keys key (number + 128) left
slot_other keys key other number left there apart = rw (there, slot_from) (rw apart refl)

pub slot_next : (keys : Keys) (key other : List ℕ) (group count : ℕ) → count < 32 → slice_index_or keys (group + 128 * count) None ≡ Some other → is_same_flow other key ≡ false → slot_from keys key (group + 128 * count) (32 - count) ≡ slot_of keys key
    → slot_from keys key (group + 128 * (count + 1)) (32 - (count + 1)) ≡ slot_of keys key
slot_next keys key other group count few there apart so_far =
    let left : 32 - count ≡ suc (32 - (count + 1)) = omega (arith, few) in
    let next : group + 128 * (count + 1) ≡ group + 128 * count + 128 = omega arith in
    ap (λ (n : ℕ). slot_from keys key n (32 - (count + 1))) next ∙ sym (slot_other keys key other (group + 128 * count) (32 - (count + 1)) there apart)
    ∙ ap (slot_from keys key (group + 128 * count)) (sym left) ∙ so_far
