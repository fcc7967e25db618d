-- The steps of a collect, stated at the values that the code has.
use Rattle.std.proofs.Common.{◌≡◌, ◌≢◌, ℕ, ◌+◌, ◌-◌, ◌*◌, ◌%◌, ◌^◌, ◌<◌, List, [], ◌∷◌, false, bit_and, w64, refl, sym, ap, ◌∙◌, subst, arith}
use Rattle.std.specs.Prelude as std
use mathlib.Core.Option.{none}
use Rattle.std.specs.Int.{bit_at, bit_not, trailing_zeros}
use Rattle.std.proofs.lemmas.Nat.Bits.{bit_at-trailing_zeros}
use Rattle.atomic_table.specs.Table.{step, rest, Allows}
use Rattle.atomic_table.specs.Seated.{TableId}
use Rattle.zy_shuffle.proofs.LookLemmas.{loads_bells}
use Rattle.zy_shuffle.proofs.PassLemmas.{within_more}
use Rattle.zy_shuffle.proofs.DoorbellLemmas.{collects}
use Rattle.zy_shuffle.specs.Hand.{emptied, marked}
use Rattle.zy_shuffle.specs.Pass.{LookedAt, held, out_of, tail_of}
use Rattle.zy_shuffle.specs.PassSeat.{IsHomeSeat, Within, bells_of}
use Rattle.zy_shuffle.specs.ShuffleRule.{ShuffleRule}
use Rattle.zy_shuffle.specs.HomeRole.{IsHome, rung_place, with_bells}
use Rattle.zy_shuffle.specs.Step.{Seated, collected, collecting, noting_bells, saw_bells}
use Rattle.zy_shuffle.specs.declared.ring.view.Role.{Role}
use Rattle.zy_shuffle.specs.declared.ring.view.Role.TheVariants.{Home}
use Rattle.zy_shuffle.specs.declared.ring.view.Trace.{Trace}
use Rattle.zy_shuffle.specs.Run.{MayFollow}
use Rattle.zy_shuffle.specs.declared.ring.view.View.{View}
use Rattle.zy_table.specs.Member.{is_in}
use Rattle.zy_table.specs.declared.name.Name.{Name}

module _ {T M : Type 0} (mark : T → M) (label : T → Name) where
  pub loads_bells_as : (s n id i w places : ℕ) (me : Seated T) → IsHomeSeat s (tail_of me.0.role) me → n ≡ places → i ≡ 32 + places + w → Allows (ShuffleRule mark label) n id me i (λ y. y) (saw_bells (step n i 0 0 none) me)
  loads_bells_as s n id i w places me h size is = loads_bells mark label n id i w (tail_of me.0.role) (out_of me.0.role) std.None (bells_of me.0.role) me h.1 (is ∙ ap (λ x. 32 + x + w) (sym size))

  -- the role of the home after it loaded this word
  noted_role : (s n i w x places : ℕ) (m0 m1 : Seated T) → IsHomeSeat s (tail_of m0.0.role) m0 → n ≡ places → i ≡ 32 + places + w → saw_bells (step n i 0 0 none) m0 x m1 → m1.0.role ≡ Home (tail_of m0.0.role) std.None (std.Some (w, x)) (out_of m0.0.role)
  noted_role s n i w x places m0 m1 h size is e =
      let at : i - (32 + n) ≡ w = omega arith in
      ap (λ (m : Seated T). m.0.role) e ∙ ap (λ y. with_bells (std.Some (y, x)) m0.0.role) at ∙ ap (with_bells (std.Some (w, x))) h.1

  pub collects_as : (s n id i w x mask places : ℕ) (m0 m1 : Seated T) → IsHomeSeat s (tail_of m0.0.role) m0 → n ≡ places → i ≡ 32 + places + w → saw_bells (step n i 0 0 none) m0 x m1 → x ≢ 0 → x < 2 ^ 64 → mask ≡ bit_not w64 (1 * 2 ^ trailing_zeros w64 x % 2 ^ 64)
      → Allows (ShuffleRule mark label) n id m1 i (λ y. bit_and y mask) (λ _ m. collected mark label (step n i mask 0 none) m1 m)
  collects_as s n id i w x mask places m0 m1 h size is e ne fits mask_is =
      collects mark label n id i w x mask (tail_of m0.0.role) (out_of m0.0.role) std.None m1 (noted_role s n i w x places m0 m1 h size is e) (is ∙ ap (λ y. 32 + y + w) (sym size)) (omega arith) fits mask_is

  -- the place whose block is taken
  pub place_is : (s n i w x places : ℕ) (m0 m1 : Seated T) → IsHomeSeat s (tail_of m0.0.role) m0 → n ≡ places → i ≡ 32 + places + w → saw_bells (step n i 0 0 none) m0 x m1 → rung_place m1.0.role ≡ 64 * w + trailing_zeros w64 x
  place_is s n i w x places m0 m1 h size is e = ap rung_place (noted_role s n i w x places m0 m1 h size is e)

  pub bell_slot : (n i p mask : ℕ) (m1 m2 : Seated T) → collected mark label (step n i mask 0 none) m1 m2 → rung_place m1.0.role ≡ p → (y : std.Option T) × (m2.1 ≡ (p, y) ∷ rest m2.1)
  bell_slot n i p mask m1 m2 c e =
      let one : m2.1 ≡ (p, std.Some c.0) ∷ m1.1 = ap (λ (m : Seated T). m.1) c.2 ∙ ap (λ y. (y, std.Some c.0) ∷ m1.1) e in
      (std.Some c.0, one ∙ ap (λ l. (p, std.Some c.0) ∷ l) (sym (ap rest one)))

  -- the home after it took a block
  pub took : (s s' n i w x mask places p : ℕ) (z : TableId) (m0 m1 m2 m3 : Seated T) (b : T) → s' ≡ s → s ≡ places → IsHomeSeat s (tail_of m0.0.role) m0 → n ≡ places → i ≡ 32 + places + w → x ≢ 0 → x < 2 ^ 64 → saw_bells (step n i 0 0 none) m0 x m1
      → collected mark label (step n i mask 0 none) m1 m2 → p ≡ w * 64 + trailing_zeros w64 x → m2.1 ≡ (p, std.Some b) ∷ rest m2.1 → m3 ≡ (m2.0, (p, std.None) ∷ rest m2.1)
      → IsHomeSeat s' (tail_of m0.0.role) m3 × LookedAt mark label places (held z m0.0) (held z m3.0) w (std.Some (p, b)) × (marked mark p m0.0.kept ≡ std.Some (mark b))
  took s s' n i w x mask places p z m0 m1 m2 m3 b same full h size is ne fits e c p_is slot f =
      let role1 = noted_role s n i w x places m0 m1 h size is e in
      let q_is : rung_place m1.0.role ≡ p = place_is s n i w x places m0 m1 h size is e ∙ (omega arith) in
      let at : i - (32 + n) ≡ w = omega arith in
      let bits = bit_at-trailing_zeros w64 x (omega arith) fits in
      let v1 : View T = noting_bells w x m0.0 in
      let is1 : m1 ≡ (v1, m0.1) = e ∙ ap (λ y. (noting_bells y x m0.0, m0.1)) at in
      let first : std.Option T → List (ℕ × std.Option T) → std.Option T = λ d l. first_of_list d l in
      let b_is : c.0 ≡ b = some_same c.0 b (sym (ap (first_of_list std.None) (ap (λ (m : Seated T). m.1) c.2)) ∙ ap (first_of_list std.None) slot) in
      let v2 : View T = collecting p b c.1 v1 in
      let is2 : m2 ≡ (v2, (p, std.Some b) ∷ m0.1) = c.2 ∙ (λ j. (collecting (q_is j) (b_is j) c.1 (is1 j).0, (q_is j, std.Some (b_is j)) ∷ (is1 j).1)) in
      let is3 : m3 ≡ (v2, emptied (p ∷ m0.0.hand)) = f ∙ (λ j. ((is2 j).0, (p, std.None) ∷ rest (is2 j).1)) ∙ ap (λ l. (v2, (p, std.None) ∷ l)) h.0 in
      let role2 : v2.role ≡ Home (tail_of m0.0.role) std.None std.None (out_of m0.0.role) = ap (λ y. with_bells std.None (with_bells (std.Some (w, x)) y)) h.1 in
      let comes = c.3 in
      let near : p < places = subst (λ y. y < places) q_is (let a = comes.0 in omega arith) in
      let hand1 : m1.0.hand ≡ m0.0.hand = ap (λ (m : Seated T). m.0.hand) is1 in
      let apart : is_in p m0.0.hand ≡ false = (λ j. is_in (sym q_is j) (sym hand1 j)) ∙ comes.1 in
      let tag : label b ≡ m0.0.label = ap label (sym b_is) ∙ comes.2 ∙ ap (λ (m : Seated T). m.0.label) is1 in
      let kept : marked mark p m0.0.kept ≡ std.Some (mark b) = (λ j. marked mark (sym q_is j) (ap (λ (m : Seated T). m.0.kept) (sym is1) j)) ∙ comes.3 (subst IsHome (sym role1) tt) ∙ ap (λ y. std.Some (mark y)) b_is in
      let home2 : IsHomeSeat s' (tail_of m0.0.role) (v2, emptied (p ∷ m0.0.hand)) =
      (refl, role2 ∙ ap (λ (y : Role). Home (tail_of m0.0.role) std.None (bells_of y) (out_of y)) (sym role2), subst (λ k. Within k (p ∷ m0.0.hand)) (sym same) (within_more s p m0.0.hand (omega arith) h.2)) in
      let looked2 : LookedAt mark label places (held z m0.0) (held z v2) w (std.Some (p, b)) = (
        record {
          is = λ j. record { table = z; label = m0.0.label; hand = p ∷ m0.0.hand; kept = (p, b) ∷ m0.0.kept; count = ap tail_of role2 j; out = ap out_of role2 j; trace = v2.trace };
          near = near;
          apart = apart;
          labelled = tag;
        },
        (let a = bits.0 in omega arith),
        (x, c.1, refl, (let a = bits.0 in ap (bit_at x) (let g : p % 64 ≡ trailing_zeros w64 x = omega arith in g) ∙ bits.1), (λ y lt. bits.2 y (let a = bits.0 in omega arith)), subst (λ (y : Trace). MayFollow c.1 y) (ap (λ (m : Seated T). m.0.trace) is1) c.4),
      ) in
      (subst (λ (m : Seated T). IsHomeSeat s' (tail_of m0.0.role) m) (sym is3) home2, subst (λ (m : Seated T). LookedAt mark label places (held z m0.0) (held z m.0) w (std.Some (p, b))) (sym is3) looked2, kept)
    where
      first_of_list : std.Option T → List (ℕ × std.Option T) → std.Option T
      first_of_list d [] = d
      first_of_list d (y ∷ ys) = y.1

      some_same : (a b : T) → std.Some a ≡ std.Some b → a ≡ b
      some_same a b e = cc
