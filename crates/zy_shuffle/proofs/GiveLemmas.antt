-- The other steps, stated at the values that the code has.
use Rattle.std.proofs.Common.{◌≡◌, ℕ, ◌+◌, ◌*◌, ◌/◌, ◌%◌, ◌^◌, [], ◌∷◌, true, bit_or, refl, sym, ap, ◌∙◌, subst}
use Rattle.std.specs.Prelude as std
use mathlib.Core.Option.{none}
use Rattle.atomic_table.specs.Table.{step, rest, Allows, Splits, Joins}
use Rattle.zy_shuffle.proofs.SplitLemmas.{joins, splits}
use Rattle.zy_shuffle.proofs.LookLemmas.{fronts, stores_cell}
use Rattle.zy_shuffle.proofs.DoorbellLemmas.{gives_back}
use Rattle.zy_shuffle.proofs.PublishLemmas.{stores_tail}
use Rattle.zy_shuffle.specs.Hand.{emptied, marked, rest_of}
use Rattle.zy_shuffle.specs.Pass.{out_of}
use Rattle.zy_shuffle.specs.PassSeat.{IsBrought, IsCorePass, IsCoreSeat, IsFront, IsHomeSeat, bells_of}
use Rattle.zy_shuffle.specs.Run.{Before}
use Rattle.zy_shuffle.specs.ShuffleRule.{ShuffleRule}
use Rattle.zy_shuffle.specs.HomeRole.{IsActive, with_stored}
use Rattle.zy_shuffle.specs.Step.{Seated, fronted, gave, newcomer, published, splitting, stored_cell, storing, taken_in}
use Rattle.zy_shuffle.specs.View.{spent}
use Rattle.zy_shuffle.specs.declared.ring.view.View.{View}
use Rattle.zy_table.proofs.MemberLemmas.{without_apart, without_here}
use Rattle.zy_table.specs.Member.{IsDistinct, is_in, without}
use Rattle.zy_table.specs.declared.name.Name.{Name}

module _ {T M : Type 0} (mark : T → M) (label : T → Name) where
  pub stores_cell_as : (s n id p i t places : ℕ) (me : Seated T) → IsHomeSeat s t me → is_in p me.0.hand ≡ true → n ≡ places → i ≡ 32 + t % places → Allows (ShuffleRule mark label) n id me i (λ _. p) (λ _ m. stored_cell (step n i p 0 none) me m)
  stores_cell_as s n id p i t places me h has size is = stores_cell mark label n id p i t (out_of me.0.role) std.None (bells_of me.0.role) me h.0 h.1 has (is ∙ ap (λ x. 32 + t % x) (sym size))

  pub stores_tail_as : (before : Before) (s n id p i t : ℕ) (b : T) (m0 m1 m2 : Seated T) → IsHomeSeat s t m0 → stored_cell (step n i p 0 none) m0 m1 → m2 ≡ (m1.0, (p, std.Some b) ∷ rest m1.1) → label b ≡ m0.0.label
      → Allows (ShuffleRule mark label) n id m2 16 (λ _. t + 1) (λ _ m. published before mark m2 m)
  stores_tail_as before s n id p i t b m0 m1 m2 h e f tag =
      let v : View T = storing p m0.0 in
      let is : m2 ≡ (v, (p, std.Some b) ∷ rest m1.1) = f ∙ ap (λ (m : Seated T). (m.0, (p, std.Some b) ∷ rest m1.1)) e in
      subst (λ (m : Seated T). Allows (ShuffleRule mark label) n id m 16 (λ _. t + 1) (λ _ w. published before mark m w)) (sym is)
      (stores_tail before mark label n id p t (out_of m0.0.role) (t + 1) (bells_of m0.0.role) b v (rest m1.1) (ap (with_stored p) h.1) refl tag refl)

  pub fronts_as : (s n id p : ℕ) (me : Seated T) → IsCoreSeat s me → is_in p me.0.hand ≡ true → Allows (ShuffleRule mark label) n id me 0 (λ y. y) (λ y m. fronted p me y m)
  fronts_as s n id p me h has = fronts mark label n id p me h.0 (subst IsActive (sym h.1) tt) has

  -- the slot of the place is in front already
  pub brought_before : (s p q : ℕ) (front : std.Option ℕ) (me : Seated T) → IsCorePass s front me → front ≡ std.Some q → q ≡ p → IsBrought p me me
  brought_before s p q front me h e same =
      let f : me.0.hand ≡ p ∷ rest_of me.0.hand = subst (λ x. IsFront x me.0.hand) (e ∙ ap std.Some same) h.front_is in
      let d = subst IsDistinct f h.apart in
      let w : p ∷ without p me.0.hand ≡ me.0.hand = ap (λ l. p ∷ without p l) f ∙ ap (λ l. p ∷ l) (without_here p (rest_of me.0.hand) ∙ without_apart p (rest_of me.0.hand) d.0) ∙ sym f in record {
        role = refl;
        label = refl;
        kept = refl;
        hand = sym w;
        slots = h.seat.0 ∙ ap emptied (sym w);
        stays = (refl, refl);
      }

  pub gives_back_as : (s n id q i places mask : ℕ) (b : T) (m0 m1 m2 : Seated T) → IsCoreSeat s m0 → IsBrought q m0 m1 → m2 ≡ (m1.0, (q, std.Some b) ∷ rest m1.1) → label b ≡ m0.0.label → marked mark q m0.0.kept ≡ std.Some (mark b) → n ≡ places
      → i ≡ 32 + places + q / 64 → mask ≡ 1 * 2 ^ (q % 64) % 2 ^ 64 → Allows (ShuffleRule mark label) n id m2 i (λ x. bit_or x mask) (λ _ m. gave m2 m)
  gives_back_as s n id q i places mask b m0 m1 m2 h e f tag keeps size at bit =
      subst (λ (m : Seated T). Allows (ShuffleRule mark label) n id m i (λ x. bit_or x mask) (λ _ w. gave m w)) (sym f)
      (gives_back mark label n id q i mask b m1.0 (rest m1.1) (e.role ∙ h.1) (e.hand ∙ ap (λ l. q ∷ rest_of l) (sym e.hand)) (tag ∙ sym e.label) (ap (marked mark q) e.kept ∙ keeps) (at ∙ ap (λ x. 32 + x + q / 64) (sym size)) bit)

  pub splits_as : (s t id : ℕ) (me : Seated T) → IsHomeSeat s t me → Splits (ShuffleRule mark label) id me.0 (splitting me.0) (newcomer me.0)
  splits_as s t id me h = splits mark label id t (out_of me.0.role) std.None (bells_of me.0.role) me.0 h.1

  pub joins_as : (s u t id other : ℕ) (me you : Seated T) → IsHomeSeat s t me → IsCoreSeat u you → you.0.hand ≡ [] → Joins (ShuffleRule mark label) id me.0 other you.0 (taken_in me.0 you.0) spent
  joins_as s u t id other me you h k empty = joins mark label id other t (out_of me.0.role) std.None (bells_of me.0.role) me.0 you.0 h.1 k.1 empty
