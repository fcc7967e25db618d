-- The steps of a claim, stated at the values that the code has.
use Rattle.std.proofs.Common.{◌≡◌, ◌≢◌, ℕ, ◌+◌, ◌%◌, ◌∷◌, eqb, refl, sym, ap, ◌∙◌, subst, arith}
use Rattle.std.specs.Prelude as std
use mathlib.Core.Option.{none}
use prog.Atomic.{either}
use Rattle.atomic_table.specs.Table.{step, rest, Allows}
use Rattle.zy_shuffle.proofs.LookLemmas.{loads_cell, loads_tail}
use Rattle.zy_shuffle.proofs.TakeLemmas.{claims}
use Rattle.zy_shuffle.specs.ShuffleRule.{ShuffleRule}
use Rattle.zy_shuffle.specs.HomeRole.{IsActive}
use Rattle.zy_shuffle.specs.Step.{Seated, claimed, noted_place, noting, saw_cell, saw_tail}
use Rattle.zy_shuffle.specs.View.{head_step, tail_step, traced}
use Rattle.zy_table.specs.declared.name.Name.{Name}

module _ {T M : Type 0} (mark : T → M) (label : T → Name) where
  pub loads_tail_as : (n id h : ℕ) (m0 m1 : Seated T) → IsActive m0.0.role → m1 ≡ (traced (head_step h) m0.0, m0.1) → Allows (ShuffleRule mark label) n id m1 16 (λ y. y) (saw_tail (step n 16 0 0 none) m1)
  loads_tail_as n id h m0 m1 active e = loads_tail mark label n id m1 (subst (λ (m : Seated T). IsActive m.0.role) (sym e) active)

  pub loads_cell_as : (n id i h t places : ℕ) (m0 m1 m2 : Seated T) → IsActive m0.0.role → m1 ≡ (traced (head_step h) m0.0, m0.1) → saw_tail (step n 16 0 0 none) m1 t m2 → t ≢ h → n ≡ places → i ≡ 32 + h % places
      → Allows (ShuffleRule mark label) n id m2 i (λ y. y) (saw_cell (step n i 0 0 none) m2)
  loads_cell_as n id i h t places m0 m1 m2 active e f ne size is =
      let head : m2.0.trace.head.value ≡ h = ap (λ (m : Seated T). m.0.trace.head.value) f.1 ∙ ap (λ (m : Seated T). m.0.trace.head.value) e in
      let tail : m2.0.trace.tail.value ≡ t = ap (λ (m : Seated T). m.0.trace.tail.value) f.1 in
      let seen : m1.0.trace.head.value ≡ h = ap (λ (m : Seated T). m.0.trace.head.value) e in
      let le = f.2 in
      let more = f.3 in
      let act = subst (λ (m : Seated T). IsActive m.0.role) (sym f.1) (subst (λ (m : Seated T). IsActive m.0.role) (sym e) active) in
      loads_cell mark label n id i m2 act (omega arith) (is ∙ (λ j. 32 + sym head j % sym size j))

  pub claims_as : (n id h t u p : ℕ) (m0 m1 m2 m3 : Seated T) → IsActive m0.0.role → m1 ≡ (traced (head_step h) m0.0, m0.1) → m2 ≡ (traced (tail_step t u) m1.0, m1.1) → m3 ≡ (noting m2.0.trace.head.value p m2.0, m2.1)
      → Allows (ShuffleRule mark label) n id m3 0 (λ y. either (eqb y h) (h + 1) y) (claimed mark label (step n 0 h (h + 1) none) m3)
  claims_as n id h t u p m0 m1 m2 m3 active e f g =
      let head : m2.0.trace.head.value ≡ h = ap (λ (m : Seated T). m.0.trace.head.value) f ∙ ap (λ (m : Seated T). m.0.trace.head.value) e in
      let note : m3.0.note ≡ std.Some (h, p) = ap (λ (m : Seated T). m.0.note) g ∙ ap (λ (x : ℕ). std.Some (x, p)) head in
      let place : noted_place m3.0 ≡ p = ap (λ (m : Seated T). noted_place m.0) g in
      let act = subst (λ (m : Seated T). IsActive m.0.role) (sym g) (subst (λ (m : Seated T). IsActive m.0.role) (sym f) (subst (λ (m : Seated T). IsActive m.0.role) (sym e) active)) in
      claims mark label n id h (h + 1) m3 act (note ∙ ap (λ (x : ℕ). std.Some (h, x)) (sym place)) refl

  -- the slot that the exchange of the head has taken
  pub taken_slot : (n h r p : ℕ) (m2 m3 m4 : Seated T) → claimed mark label (step n 0 h (h + 1) none) m3 r m4 → r ≡ h → m3 ≡ (noting m2.0.trace.head.value p m2.0, m2.1) → (x : std.Option T) × (m4.1 ≡ (p, x) ∷ rest m4.1)
  taken_slot n h r p m2 m3 m4 c hit g =
      let t = c.0 hit in
      let place : noted_place m3.0 ≡ p = ap (λ (m : Seated T). noted_place m.0) g in
      let one : m4.1 ≡ (p, std.Some t.0) ∷ m3.1 = ap (λ (m : Seated T). m.1) t.2 ∙ ap (λ (x : ℕ). (x, std.Some t.0) ∷ m3.1) place in
      (std.Some t.0, one ∙ ap (λ l. (p, std.Some t.0) ∷ l) (sym (ap rest one)))
