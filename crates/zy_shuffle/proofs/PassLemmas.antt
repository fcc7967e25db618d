-- A pass between two calls.
use Rattle.std.proofs.Common.{◌≡◌, ◌≢◌, ℕ, ◌+◌, ◌<◌, List, [], ◌∷◌, Bool, true, false, true≢false, ◌||◌, ◌==◌, cond, refl, sym, ap, ◌∙◌, subst, ⊎_elim, arith}
use Rattle.std.specs.Prelude as std
use mathlib.Core.Option.{none}
use Rattle.atomic_table.specs.Table.{step, rest}
use Rattle.zy_shuffle.proofs.HandLemmas.{below_in, in_below}
use Rattle.zy_shuffle.specs.Hand.{below_then, emptied, rest_of}
use Rattle.zy_shuffle.specs.Pass.{HasAll, out_of}
use Rattle.zy_shuffle.specs.PassSeat.{IsBrought, IsCorePass, IsHomeSeat, Within, bells_of}
use Rattle.zy_shuffle.specs.HomeRole.{with_published, with_stored}
use Rattle.zy_shuffle.specs.Run.{Before}
use Rattle.zy_shuffle.specs.Step.{Seated, gave, giving, named_as, next_publication, published, publishing, stored_cell, storing}
use Rattle.zy_shuffle.specs.declared.ring.view.Role.{Role}
use Rattle.zy_shuffle.specs.declared.ring.view.Role.TheVariants.{Home}
use Rattle.zy_shuffle.specs.declared.ring.view.View.{View}
use Rattle.zy_table.proofs.MemberLemmas.{distinct_without, in_or}
use Rattle.zy_table.specs.Member.{IsDistinct, is_in, without}
use Rattle.zy_table.specs.declared.name.Name.{Name}

in_before : (p q : ℕ) (xs : List ℕ) → is_in q (without p xs) ≡ true → is_in q xs ≡ true
in_before p q [] e = e
in_before p q (x ∷ xs) e = go (p == x) (in_before p q xs) e
  where
    more : (a b c : Bool) → (b ≡ true → c ≡ true) → (a || b) ≡ true → (a || c) ≡ true
    more true b c f h = refl
    more false b c f h = f h

    right : (a b : Bool) → b ≡ true → (a || b) ≡ true
    right true b h = refl
    right false b h = h

    go : (b : Bool) → (is_in q (without p xs) ≡ true → is_in q xs ≡ true) → is_in q (cond b (without p xs) (x ∷ without p xs)) ≡ true → is_in q (x ∷ xs) ≡ true
    go true ih h = right (q == x) (is_in q xs) (ih h)
    go false ih h = more (q == x) (is_in q (without p xs)) (is_in q xs) ih h

pub within_less : (n p : ℕ) (hand : List ℕ) → Within n hand → Within n (without p hand)
within_less n p hand h q e = h q (in_before p q hand e)

pub within_more : (n p : ℕ) (hand : List ℕ) → p < n → Within n hand → Within n (p ∷ hand)
within_more n p hand near h q e = ⊎_elim (λ (f : q ≡ p). omega arith) (λ (f : (q ≢ p) × (is_in q hand ≡ true)). h q f.1) (in_or p q hand e)

pub within_all : (n : ℕ) → Within n (below_then n [])
within_all n q e = ⊎_elim (λ (a : q < n). a) (λ (a : is_in q [] ≡ true). absurd (true≢false (sym a))) (in_below n q [] e)

module _ {T : Type 0} where
  pub home_named : (z : Name) (s s' n : ℕ) (m : Seated T) → n ≡ s → s' ≡ s → named_as {T = T} z (step n 0 0 0 none) m → IsHomeSeat s' 0 m
  home_named z s s' n m e f h =
      subst (λ (x : Seated T). IsHomeSeat s' 0 x) (sym h) (refl, refl, subst (λ k. Within k (below_then n [])) (e ∙ sym f) (within_all n))

  -- all places are in the hand of a home whose label was named
  pub hand_named : (z : Name) (n places : ℕ) (m : Seated T) → named_as {T = T} z (step n 0 0 0 none) m → n ≡ places → HasAll places m.0.hand
  hand_named z n places m e size place lt = ap (λ (x : Seated T). is_in place x.0.hand) e ∙ below_in n place [] (omega arith)

  pub home_published : {M : Type 0} (before : Before) (mark : T → M) (s s' n i p t : ℕ) (b : T) (m0 m1 m2 m3 : Seated T) → s' ≡ s → IsHomeSeat s t m0 → stored_cell (step n i p 0 none) m0 m1 → m2 ≡ (m1.0, (p, std.Some b) ∷ rest m1.1) → published before mark m2 m3 → IsHomeSeat s' (t + 1) m3
  home_published before mark s s' n i p t b m0 m1 m2 m3 same h e f g =
      let v : View T = storing p m0.0 in
      let cs : List (ℕ × std.Option T) = emptied (without p m0.0.hand) in
      let is2 : m2 ≡ (v, (p, std.Some b) ∷ cs) = f ∙ (λ j. ((e j).0, (p, std.Some b) ∷ rest (e j).1)) in
      let is3 : m3 ≡ (publishing g.0 (next_publication before mark v) v ((p, std.Some b) ∷ cs), cs) = g.1 ∙ ap (λ (m : Seated T). (publishing g.0 (next_publication before mark m.0) m.0 m.1, rest m.1)) is2 in
      let role : with_published (with_stored p m0.0.role) ≡ Home (t + 1) std.None (bells_of m0.0.role) (out_of m0.0.role) = ap (λ x. with_published (with_stored p x)) h.1 in
      let role' : with_published (with_stored p m0.0.role) ≡ Home (t + 1) std.None (bells_of (with_published (with_stored p m0.0.role))) (out_of (with_published (with_stored p m0.0.role))) = role ∙ ap (λ (y : Role). Home (t + 1) std.None (bells_of y) (out_of y)) (sym role) in
      subst (λ (x : Seated T). IsHomeSeat s' (t + 1) x) (sym is3) (refl, role', subst (λ k. Within k (without p m0.0.hand)) (sym same) (within_less s p m0.0.hand h.2))

  pub core_gave : (s s' q : ℕ) (front : std.Option ℕ) (b : T) (m0 m1 m2 m3 : Seated T) → s' ≡ s → IsCorePass s front m0 → IsBrought q m0 m1 → m2 ≡ (m1.0, (q, std.Some b) ∷ rest m1.1) → gave m2 m3 → IsCorePass s' std.None m3
  core_gave s s' q front b m0 m1 m2 m3 same h e f g =
      let view : m3.0 ≡ giving g.0 m1.0 ((q, std.Some b) ∷ rest m1.1) = ap (λ (m : Seated T). m.0) g.1 ∙ ap (λ (m : Seated T). giving g.0 m.0 m.1) f in
      let hand : m3.0.hand ≡ without q m0.0.hand = ap (λ (v : View T). v.hand) view ∙ ap rest_of e.hand in
      let slots : m3.1 ≡ emptied (without q m0.0.hand) = ap (λ (m : Seated T). m.1) g.1 ∙ ap (λ (m : Seated T). rest m.1) f ∙ ap rest e.slots in record {
        seat = (slots ∙ ap emptied (sym hand), ap (λ (v : View T). v.role) view ∙ e.role ∙ h.seat.1, subst (λ (k : ℕ × List ℕ). Within k.0 k.1) (λ j. (sym same j, sym hand j)) (within_less s q m0.0.hand h.seat.2));
        front_is = tt;
        apart = subst IsDistinct (sym hand) (distinct_without q m0.0.hand h.apart);
      }
