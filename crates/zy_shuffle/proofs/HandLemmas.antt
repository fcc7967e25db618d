-- Hands, views by their role, and the acts by which a seat brings one of its slots to the front.
use Rattle.std.proofs.Common.{◌≡◌, ◌≢◌, ◌⊎◌, ℕ, zero, suc, ◌+◌, ◌<◌, ◌≤◌, List, [], ◌∷◌, ◌++◌, length, set, Bool, true, false, ◌||◌, ◌==◌, cond, true≢false, eq-eqb, ne_eqb, refl, sym, ap, ◌∙◌, subst, inl, inr, ⊎_elim, arith, length-set}
use Rattle.std.specs.Prelude as std
use mathlib.Core.Option.{Option, none, some, some-injective, some-ne-none}
use mathlib.Core.Logic.{dite}
use native.Mathlib.Decide.{ℕ_discrete}
use lib.ListN.{get_elem?}
use Rattle.atomic_table.specs.Table.{Act, keeps, takes, gives, chain, carried_after, homes_after, Valid}
use Rattle.atomic_table.proofs.Lists.{set_here, set_else}
use Rattle.zy_shuffle.specs.Hand.{below_then, emptied, marked}
use Rattle.zy_shuffle.specs.Holder.{core_count, cores}
use Rattle.zy_shuffle.specs.declared.ring.view.View.{View}
use Rattle.zy_table.proofs.SlotLemmas.{at_below}
use Rattle.zy_table.proofs.MemberLemmas.{in_more, in_front, in_cons, not_in, in_or, without_here, without_next, without_apart}
use Rattle.zy_table.specs.Member.{IsDistinct, is_in, without}

module _ {T : Type 0} where
  pub cores_set : (l : List (View T)) (i : ℕ) (v v' : View T) → get_elem? l i ≡ some v → cores (set l i v') + core_count v.role ≡ cores l + core_count v'.role
  cores_set [] i v v' e = absurd (some-ne-none v (sym e))
  cores_set (u ∷ us) zero v v' e = let a = ap (λ (y : View T). core_count y.role) (some-injective _ _ e) in omega arith
  cores_set (u ∷ us) (suc i) v v' e = let a = cores_set us i v v' e in omega arith

  pub cores_at : (l : List (View T)) (i : ℕ) (v : View T) → get_elem? l i ≡ some v → core_count v.role ≤ cores l
  cores_at [] i v e = absurd (some-ne-none v (sym e))
  cores_at (u ∷ us) zero v e = let a = ap (λ (y : View T). core_count y.role) (some-injective _ _ e) in omega arith
  cores_at (u ∷ us) (suc i) v e = let a = cores_at us i v e in omega arith

  pub cores_snoc : (l : List (View T)) (v : View T) → cores (l ++ v ∷ []) ≡ cores l + core_count v.role
  cores_snoc [] v = omega arith
  cores_snoc (u ∷ us) v = let a = cores_snoc us v in omega arith

-- two lists with the same member at each index are equal
pub list_same : {A : Type 0} (l k : List A) → ((i : ℕ) → get_elem? l i ≡ get_elem? k i) → l ≡ k
list_same [] [] h = refl
list_same [] (y ∷ ys) h = absurd (some-ne-none y (sym (h 0)))
list_same (x ∷ xs) [] h = absurd (some-ne-none x (h 0))
list_same (x ∷ xs) (y ∷ ys) h = λ i. some-injective _ _ (h 0) i ∷ list_same xs ys (λ j. h (suc j)) i

module _ {T : Type 0} where
  abbrev idle : Option (std.Option T)
  idle = some std.None

  abbrev gone : Option (std.Option T)
  gone = none

  pub marked_here : {M : Type 0} (mark : T → M) (p : ℕ) (b : T) (xs : List (ℕ × T)) → marked mark p ((p, b) ∷ xs) ≡ std.Some (mark b)
  marked_here mark p b xs = ap (λ c. cond c (std.Some (mark b)) (marked mark p xs)) (eq-eqb p p refl)

  pub marked_else : {M : Type 0} (mark : T → M) (p q : ℕ) (b : T) (xs : List (ℕ × T)) → q ≢ p → marked mark q ((p, b) ∷ xs) ≡ marked mark q xs
  marked_else mark p q b xs ne = ap (λ c. cond c (std.Some (mark b)) (marked mark q xs)) (ne_eqb q p ne)

  -- brings slot `p` to the front of those that are out
  abbrev pub fetch_act : ℕ → List ℕ → Act (std.Option T)
  fetch_act p [] = keeps
  fetch_act p (k ∷ ks) = cond (p == k) keeps (chain gives (chain (fetch_act p ks) (chain gives (chain (takes k std.None) (takes p std.None)))))

  abbrev pub Fetches : List (Option (std.Option T)) → ℕ → List ℕ → Act (std.Option T) → Type 0
  Fetches hs p ks a = Valid hs (emptied ks) a × (carried_after (emptied {T = T} ks) a ≡ emptied (p ∷ without p ks)) × (homes_after hs (emptied ks) a ≡ hs)

  again : (hs : List (Option (std.Option T))) (k p : ℕ) → k ≢ p → get_elem? hs k ≡ some none → get_elem? hs p ≡ some none → set (set (set (set hs k (some std.None)) p (some std.None)) k none) p none ≡ hs
  again hs k p ne at_k at_p = list_same _ _ (λ i. dite (ℕ_discrete i p)
      (λ e. let three : List (Option (std.Option T)) = set (set (set hs k (some std.None)) p (some std.None)) k none in
      let l1 = length-set hs k idle in
      let l2 = length-set (set hs k (some std.None)) p idle in
      let l3 = length-set (set (set hs k (some std.None)) p (some std.None)) k gone in
      let b = at_below hs p none at_p in
      ap (get_elem? (set three p none)) e ∙ set_here three p none (omega arith) ∙ sym at_p ∙ ap (get_elem? hs) (sym e))
      (λ np. set_else (set (set (set hs k (some std.None)) p (some std.None)) k none) p i none np ∙ dite (ℕ_discrete i k)
      (λ e. let two : List (Option (std.Option T)) = set (set hs k (some std.None)) p (some std.None) in
      let l1 = length-set hs k idle in
      let l2 = length-set (set hs k (some std.None)) p idle in
      let b = at_below hs k none at_k in
      ap (get_elem? (set two k none)) e ∙ set_here two k none (omega arith) ∙ sym at_k ∙ ap (get_elem? hs) (sym e))
      (λ nk. set_else (set (set hs k (some std.None)) p (some std.None)) k i none nk ∙ set_else (set hs k (some std.None)) p i (some std.None) np ∙ set_else hs k i (some std.None) nk)))

  pub fetches : (hs : List (Option (std.Option T))) (p : ℕ) (ks : List ℕ) → is_in p ks ≡ true → IsDistinct ks → ((q : ℕ) → is_in q ks ≡ true → get_elem? hs q ≡ some none) → Fetches hs p ks (fetch_act p ks)
  fetches hs p [] has d out = absurd (true≢false (sym has))
  fetches hs p (k ∷ ks) has d out = dite (ℕ_discrete p k)
      (λ e. subst (λ b. Fetches hs p (k ∷ ks) (cond b keeps (chain gives (chain (fetch_act p ks) (chain gives (chain (takes k std.None) (takes p std.None))))))) (sym (eq-eqb p k e))
      (tt, (λ i. emptied (sym e i ∷ (sym (ap (λ y. without p (y ∷ ks)) (sym e) ∙ without_here p ks ∙ without_apart p ks (ap (λ y. is_in y ks) e ∙ d.0))) i)), refl))
      (λ ne.
      let has' : is_in p ks ≡ true = sym (in_cons k p ks ne) ∙ has in
      let hs1 : List (Option (std.Option T)) = set hs k (some std.None) in
      let at_k = out k (in_front k ks) in
      let at_p = out p has in
      let nk : k ≢ p = λ f. ne (sym f) in
      let ih = fetches hs1 p ks has' d.1 (λ q h. set_else hs k q (some std.None) (λ f. true≢false (sym h ∙ ap (λ y. is_in y ks) f ∙ d.0)) ∙ out q (in_more k q ks h)) in
      let l1 = length-set hs k idle in
      let l2 = length-set hs1 p idle in
      let bk = at_below hs k none at_k in
      let bp = at_below hs p none at_p in
      let hs3 : List (Option (std.Option T)) = set hs1 p (some std.None) in
      let hs4 : List (Option (std.Option T)) = set hs3 k none in
      let take_k : get_elem? hs3 k ≡ some (some std.None) = set_else hs1 p k (some std.None) nk ∙ set_here hs k (some std.None) bk in
      let take_p : get_elem? hs4 p ≡ some (some std.None) = set_else hs3 k p none ne ∙ set_here hs1 p (some std.None) (omega arith) in
      let tail_act : Act (std.Option T) = chain gives (chain (takes k std.None) (takes p std.None)) in
      let here : Valid hs1 (emptied (p ∷ without p ks)) tail_act × (carried_after (emptied {T = T} (p ∷ without p ks)) tail_act ≡ emptied (p ∷ k ∷ without p ks)) × (homes_after hs1 (emptied (p ∷ without p ks)) tail_act ≡ hs)
      = ((tt, (take_k, take_p)), refl, again hs k p nk at_k at_p) in
      subst (λ b. Fetches hs p (k ∷ ks) (cond b keeps (chain gives (chain (fetch_act p ks) (chain gives (chain (takes k std.None) (takes p std.None))))))) (sym (ne_eqb p k ne))
      (let mid = subst (λ (y : List (Option (std.Option T)) × List (ℕ × std.Option T)). Valid y.0 y.1 tail_act × (carried_after y.1 tail_act ≡ emptied (p ∷ k ∷ without p ks)) × (homes_after y.0 y.1 tail_act ≡ hs)) (λ i. (sym ih.2 i, sym ih.1 i)) here in
      ((tt, (ih.0, mid.0)), mid.1 ∙ ap (λ l. emptied (p ∷ l)) (sym (without_next p k ks ne)), mid.2)))

  -- takes the slots below n, each with nothing in it
  abbrev pub take_act : ℕ → Act (std.Option T)
  take_act zero = keeps
  take_act (suc n) = chain (takes n std.None) (take_act n)

  pub record TakesAll (hs : List (Option (std.Option T))) (ks : List ℕ) (n : ℕ) : Type 0 where
    pub valid : Valid hs (emptied ks) (take_act n)
    pub carried : carried_after (emptied {T = T} ks) (take_act n) ≡ emptied (below_then n ks)
    pub long : length (homes_after hs (emptied ks) (take_act n)) ≡ length hs
    pub out : (q : ℕ) → q < n → get_elem? (homes_after hs (emptied ks) (take_act n)) q ≡ some none
    pub others : (q : ℕ) → n ≤ q → get_elem? (homes_after hs (emptied ks) (take_act n)) q ≡ get_elem? hs q

  pub takes_all : (hs : List (Option (std.Option T))) (ks : List ℕ) (n : ℕ) → n ≤ length hs → ((q : ℕ) → q < n → get_elem? hs q ≡ some (some std.None)) → TakesAll hs ks n
  takes_all hs ks zero le full = record { valid = tt; carried = refl; long = refl; out = λ q lt. absurd (omega arith); others = λ q _. refl }
  takes_all hs ks (suc n) le full =
      let hs1 : List (Option (std.Option T)) = set hs n none in
      let l = length-set hs n gone in
      let ih = takes_all hs1 (n ∷ ks) n (omega arith) (λ q lt. set_else hs n q none (λ e. omega arith) ∙ full q (omega arith)) in record {
        valid = (full n (omega arith), ih.valid);
        carried = ih.carried;
        long = ih.long ∙ l;
        out = λ q lt. dite (ℕ_discrete q n)
            (λ e. ih.others q (omega arith) ∙ ap (get_elem? hs1) e ∙ set_here hs n none (omega arith))
            (λ ne. ih.out q (omega arith));
        others = λ q le. ih.others q (omega arith) ∙ set_else hs n q none (λ e. omega arith);
      }

  -- gives all slots back
  abbrev pub give_act : List ℕ → Act (std.Option T)
  give_act [] = keeps
  give_act (k ∷ ks) = chain gives (give_act ks)

  pub record GivesAll (hs : List (Option (std.Option T))) (ks : List ℕ) : Type 0 where
    pub valid : Valid hs (emptied ks) (give_act ks)
    pub carried : carried_after (emptied {T = T} ks) (give_act ks) ≡ []
    pub long : length (homes_after hs (emptied ks) (give_act ks)) ≡ length hs
    pub back : (q : ℕ) → is_in q ks ≡ true → q < length hs → get_elem? (homes_after hs (emptied ks) (give_act ks)) q ≡ some (some std.None)
    pub others : (q : ℕ) → is_in q ks ≡ false → get_elem? (homes_after hs (emptied ks) (give_act ks)) q ≡ get_elem? hs q

  pub gives_all : (hs : List (Option (std.Option T))) (ks : List ℕ) → GivesAll hs ks
  gives_all hs [] = record { valid = tt; carried = refl; long = refl; back = λ q e _. absurd (true≢false (sym e)); others = λ q _. refl }
  gives_all hs (k ∷ ks) =
      let hs1 : List (Option (std.Option T)) = set hs k (some std.None) in
      let l = length-set hs k idle in
      let ih = gives_all hs1 ks in record {
        valid = (tt, ih.valid);
        carried = ih.carried;
        long = ih.long ∙ l;
        back = λ q e lt. in_cases q ks
            (λ f. ih.back q f (omega arith))
            (λ f. ih.others q f ∙ ⊎_elim
            (λ (g : q ≡ k). ap (get_elem? hs1) g ∙ set_here hs k (some std.None) (omega arith))
            (λ (g : (q ≢ k) × (is_in q ks ≡ true)). absurd (true≢false (sym g.1 ∙ f)))
            (in_or k q ks e));
        others = λ q e. ih.others q (in_rest q k ks e) ∙ set_else hs k q (some std.None) (λ f. true≢false (sym (ap (λ y. is_in y (k ∷ ks)) f ∙ in_front k ks) ∙ e));
      }
    where
      in_cases : (q : ℕ) (xs : List ℕ) {P : Type 0} → (is_in q xs ≡ true → P) → (is_in q xs ≡ false → P) → P
      in_cases q xs {P} f g = go (is_in q xs) f g
        where
          go : (b : Bool) → (b ≡ true → P) → (b ≡ false → P) → P
          go true f g = f refl
          go false f g = g refl

      in_rest : (q k : ℕ) (xs : List ℕ) → is_in q (k ∷ xs) ≡ false → is_in q xs ≡ false
      in_rest q k xs e = go (q == k) (is_in q xs) e
        where
          go : (a b : Bool) → (a || b) ≡ false → b ≡ false
          go true b e = cc
          go false b e = e

-- the numbers below n
pub below_acc : (n q : ℕ) (ks : List ℕ) → is_in q ks ≡ true → is_in q (below_then n ks) ≡ true
below_acc zero q ks e = e
below_acc (suc n) q ks e = below_acc n q (n ∷ ks) (in_more n q ks e)

pub below_in : (n q : ℕ) (ks : List ℕ) → q < n → is_in q (below_then n ks) ≡ true
below_in zero q ks lt = absurd (omega arith)
below_in (suc n) q ks lt = dite (ℕ_discrete q n)
    (λ e. below_acc n q (n ∷ ks) (ap (λ y. is_in y (n ∷ ks)) e ∙ in_front n ks))
    (λ ne. below_in n q (n ∷ ks) (omega arith))

pub in_below : (n q : ℕ) (ks : List ℕ) → is_in q (below_then n ks) ≡ true → (q < n) ⊎ (is_in q ks ≡ true)
in_below zero q ks e = inr e
in_below (suc n) q ks e = ⊎_elim
    (λ (h : q < n). inl (omega arith))
    (λ (h : is_in q (n ∷ ks) ≡ true). ⊎_elim (λ (f : q ≡ n). inl (omega arith)) (λ (f : (q ≢ n) × (is_in q ks ≡ true)). inr f.1) (in_or n q ks h))
    (in_below n q (n ∷ ks) e)

pub below_distinct : (n : ℕ) (ks : List ℕ) → IsDistinct ks → ((q : ℕ) → is_in q ks ≡ true → n ≤ q) → IsDistinct (below_then n ks)
below_distinct zero ks d h = d
below_distinct (suc n) ks d h = below_distinct n (n ∷ ks) (not_in n ks (λ e. let a = h n e in omega arith), d)
    (λ q e. ⊎_elim (λ (f : q ≡ n). omega arith) (λ (f : (q ≢ n) × (is_in q ks ≡ true)). let a = h q f.1 in omega arith) (in_or n q ks e))
