-- Membership in a list of numbers, after one was put in front or taken out.
use Rattle.std.proofs.Common.{◌≡◌, ◌≢◌, ◌⊎◌, ℕ, List, [], ◌∷◌, Bool, true, false, ◌||◌, ◌==◌, cond, true≢false, eq-eqb, ne_eqb, refl, sym, ap, ◌∙◌, subst, inl, inr}
use mathlib.Core.Logic.{dite}
use native.Mathlib.Decide.{ℕ_discrete}
use Rattle.zy_table.specs.Member.{is_in, without, IsDistinct}

-- a member is still one after another number is put in front
pub in_more : (p q : ℕ) (xs : List ℕ) → is_in q xs ≡ true → is_in q (p ∷ xs) ≡ true
in_more p q xs h = either_true (q == p) (is_in q xs) h
  where
    either_true : (a b : Bool) → b ≡ true → (a || b) ≡ true
    either_true true b h = refl
    either_true false b h = h

-- what was put in front is a member
pub in_front : (p : ℕ) (xs : List ℕ) → is_in p (p ∷ xs) ≡ true
in_front p xs = ap (λ b. b || is_in p xs) (eq-eqb p p refl)

-- another number is a member after that if it was one
pub in_cons : (p q : ℕ) (xs : List ℕ) → q ≢ p → is_in q (p ∷ xs) ≡ is_in q xs
in_cons p q xs ne = ap (λ b. b || is_in q xs) (ne_eqb q p ne)

-- a number that cannot be a member is none
pub not_in : (p : ℕ) (xs : List ℕ) → (is_in p xs ≡ true → ⊥) → is_in p xs ≡ false
not_in p xs h = go (is_in p xs) h
  where
    go : (b : Bool) → (b ≡ true → ⊥) → b ≡ false
    go true h = absurd (h refl)
    go false h = refl

-- a member is the first, or one of the others
pub in_or : (p q : ℕ) (xs : List ℕ) → is_in q (p ∷ xs) ≡ true → (q ≡ p) ⊎ ((q ≢ p) × (is_in q xs ≡ true))
in_or p q xs h = dite (ℕ_discrete q p) (λ e. inl e) (λ ne. inr (ne, sym (in_cons p q xs ne) ∙ h))

-- ---- without one number

-- the number is the first
pub without_here : (p : ℕ) (xs : List ℕ) → without p (p ∷ xs) ≡ without p xs
without_here p xs = ap (λ b. cond b (without p xs) (p ∷ without p xs)) (eq-eqb p p refl)

-- another number is the first
pub without_next : (p x : ℕ) (xs : List ℕ) → p ≢ x → without p (x ∷ xs) ≡ x ∷ without p xs
without_next p x xs ne = ap (λ b. cond b (without p xs) (x ∷ without p xs)) (ne_eqb p x ne)

-- the other members stay
pub in_without : (p q : ℕ) (xs : List ℕ) → q ≢ p → is_in q (without p xs) ≡ is_in q xs
in_without p q [] ne = refl
in_without p q (x ∷ xs) ne = dite (ℕ_discrete p x)
    (λ e. ap (is_in q) (ap (λ y. without p (y ∷ xs)) (sym e) ∙ without_here p xs) ∙ in_without p q xs ne ∙ sym (in_cons x q xs (λ f. ne (f ∙ sym e))))
    (λ no. ap (is_in q) (without_next p x xs no) ∙ ap (λ b. (q == x) || b) (in_without p q xs ne))

-- the number is no longer a member
pub out_of_without : (p : ℕ) (xs : List ℕ) → is_in p (without p xs) ≡ false
out_of_without p [] = refl
out_of_without p (x ∷ xs) = dite (ℕ_discrete p x)
    (λ e. ap (is_in p) (ap (λ y. without p (y ∷ xs)) (sym e) ∙ without_here p xs) ∙ out_of_without p xs)
    (λ no. ap (is_in p) (without_next p x xs no) ∙ in_cons x p (without p xs) no ∙ out_of_without p xs)

-- a list without this number stays as it is
pub without_apart : (p : ℕ) (xs : List ℕ) → is_in p xs ≡ false → without p xs ≡ xs
without_apart p [] h = refl
without_apart p (x ∷ xs) h = dite (ℕ_discrete p x)
    (λ e. absurd (true≢false (sym (ap (λ y. is_in p (y ∷ xs)) (sym e) ∙ in_front p xs) ∙ h)))
    (λ no. without_next p x xs no ∙ ap (λ l. x ∷ l) (without_apart p xs (sym (in_cons x p xs no) ∙ h)))

-- a distinct list stays distinct
pub distinct_without : (p : ℕ) (xs : List ℕ) → IsDistinct xs → IsDistinct (without p xs)
distinct_without p [] d = tt
distinct_without p (x ∷ xs) d = dite (ℕ_discrete p x)
    (λ e. subst IsDistinct (sym (ap (λ y. without p (y ∷ xs)) (sym e) ∙ without_here p xs)) (distinct_without p xs d.1))
    (λ no. subst IsDistinct (sym (without_next p x xs no)) (in_without p x xs (λ f. no (sym f)) ∙ d.0, distinct_without p xs d.1))

-- ---- one number brought to the front

-- the members are the same
pub front_in : (p q : ℕ) (xs : List ℕ) → is_in p xs ≡ true → is_in q (p ∷ without p xs) ≡ is_in q xs
front_in p q xs has = dite (ℕ_discrete q p)
    (λ e. ap (λ y. is_in y (p ∷ without p xs)) e ∙ in_front p (without p xs) ∙ sym (ap (λ y. is_in y xs) e ∙ has))
    (λ ne. in_cons p q (without p xs) ne ∙ in_without p q xs ne)

-- and the list stays distinct
pub front_distinct : (p : ℕ) (xs : List ℕ) → IsDistinct xs → IsDistinct (p ∷ without p xs)
front_distinct p xs d = (out_of_without p xs, distinct_without p xs d)
