-- Functions on numbers after a change at one number.
use Rattle.std.proofs.Common.{◌≡◌, ◌≢◌, ℕ, cond, refl, sym, subst, eq-eqb, ne_eqb}
use mathlib.Core.Logic.{dite}
use native.Mathlib.Decide.{ℕ_discrete}
use Rattle.zy_table.specs.Put.{put}

module _ {A : Type 0} where
  -- what holds of the new value at `k`, and of each other value, holds after the change
  pub at_put : (f : ℕ → A) (k : ℕ) (a : A) (P : ℕ → A → Type 0) (j : ℕ) → P k a → (j ≢ k → P j (f j)) → P j (put f k a j)
  unfolding put
  at_put f k a P j here other = dite (ℕ_discrete j k)
      (λ e. subst (λ b. P j (cond b a (f j))) (sym (eq-eqb j k e)) (subst (λ (i : ℕ). P i a) (sym e) here))
      (λ ne. subst (λ b. P j (cond b a (f j))) (sym (ne_eqb j k ne)) (other ne))

  -- the new value
  pub put_here : (f : ℕ → A) (k : ℕ) (a : A) → put f k a k ≡ a
  put_here f k a = at_put f k a (λ j x. j ≡ k → x ≡ a) k (λ _. refl) (λ n. absurd (n refl)) refl

  -- every other value
  pub put_else : (f : ℕ → A) (k : ℕ) (a : A) (j : ℕ) → j ≢ k → put f k a j ≡ f j
  put_else f k a j ne = at_put f k a (λ i x. i ≢ k → x ≡ f i) j (λ n. absurd (n refl)) (λ _ _. refl) ne

-- the same for two functions that are both changed at one number
pub at_both : {A B : Type 0} (f : ℕ → A) (g : ℕ → B) (k : ℕ) (a : A) (b : B) (P : ℕ → A → B → Type 0) (j : ℕ)
    → P k a b → (j ≢ k → P j (f j) (g j)) → P j (put f k a j) (put g k b j)
unfolding put
at_both f g k a b P j here other = dite (ℕ_discrete j k)
    (λ e. subst (λ c. P j (cond c a (f j)) (cond c b (g j))) (sym (eq-eqb j k e)) (subst (λ (i : ℕ). P i a b) (sym e) here))
    (λ ne. subst (λ c. P j (cond c a (f j)) (cond c b (g j))) (sym (ne_eqb j k ne)) (other ne))
