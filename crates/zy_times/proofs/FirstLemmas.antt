-- The moments at which a count rises.
use Rattle.std.specs.List.{slice_get}
use Rattle.std.proofs.Common.{◌≡◌, ℕ, zero, suc, ◌+◌, ◌<◌, ◌≤◌, List, [], ◌∷◌, ◌++◌, length, replicate, Some, sym, ap, ◌∙◌, subst, arith}
use Rattle.std.proofs.lemmas.List.{length-append, length-replicate, append-nil}
use Rattle.std.proofs.lemmas.Option.{slice_get_within}
use mathlib.Core.Logic.{dite}
use native.Mathlib.Decide.{dec_lt}
use Rattle.zy_times.specs.First.{IsFirstRise, AreRises, Grows}
use Rattle.zy_check.proofs.ListLemmas.{there, get_append, get_behind}

-- one further element, of which something holds at its place
pub each_next : {A : Type 0} (P : ℕ → A → Type 0) (xs : List A) (x : A) → ((k : ℕ) (y : A) → slice_get xs k ≡ Some y → P k y) → P (length xs) x → (k : ℕ) (y : A) → slice_get (xs ++ x ∷ []) k ≡ Some y → P k y
each_next P xs x each next k y is = dite (dec_lt k (length xs))
    (λ low. each k y (sym (get_append xs (x ∷ []) k low) ∙ is))
    (λ high.
    let below = slice_get_within (xs ++ x ∷ []) k y is in
    let long = length-append xs (x ∷ []) in
    let last : k ≡ length xs + 0 = omega (arith, below, long, high) in
    let place : length xs ≡ k = omega (arith, last) in
    let both : Some x ≡ Some y = sym (get_behind xs (x ∷ []) 0) ∙ ap (slice_get (xs ++ x ∷ [])) (sym last) ∙ is in
    let same : x ≡ y = cc in
    subst (λ (n : ℕ). P n y) place (subst (P (length xs)) same next))

-- a count that never falls is no less later
pub later : (count : ℕ → ℕ) → Grows count → (first last : ℕ) → first ≤ last → count first ≤ count last
later count grows first zero order = let same : first ≡ 0 = omega arith in subst (λ (n : ℕ). count n ≤ count 0) (sym same) (omega arith)
later count grows first (suc last) order = dite (dec_lt last first)
    (λ above. let same : first ≡ suc last = omega arith in subst (λ (n : ℕ). count n ≤ count (suc last)) (sym same) (omega arith))
    (λ below.
    let rest = later count grows first last (omega arith) in
    let step = grows last in
    let next : last + 1 ≡ suc last = omega arith in
    let on = subst (λ (n : ℕ). count last ≤ count n) next step in
    omega (arith, rest, on))

-- an element of a list that is longer by the same element again and again
pub replicated_at : (n at k x : ℕ) → slice_get (replicate n x) at ≡ Some k → k ≡ x
replicated_at zero at k x is = absurd (cc)
replicated_at (suc n) zero k x is = let same : x ≡ k = cc in sym same
replicated_at (suc n) (suc at) k x is = replicated_at n at k x is

module _ (old new : ℕ → ℕ) (last : ℕ) (same : (moment : ℕ) → moment ≤ last → old moment ≡ new moment) where
  -- what was the first moment still is
  first_on : (number moment : ℕ) → moment ≤ last → IsFirstRise old number moment → IsFirstRise new number moment
  first_on number moment within is = record {
    above = subst (λ (n : ℕ). number < n) (same moment within) is.above;
    first = λ earlier before. subst (λ (n : ℕ). n ≤ number) (same earlier (omega arith)) (is.first earlier before);
  }

  -- the count rose by some at the next moment
  pub rises_more : (k : ℕ) (moments : List ℕ) → Grows new → new (last + 1) ≡ old last + k → AreRises old last moments → AreRises new (last + 1) (moments ++ replicate k (last + 1))
  rises_more k moments grows more are = record {
    size =
        let long = length-append moments (replicate k (last + 1)) in
        let size = are.size in
        let some = length-replicate k (last + 1) in
        omega (arith, long, size, some, more);
    each = λ number moment is. dite (dec_lt number (length moments))
        (λ low.
        let old_is = are.each number moment (sym (get_append moments (replicate k (last + 1)) number low) ∙ is) in
        let within = old_is.0 in
        (omega (arith, within), first_on number moment within old_is.1))
        (λ high.
        let size = are.size in
        let at = there_behind number (omega arith) in
        let here : slice_get (replicate k (last + 1)) at.0 ≡ Some moment = sym (get_behind moments (replicate k (last + 1)) at.0) ∙ ap (slice_get (moments ++ replicate k (last + 1))) (sym at.1) ∙ is in
        let is_last = replicated_at k at.0 moment (last + 1) here in
        let below = slice_get_within (replicate k (last + 1)) at.0 moment here in
        let some = length-replicate k (last + 1) in (
          omega (arith, is_last),
          record {
            above = subst (λ (m : ℕ). number < new m) (sym is_last) (let split = at.1 in omega (arith, more, size, split, below, some));
            first = λ earlier before.
                let low : earlier ≤ last = omega (arith, is_last, before) in
                let grown = later new grows earlier last low in
                let at_last = same last (omega arith) in
                omega (arith, grown, at_last, size, high);
          },
        ));
  }
    where
      there_behind : (number : ℕ) → length moments ≤ number → (rest : ℕ) × (number ≡ length moments + rest)
      there_behind number high = behind (length moments) number high
        where
          behind : (a b : ℕ) → a ≤ b → (rest : ℕ) × (b ≡ a + rest)
          behind zero b order = (b, omega arith)
          behind (suc a) zero order = absurd (omega arith)
          behind (suc a) (suc b) order = let rest = behind a b (omega arith) in (rest.0, let is = rest.1 in omega (arith, is))

  -- the count stayed as it was
  pub rises_same : (moments : List ℕ) → Grows new → new (last + 1) ≡ old last → AreRises old last moments → AreRises new (last + 1) moments
  rises_same moments grows more are =
      subst (AreRises new (last + 1)) (append-nil moments) (rises_more 0 moments grows (omega (arith, more)) are)

module _ (count : ℕ → ℕ) (last : ℕ) (moments : List ℕ) (grows : Grows count) (stays : (moment : ℕ) → last ≤ moment → count moment ≡ count last) (are : AreRises count last moments) where
  -- a count is above a number from its moment on
  pub above_from : (number moment at : ℕ) → slice_get moments number ≡ Some at → at ≤ moment → number < count moment
  above_from number moment at is order =
      let first = (are.each number at is).1.above in
      let grown = later count grows at moment order in
      omega (arith, first, grown)

  -- and not before
  pub at_first : (number moment at : ℕ) → slice_get moments number ≡ Some at → number < count moment → at ≤ moment
  at_first number moment at is above = dite (dec_lt moment at)
      (λ before. let low = (are.each number at is).1.first moment before in absurd (omega (arith, low, above)))
      (λ behind. omega arith)

  -- a number that has no moment is never below the count
  pub never_above : (number moment : ℕ) → length moments ≤ number → number < count moment → ⊥
  never_above number moment past above = dite (dec_lt moment last)
      (λ before.
      let grown = later count grows moment last (omega arith) in
      let size = are.size in
      omega (arith, grown, size, above, past))
      (λ behind.
      let same = stays moment (omega arith) in
      let size = are.size in
      omega (arith, same, size, above, past))

  -- moments come in order
  pub in_order : (number other first second : ℕ) → slice_get moments number ≡ Some first → slice_get moments other ≡ Some second → first < second → number < other
  in_order number other first second is there order =
      let low = (are.each other second there).1.first first order in
      let above = (are.each number first is).1.above in
      omega (arith, low)
