-- The text made for an output, and the output that was found.
use Rattle.std.proofs.Common.{◌≡◌, ℕ, ◌+◌, ◌<◌, ◌≤◌, List, [], ◌∷◌, ◌++◌, length, take, drop, Option, None, Some, refl, sym, ap, ◌∙◌, arith}
use Rattle.std.proofs.lemmas.List.{append-nil, append_assoc, length-append, length-take-le, length-drop, take-append-drop}
use Rattle.zy_check.specs.Cause.{agreeing}
use Rattle.zy_check.specs.Comparing.{HasFirst, DiffersAt, AddedTo, EndedWith}
use Rattle.zy_check.proofs.ByteLemmas.{agreeing_few, agreeing_short, agreeing_all, agreeing_behind, agreeing_differs, agreeing_differs_first}
use Rattle.zy_check.proofs.CursorLemmas.{take_on}

-- nothing was made so far
pub first_none : (found : Option (List ℕ)) → HasFirst found [] 0
first_none None = (refl, refl)
first_none (Some found) = (omega arith, refl)

-- ---- one further text

module _ (found made : List ℕ) (at : ℕ) (text : List ℕ) (first : HasFirst (Some found) made at) where
  whole : (behind : List ℕ) → (made ++ text) ++ behind ≡ take at found ++ (text ++ behind)
  whole behind = append_assoc made text behind ∙ ap (λ (l : List ℕ). l ++ (text ++ behind)) (sym first.1)

  -- not all its bytes were found
  pub added_short : (session : ℕ) → agreeing (drop at found) text < length text
      → AddedTo (Some found) session (made ++ text) (at + agreeing (drop at found) text) (Some (record { session = session; at = at + agreeing (drop at found) text }))
  added_short session short = (refl, other)
    where
      other : (behind : List ℕ) → DiffersAt (Some found) ((made ++ text) ++ behind) (at + agreeing (drop at found) text)
      other behind =
          let due = whole behind in
          let size = length-take-le at found first.0 in
          let agrees : agreeing found ((made ++ text) ++ behind) ≡ at + agreeing (drop at found) text =
          (λ i. agreeing (sym (take-append-drop at found) i) (due i)) ∙ agreeing_behind (take at found) (drop at found) (text ++ behind)
          ∙ (λ i. size i + agreeing_short (drop at found) text behind short i) in
          let long = ap (λ (l : List ℕ). length l) due ∙ length-append (take at found) (text ++ behind) in
          let rest = length-append text behind in
          let differs = agreeing_differs found ((made ++ text) ++ behind) (omega arith) in
          ((λ same. let both : found ≡ (made ++ text) ++ behind = cc in differs both), agrees)

  -- all its bytes were found
  pub added_whole : length text ≤ agreeing (drop at found) text → HasFirst (Some found) (made ++ text) (at + agreeing (drop at found) text)
  added_whole all =
      let few = agreeing_few (drop at found) text in
      let a = few.0 in
      let b = few.1 in
      let size = length-drop at found in
      let within = first.0 in
      let exact : agreeing (drop at found) text ≡ length text = omega arith in (
        omega arith,
        take_on at (agreeing (drop at found) text) found ∙ (λ i. first.1 i ++ take (exact i) (drop at found))
            ∙ ap (λ (l : List ℕ). made ++ l) (agreeing_all (drop at found) text all),
      )

-- ---- the end

module _ (found made : List ℕ) (at : ℕ) (first : HasFirst (Some found) made at) where
  -- more was found
  pub ended_more : (session : ℕ) → at < length found → EndedWith (Some found) session made at (Some (record { session = session; at = at }))
  ended_more session more =
      let size = length-take-le at found first.0 in
      let agrees : agreeing found made ≡ at =
      (λ i. agreeing (sym (take-append-drop at found) i) ((sym first.1 ∙ sym (append-nil (take at found))) i)) ∙ agreeing_behind (take at found) (drop at found) []
      ∙ (λ i. size i + none (drop at found) i) ∙ omega arith in
      let differs = agreeing_differs_first found made (omega arith) in
      (refl, ((λ same. let both : found ≡ made = cc in differs both), agrees))
    where
      none : (xs : List ℕ) → agreeing xs [] ≡ 0
      none [] = refl
      none (x ∷ xs) = refl
