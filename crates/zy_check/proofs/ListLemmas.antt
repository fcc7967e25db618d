-- Lists, element by element.
use Rattle.std.specs.List.{slice_get}
use Rattle.std.proofs.Common.{◌≡◌, ℕ, zero, suc, ◌+◌, ◌<◌, ◌≤◌, List, [], ◌∷◌, ◌++◌, length, take, drop, get_or, None, Some, refl, ap, ◌∙◌, sym, subst, arith}
use Rattle.std.proofs.lemmas.Option.{slice_get_read, get_or_from_slice_get}

module _ {A : Type 0} where
  -- two lists of which the second is not longer are the same, where each element of the first is that of the second
  pub same_lists : (xs ys : List A) → length ys ≤ length xs → ((j : ℕ) → j < length xs → slice_get xs j ≡ slice_get ys j) → xs ≡ ys
  same_lists [] [] few same = refl
  same_lists [] (y ∷ ys) few same = absurd (omega arith)
  same_lists (x ∷ xs) [] few same = let one : Some x ≡ None = same 0 (omega arith) in absurd (cc)
  same_lists (x ∷ xs) (y ∷ ys) few same =
      let one : Some x ≡ Some y = same 0 (omega arith) in
      let head : x ≡ y = cc in
      let tail = same_lists xs ys (omega arith) (λ j within. same (suc j) (omega arith)) in
      λ i. head i ∷ tail i

  -- the element that is read at a place
  pub read_at : (xs : List A) (at : ℕ) (x d : A) → at < length xs → x ≡ get_or xs at x → get_or xs at d ≡ x
  read_at xs at x d within is = get_or_from_slice_get xs at x d (slice_get_read xs (length xs) at x refl within is)

  -- there is an element at each place within a list
  pub there : (xs : List A) (k : ℕ) → k < length xs → (x : A) × (slice_get xs k ≡ Some x)
  there [] k within = absurd (omega arith)
  there (x ∷ xs) zero within = (x, refl)
  there (x ∷ xs) (suc k) within = there xs k (omega arith)

  -- the elements of two lists, one after the other
  pub get_append : (xs ys : List A) (k : ℕ) → k < length xs → slice_get (xs ++ ys) k ≡ slice_get xs k
  get_append [] ys k within = absurd (omega arith)
  get_append (x ∷ xs) ys zero within = refl
  get_append (x ∷ xs) ys (suc k) within = get_append xs ys k (omega arith)

  pub get_behind : (xs ys : List A) (k : ℕ) → slice_get (xs ++ ys) (length xs + k) ≡ slice_get ys k
  get_behind [] ys k = let none : length {A = A} [] + k ≡ k = omega arith in ap (λ (n : ℕ). slice_get ys n) none
  get_behind (x ∷ xs) ys k =
      let on : length (x ∷ xs) + k ≡ suc (length xs + k) = omega arith in
      ap (λ (n : ℕ). slice_get (x ∷ (xs ++ ys)) n) on ∙ get_behind xs ys k

  -- and from a place on
  pub get_drop : (n : ℕ) (xs : List A) (k : ℕ) → slice_get (drop n xs) k ≡ slice_get xs (n + k)
  get_drop zero xs k = let none : 0 + k ≡ k = omega arith in ap (slice_get xs) (sym none)
  get_drop (suc n) [] k = refl
  get_drop (suc n) (x ∷ xs) k = let on : suc n + k ≡ suc (n + k) = omega arith in get_drop n xs k ∙ sym (ap (slice_get (x ∷ xs)) on)

  -- one further element
  pub take_one : (xs : List A) (k : ℕ) (x : A) → slice_get xs k ≡ Some x → take (k + 1) xs ≡ take k xs ++ x ∷ []
  take_one [] k x is = absurd (cc)
  take_one (y ∷ ys) zero x is = let same : y ≡ x = cc in ap (λ (z : A). z ∷ []) same
  take_one (y ∷ ys) (suc k) x is =
      let on : suc k + 1 ≡ suc (k + 1) = omega arith in
      ap (λ (n : ℕ). take n (y ∷ ys)) on ∙ ap (λ (l : List A). y ∷ l) (take_one ys k x is)

  -- what each element of a list is at its place, and a further one at any, each of both is
  pub each_pushed : (P : ℕ → A → Type 0) (xs : List A) (x : A) → ((k : ℕ) (y : A) → slice_get xs k ≡ Some y → P k y) → ((k : ℕ) → P k x)
      → (k : ℕ) (y : A) → slice_get (xs ++ x ∷ []) k ≡ Some y → P k y
  each_pushed P [] x each last zero y is = let same : x ≡ y = cc in subst (P 0) same (last 0)
  each_pushed P [] x each last (suc k) y is = absurd (cc)
  each_pushed P (z ∷ xs) x each last zero y is = each 0 y is
  each_pushed P (z ∷ xs) x each last (suc k) y is = each_pushed (λ n. P (suc n)) xs x (λ n. each (suc n)) (λ n. last (suc n)) k y is
