-- Lists: elements at an offset, pairs in order, and what a test keeps.
use Rattle.std.specs.List.{slice_get}
use Rattle.std.proofs.Common.{◌≡◌, ℕ, zero, suc, ◌<◌, Bool, true, false, cond, List, [], ◌∷◌, ◌++◌, take, map, filter, All, AllPairs, Contains, Some, refl, ap, ◌∙◌, subst, arith}
use Rattle.std.proofs.lemmas.List.{get_or-map, length-map}
use Rattle.std.proofs.lemmas.List.Elements.{All-nil, All-cons, All-head, All-tail, All-append, All-filter, All-map, All-weaker, All-contains, All-contains_itself}
use Rattle.std.proofs.lemmas.List.Kept.{AllPairs-cons}
use Rattle.std.proofs.lemmas.Option.{slice_get-get_or}

-- ---- elements at an offset

pub all_at : {X : Type 0} (P : X → Type 0) (xs : List X) (i : ℕ) (x : X) → All P xs → slice_get xs i ≡ Some x → P x
all_at P [] i x h is = absurd (cc)
all_at P (y ∷ xs) zero x h is = let same : y ≡ x = cc in subst P same (All-head P y xs h)
all_at P (y ∷ xs) (suc i) x h is = all_at P xs i x (All-tail P y xs h) is

pub get_taken : {X : Type 0} (xs : List X) (n i : ℕ) (x : X) → slice_get (take n xs) i ≡ Some x → slice_get xs i ≡ Some x
get_taken [] zero i x is = absurd (cc)
get_taken [] (suc n) i x is = absurd (cc)
get_taken (y ∷ xs) zero i x is = absurd (cc)
get_taken (y ∷ xs) (suc n) zero x is = is
get_taken (y ∷ xs) (suc n) (suc i) x is = get_taken xs n i x is

pub taken_get : {X : Type 0} (xs : List X) (n i : ℕ) (x : X) → i < n → slice_get xs i ≡ Some x → slice_get (take n xs) i ≡ Some x
taken_get [] n i x below is = absurd (cc)
taken_get (y ∷ xs) zero i x below is = absurd (omega arith)
taken_get (y ∷ xs) (suc n) zero x below is = is
taken_get (y ∷ xs) (suc n) (suc i) x below is = taken_get xs n i x (omega arith) is

pub mapped_get : {X Y : Type 0} (f : X → Y) (xs : List X) (i : ℕ) (x : X) → slice_get xs i ≡ Some x → slice_get (map f xs) i ≡ Some (f x)
mapped_get f [] i x is = absurd (cc)
mapped_get f (y ∷ xs) zero x is = let same : y ≡ x = cc in ap (λ z. Some (f z)) same
mapped_get f (y ∷ xs) (suc i) x is = mapped_get f xs i x is

-- ---- pairs in order

module _ {X : Type 0} (R : X → X → Type 0) where
  pub pairs_head : (x : X) (xs : List X) → AllPairs R (x ∷ xs) → All (R x) xs
  pairs_head x xs h k d within = h zero (suc k) d (omega arith) (omega arith)

  pub pairs_tail : (x : X) (xs : List X) → AllPairs R (x ∷ xs) → AllPairs R xs
  pairs_tail x xs h i j d before within = h (suc i) (suc j) d (omega arith) (omega arith)

  pub pairs_none : AllPairs R []
  pairs_none i j d before within = absurd (omega arith)

  pub pairs_at : (xs : List X) (i j : ℕ) (x y : X) → AllPairs R xs → i < j → slice_get xs i ≡ Some x → slice_get xs j ≡ Some y → R x y
  pairs_at [] i j x y h before first last = absurd (cc)
  pairs_at (z ∷ xs) i zero x y h before first last = absurd (omega arith)
  pairs_at (z ∷ xs) zero (suc j) x y h before first last =
      let same : z ≡ x = cc in
      subst (λ w. R w y) same (all_at (R z) xs j y (pairs_head z xs h) last)
  pairs_at (z ∷ xs) (suc i) (suc j) x y h before first last = pairs_at xs i j x y (pairs_tail z xs h) (omega arith) first last

  pub pairs_append : (xs ys : List X) → AllPairs R xs → AllPairs R ys → All (λ x. All (R x) ys) xs → AllPairs R (xs ++ ys)
  pairs_append [] ys one other between = other
  pairs_append (x ∷ xs) ys one other between =
      AllPairs-cons R x (xs ++ ys) (All-append (R x) xs ys (pairs_head x xs one) (All-head (λ z. All (R z) ys) x xs between))
      (pairs_append xs ys (pairs_tail x xs one) other (All-tail (λ z. All (R z) ys) x xs between))

pub all_of_map : {X Y : Type 0} (P : Y → Type 0) (f : X → Y) (xs : List X) → All P (map f xs) → All (λ x. P (f x)) xs
all_of_map P f [] h = All-nil (λ x. P (f x))
all_of_map P f (x ∷ xs) h = All-cons (λ z. P (f z)) x xs (All-head P (f x) (map f xs) h) (all_of_map P f xs (All-tail P (f x) (map f xs) h))

pub pairs_of_map : {X Y : Type 0} (R : Y → Y → Type 0) (f : X → Y) (xs : List X) → AllPairs R (map f xs) → AllPairs (λ x y. R (f x) (f y)) xs
pairs_of_map R f [] h = pairs_none (λ x y. R (f x) (f y))
pairs_of_map R f (x ∷ xs) h =
    AllPairs-cons (λ z y. R (f z) (f y)) x xs (all_of_map (R (f x)) f xs (pairs_head R (f x) (map f xs) h))
    (pairs_of_map R f xs (pairs_tail R (f x) (map f xs) h))

-- ---- what a test keeps

kept_there : {X : Type 0} (b : Bool) (x y : X) (xs : List X) → Contains xs y → Contains (cond b (x ∷ xs) xs) y
kept_there true x y xs at = let within = at.1 in (suc at.0, omega (arith, within), at.2)
kept_there false x y xs at = at

kept_here : {X : Type 0} (b : Bool) (x : X) (xs : List X) → b ≡ true → Contains (cond b (x ∷ xs) xs) x
kept_here true x xs is = (0, omega arith, refl)
kept_here false x xs is = absurd (cc)

module _ {X : Type 0} (p : X → Bool) where
  kept_all : (xs : List X) → All (λ x. p x ≡ true → Contains (filter p xs) x) xs
  kept_all [] = All-nil (λ x. p x ≡ true → Contains [] x)
  kept_all (x ∷ xs) =
      All-cons (λ y. p y ≡ true → Contains (filter p (x ∷ xs)) y) x xs (kept_here (p x) x (filter p xs))
      (All-weaker (λ y. p y ≡ true → Contains (filter p xs) y) (λ y. p y ≡ true → Contains (filter p (x ∷ xs)) y)
      (λ y at passes. kept_there (p x) x y (filter p xs) (at passes)) xs (kept_all xs))

  pub contains_kept : (xs : List X) (x : X) → Contains xs x → p x ≡ true → Contains (filter p xs) x
  contains_kept xs x at = All-contains (λ y. p y ≡ true → Contains (filter p xs) y) xs x (kept_all xs) at

  pub kept_contains : (xs : List X) (x : X) → Contains (filter p xs) x → Contains xs x
  kept_contains xs x at = All-contains (Contains xs) (filter p xs) x (All-filter p (Contains xs) xs (All-contains_itself xs)) at

  head_kept : (P : X → Type 0) (b : Bool) (x : X) (xs : List X) → All P (cond b (x ∷ xs) xs) → b ≡ true → P x
  head_kept P true x xs h is = All-head P x xs h
  head_kept P false x xs h is = absurd (cc)

  rest_kept : (P : X → Type 0) (b : Bool) (x : X) (xs : List X) → All P (cond b (x ∷ xs) xs) → All P xs
  rest_kept P true x xs h = All-tail P x xs h
  rest_kept P false x xs h = h

  one_of : (P : X → Type 0) (b : Bool) (x : X) → (b ≡ true → P x) → (b ≡ false → P x) → P x
  one_of P true x passes fails = passes refl
  one_of P false x passes fails = fails refl

  -- what holds of the elements that pass, and of each that does not, holds of all
  pub all_of_kept : (P : X → Type 0) (xs : List X) → All P (filter p xs) → ((x : X) → p x ≡ false → P x) → All P xs
  all_of_kept P [] h else = All-nil P
  all_of_kept P (x ∷ xs) h else =
      All-cons P x xs (one_of P (p x) x (head_kept P (p x) x (filter p xs) h) (else x))
      (all_of_kept P xs (rest_kept P (p x) x (filter p xs) h) else)

  pub pairs_kept_tail : (R : X → X → Type 0) (b : Bool) (x : X) (xs : List X) → AllPairs R (cond b (x ∷ xs) xs) → AllPairs R xs
  pairs_kept_tail R true x xs h = pairs_tail R x xs h
  pairs_kept_tail R false x xs h = h

  pub keep_one : (b : Bool) (x : X) (xs : List X) → b ≡ true → cond b (x ∷ xs) xs ≡ x ∷ xs
  keep_one true x xs is = refl
  keep_one false x xs is = absurd (cc)

  drop_one : (b : Bool) (x : X) (xs : List X) → b ≡ false → cond b (x ∷ xs) xs ≡ xs
  drop_one true x xs is = absurd (cc)
  drop_one false x xs is = refl

  pub all_kept : (xs : List X) → All (λ x. p x ≡ true) xs → filter p xs ≡ xs
  all_kept [] h = refl
  all_kept (x ∷ xs) h =
      keep_one (p x) x (filter p xs) (All-head (λ y. p y ≡ true) x xs h) ∙ ap (λ l. x ∷ l) (all_kept xs (All-tail (λ y. p y ≡ true) x xs h))

  pub none_kept : (xs : List X) → All (λ x. p x ≡ false) xs → filter p xs ≡ []
  none_kept [] h = refl
  none_kept (x ∷ xs) h =
      drop_one (p x) x (filter p xs) (All-head (λ y. p y ≡ false) x xs h) ∙ none_kept xs (All-tail (λ y. p y ≡ false) x xs h)

-- ---- what a function gives

module _ {X Y : Type 0} (f : X → Y) where
  pub contains_mapped : (xs : List X) (x : X) → Contains xs x → Contains (map f xs) (f x)
  contains_mapped xs x at =
      let within = at.1 in
      let long = length-map xs f in
      (at.0, omega (arith, within, long), get_or-map f xs at.0 x (f x) at.1 ∙ ap f at.2)

  pub mapped_contains : (xs : List X) (y : Y) → Contains (map f xs) y → (x : X) × Contains xs x × (f x ≡ y)
  mapped_contains xs y at =
      All-contains (λ z. (x : X) × Contains xs x × (f x ≡ z)) (map f xs) y
      (All-map (λ z. (x : X) × Contains xs x × (f x ≡ z)) f xs
      (All-weaker (Contains xs) (λ w. (x : X) × Contains xs x × (f x ≡ f w)) (λ w there. (w, there, refl)) xs (All-contains_itself xs))) at

  by_test : (b : Bool) (x : X) (xs : List X) → map f (cond b (x ∷ xs) xs) ≡ cond b (f x ∷ map f xs) (map f xs)
  by_test true x xs = refl
  by_test false x xs = refl

  -- a test of what the function gives may come before it or after it
  pub mapped_kept : (p : Y → Bool) (xs : List X) → map f (filter (λ x. p (f x)) xs) ≡ filter p (map f xs)
  mapped_kept p [] = refl
  mapped_kept p (x ∷ xs) =
      by_test (p (f x)) x (filter (λ z. p (f z)) xs) ∙ ap (λ l. cond (p (f x)) (f x ∷ l) l) (mapped_kept p xs)

pub contains_at : {X : Type 0} (xs : List X) (x : X) (at : Contains xs x) → slice_get xs at.0 ≡ Some x
contains_at xs x at = slice_get-get_or xs at.0 x at.1 ∙ ap Some at.2
