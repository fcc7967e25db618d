-- Members of lists, and lists in which each member keeps its image under a function.
use Rattle.std.proofs.Common.{◌≡◌, ℕ, zero, suc, List, [], ◌∷◌, ◌++◌, length, map, set, Some, slice_get, refl, sym, ap, ◌∙◌}

module _ {C D : Type 0} (f : C → D) where
  -- the measure of a member
  pub get_map : (cs : List C) (i : ℕ) (c : C) → slice_get cs i ≡ Some c → slice_get (map f cs) i ≡ Some (f c)
  get_map [] i c e = cc
  get_map (x ∷ xs) zero c e = let is : x ≡ c = cc in ap (λ y. Some (f y)) is
  get_map (x ∷ xs) (suc i) c e = get_map xs i c e

  -- a measure is that of a member
  pub map_get : (cs : List C) (i : ℕ) (d : D) → slice_get (map f cs) i ≡ Some d → (c : C) × (slice_get cs i ≡ Some c) × (f c ≡ d)
  map_get [] i d e = absurd (cc)
  map_get (x ∷ xs) zero d e = let is : f x ≡ d = cc in (x, refl, is)
  map_get (x ∷ xs) (suc i) d e = map_get xs i d e

  -- a member is changed, and its measure is not
  pub map_set : (cs : List C) (i : ℕ) (c d : C) → slice_get cs i ≡ Some c → f d ≡ f c → map f (set cs i d) ≡ map f cs
  map_set [] i c d at e = refl
  map_set (x ∷ xs) zero c d at e = let is : x ≡ c = cc in ap (λ y. y ∷ map f xs) (e ∙ ap f (sym is))
  map_set (x ∷ xs) (suc i) c d at e = ap (λ l. f x ∷ l) (map_set xs i c d at e)

-- the member after a first list
pub get_seam : {A : Type 0} (xs ys : List A) (x : A) → slice_get (xs ++ x ∷ ys) (length xs) ≡ Some x
get_seam [] ys x = refl
get_seam (y ∷ xs) ys x = get_seam xs ys x
