-- The places of connections at their homes, and the member at a place of a list.
use Rattle.std.specs.List.{range_with_len}
use Rattle.std.proofs.Common.{◌≡◌, ◌≢◌, ℕ, zero, suc, ◌+◌, ◌<◌, List, [], ◌∷◌, ◌++◌, length, drop, Some, slice_get, refl, sym, ap, ◌∙◌, subst, arith, length-append}
use mathlib.Core.Logic.{dite}
use native.Mathlib.Decide.{ℕ_discrete}
use Rattle.zy_rx.specs.Flow.{home_of}
use Rattle.zy_home.specs.Own.{own_conns}
use Rattle.zy_home.proofs.OwnLemmas.{own-more, own-here, own-else}
use Rattle.zy_core.proofs.ListLemmas.{get_seam}
use Rattle.zy_finish.specs.Rest.{count_below, place_of}

-- ---- places of a list

pub get_front : {A : Type 0} (xs ys : List A) (i : ℕ) (x : A) → slice_get xs i ≡ Some x → slice_get (xs ++ ys) i ≡ Some x
get_front [] ys i x e = absurd (cc)
get_front (y ∷ xs) ys zero x e = e
get_front (y ∷ xs) ys (suc i) x e = get_front xs ys i x e

-- the members from a place on
pub drop_at_get : {A : Type 0} (p : ℕ) (xs : List A) (x : A) → slice_get xs p ≡ Some x → drop p xs ≡ x ∷ drop (p + 1) xs
drop_at_get zero [] x e = absurd (cc)
drop_at_get zero (y ∷ xs) x e = let is : y ≡ x = cc in ap (λ z. z ∷ xs) is
drop_at_get (suc p) [] x e = absurd (cc)
drop_at_get (suc p) (y ∷ xs) x e =
    let on : suc p + 1 ≡ suc (p + 1) = omega arith in drop_at_get p xs x e ∙ ap (λ (n : ℕ). x ∷ drop n (y ∷ xs)) (sym on)

-- ---- numbers from one on

-- one further number
range_more : (a n : ℕ) → range_with_len a (suc n) ≡ range_with_len a n ++ (a + n) ∷ []
range_more a zero = let same : a ≡ a + 0 = omega arith in ap (λ (k : ℕ). k ∷ []) same
range_more a (suc n) =
    let same : a + 1 + n ≡ a + suc n = omega arith in
    ap (λ (l : List ℕ). a ∷ l) (range_more (a + 1) n ∙ ap (λ (k : ℕ). range_with_len (a + 1) n ++ k ∷ []) same)

-- one further number, from 0 on
pub range_next : (n : ℕ) → range_with_len 0 (n + 1) ≡ range_with_len 0 n ++ n ∷ []
range_next n =
    let on : n + 1 ≡ suc n = omega arith in
    let same : 0 + n ≡ n = omega arith in
    ap (range_with_len 0) on ∙ range_more 0 n ∙ ap (λ (k : ℕ). range_with_len 0 n ++ k ∷ []) same

-- ---- connections

module _ (core cores n : ℕ) where
  -- one further connection is one further place at its home
  pub below_here : home_of cores n ≡ core → count_below cores core (n + 1) ≡ count_below cores core n + 1
  below_here is = let size = length-append (own_conns core cores n) (n ∷ []) in ap (λ (l : List ℕ). length l) (own-here core cores n is) ∙ size

  -- and at no other
  pub below_other : home_of cores n ≢ core → count_below cores core (n + 1) ≡ count_below cores core n
  below_other other = ap (λ (l : List ℕ). length l) (own-else core cores n other)

  own_stays : (p conn : ℕ) → slice_get (own_conns core cores n) p ≡ Some conn → slice_get (own_conns core cores (n + 1)) p ≡ Some conn
  own_stays p conn e = subst (λ (l : List ℕ). slice_get l p ≡ Some conn) (sym (own-more core cores n)) (get_front (own_conns core cores n) _ p conn e)

own_last : (cores n : ℕ) → slice_get (own_conns (home_of cores n) cores (n + 1)) (place_of cores n) ≡ Some n
own_last cores n = subst (λ (l : List ℕ). slice_get l (place_of cores n) ≡ Some n) (sym (own-here (home_of cores n) cores n refl)) (get_seam (own_conns (home_of cores n) cores n) [] n)

-- a connection is at its place
pub own_at : (cores count conn : ℕ) → conn < count → slice_get (own_conns (home_of cores conn) cores count) (place_of cores conn) ≡ Some conn
own_at cores zero conn within = absurd (omega arith)
own_at cores (suc n) conn within =
    let on : n + 1 ≡ suc n = omega arith in
    subst (λ (k : ℕ). slice_get (own_conns (home_of cores conn) cores k) (place_of cores conn) ≡ Some conn) on
    (dite (ℕ_discrete conn n)
    (λ same. subst (λ (k : ℕ). slice_get (own_conns (home_of cores k) cores (n + 1)) (place_of cores k) ≡ Some k) (sym same) (own_last cores n))
    (λ other. own_stays (home_of cores conn) cores n (place_of cores conn) conn (own_at cores n conn (omega arith))))
