-- Lists whose elements belong together one by one.
use Rattle.std.proofs.Common.{◌≡◌, ℕ, zero, suc, List, [], ◌∷◌, ◌++◌, length, set, refl, ap}
use Rattle.std.specs.Prelude.{slice_get, slice_set}
use Rattle.zy_pcap.specs.Pairs.{BothOrNone, AllPairs}

pub pairs_length : {A B : Type 0} (R : A → B → Type 0) (xs : List A) (ys : List B) → AllPairs R xs ys → length xs ≡ length ys
pairs_length R [] [] pairs = refl
pairs_length R [] (b ∷ ys) pairs = absurd pairs
pairs_length R (a ∷ xs) [] pairs = absurd pairs
pairs_length R (a ∷ xs) (b ∷ ys) pairs = ap suc (pairs_length R xs ys pairs.1)

pub pairs_get : {A B : Type 0} (R : A → B → Type 0) (xs : List A) (ys : List B) (i : ℕ) → AllPairs R xs ys → BothOrNone R (slice_get xs i) (slice_get ys i)
pairs_get R [] [] i pairs = tt
pairs_get R [] (b ∷ ys) i pairs = absurd pairs
pairs_get R (a ∷ xs) [] i pairs = absurd pairs
pairs_get R (a ∷ xs) (b ∷ ys) zero pairs = pairs.0
pairs_get R (a ∷ xs) (b ∷ ys) (suc i) pairs = pairs_get R xs ys i pairs.1

pub pairs_set : {A B : Type 0} (R : A → B → Type 0) (xs : List A) (ys : List B) (i : ℕ) (a : A) (b : B) → AllPairs R xs ys → R a b → AllPairs R (set xs i a) (slice_set ys i b)
pairs_set R [] [] i a b pairs here = tt
pairs_set R [] (y ∷ ys) i a b pairs here = absurd pairs
pairs_set R (x ∷ xs) [] i a b pairs here = absurd pairs
pairs_set R (x ∷ xs) (y ∷ ys) zero a b pairs here = (here, pairs.1)
pairs_set R (x ∷ xs) (y ∷ ys) (suc i) a b pairs here = (pairs.0, pairs_set R xs ys i a b pairs.1 here)

pub pairs_append : {A B : Type 0} (R : A → B → Type 0) (xs more : List A) (ys others : List B) → AllPairs R xs ys → AllPairs R more others → AllPairs R (xs ++ more) (ys ++ others)
pairs_append R [] more [] others pairs rest = rest
pairs_append R [] more (b ∷ ys) others pairs rest = absurd pairs
pairs_append R (a ∷ xs) more [] others pairs rest = absurd pairs
pairs_append R (a ∷ xs) more (b ∷ ys) others pairs rest = (pairs.0, pairs_append R xs more ys others pairs.1 rest)
