-- Slots and the blocks that are in them.
use Rattle.std.specs.List.{AllByRecursion}
use Rattle.std.proofs.Common.{◌≡◌, ℕ, suc, ◌≤◌, List, [], ◌∷◌, ◌++◌, length, Option, Some, None, slice_get, refl, ap, arith}
use Rattle.zy_conn.specs.Block.{Blocked}
use Rattle.zy_home.specs.End.{blocks_in}

pub blocks_in-append : (xs ys : List (Option Blocked)) → blocks_in (xs ++ ys) ≡ blocks_in xs ++ blocks_in ys
blocks_in-append [] ys = refl
blocks_in-append (None ∷ xs) ys = blocks_in-append xs ys
blocks_in-append (Some b ∷ xs) ys = ap (λ l. b ∷ l) (blocks_in-append xs ys)

pub length-blocks_in : (xs : List (Option Blocked)) → length (blocks_in xs) ≤ length xs
length-blocks_in [] = omega arith
length-blocks_in (None ∷ xs) = let h = length-blocks_in xs in omega arith
length-blocks_in (Some b ∷ xs) = let h = length-blocks_in xs in omega arith

-- what holds of each block in a slot holds of each of the blocks
pub each_block : (P : Blocked → Type 0) (xs : List (Option Blocked)) → ((p : ℕ) (b : Blocked) → slice_get xs p ≡ Some (Some b) → P b) → AllByRecursion P (blocks_in xs)
each_block P [] each = tt
each_block P (None ∷ xs) each = each_block P xs (λ p b e. each (suc p) b e)
each_block P (Some b ∷ xs) each = (each 0 b refl, each_block P xs (λ p c e. each (suc p) c e))
