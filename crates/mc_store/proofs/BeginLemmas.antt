-- How the table begins: the rule holds of empty shards.
use Rattle.std.proofs.Common.{◌≡◌, ℕ, zero, suc, ◌<◌, List, [], ◌∷◌, ◌++◌, length, get_or, refl, sym, ap, ◌∙◌, subst, arith, length-append}
use mathlib.Core.Option.{Option, some, some-injective, some-ne-none}
use native.Mathlib.Decide.{ℕ_discrete}
use mathlib.Core.Logic.{dite}
use lib.ListN.{get_elem?}
use Rattle.zy_table.proofs.SumLemmas.{sum_bound}
use Rattle.mc_shard.specs.Shard.{Kept, kept}
use Rattle.mc_store.specs.declared.store.view.View.{View}
use Rattle.mc_store.specs.declared.store.view.View.TheVariants.{Root}
use Rattle.mc_store.specs.StoreRule.{free, halves, Knows, StoreRule}
use Rattle.std.specs.Prelude.{replicate}
use Rattle.std.proofs.Common.{map}
use Rattle.atomic_table.specs.Table.{opening}
use Rattle.mc_store.specs.Closing.{empties}

pub length-empties : (n count : ℕ) → length (empties n count) ≡ count
length-empties n zero = refl
length-empties n (suc count) = let a = length-empties n count in let b = length-append (empties n count) (kept count n [] ∷ []) in omega arith

map_snoc : (xs : List Kept) (x : Kept) (k : ℕ) (y : Option Kept) → get_elem? (map some xs) k ≡ some y → get_elem? (map some (xs ++ x ∷ [])) k ≡ some y
map_snoc [] x k y e = absurd (some-ne-none y (sym e))
map_snoc (z ∷ zs) x zero y e = e
map_snoc (z ∷ zs) x (suc k) y e = map_snoc zs x k y e

map_last : (xs : List Kept) (x : Kept) (k : ℕ) → k ≡ length xs → get_elem? (map some (xs ++ x ∷ [])) k ≡ some (some x)
map_last [] x zero e = refl
map_last [] x (suc k) e = absurd (omega arith)
map_last (z ∷ zs) x zero e = absurd (omega arith)
map_last (z ∷ zs) x (suc k) e = map_last zs x k (omega arith)

in_empties : (n count k : ℕ) → k < count → get_elem? (map some (empties n count)) k ≡ some (some (kept k n []))
in_empties n zero k lt = absurd (omega arith)
in_empties n (suc count) k lt = dite (ℕ_discrete k count)
    (λ e. map_last (empties n count) (kept count n []) k (e ∙ sym (length-empties n count)) ∙ ap (λ (m : ℕ). some (some (kept m n []))) (sym e))
    (λ ne. map_snoc (empties n count) (kept count n []) k (some (kept k n [])) (in_empties n count k (omega arith)))

length-map_some : (xs : List Kept) → length (map some xs) ≡ length xs
length-map_some [] = refl
length-map_some (x ∷ xs) = ap suc (length-map_some xs)

zeros : (n k : ℕ) → get_or (replicate {A = ℕ} n 0) k 0 ≡ 0
zeros zero k = refl
zeros (suc n) zero = refl
zeros (suc n) (suc k) = zeros n k

length-zeros : (n : ℕ) → length (replicate {A = ℕ} n 0) ≡ n
length-zeros zero = refl
length-zeros (suc n) = ap suc (length-zeros n)

-- ---- the rule at the start

-- no word shows an entry
no_calls : (ws : List ℕ) → ((k : ℕ) → get_or ws k 0 ≡ 0) → halves ws ≡ 0
no_calls [] z = refl
no_calls (w ∷ ws) z = let a = z 0 in let b = no_calls ws (λ k. z (suc k)) in omega arith

-- no call was made, and every shard is free
pub opens : (ws : List ℕ) (xs : List Kept) → length ws ≡ length xs → ((k : ℕ) → get_or ws k 0 ≡ 0) → ((k : ℕ) → k < length xs → get_elem? (map some xs) k ≡ some (some (kept k (length xs) []))) → length (map some xs) ≡ length xs
    → StoreRule (opening ws xs (Root [] []))
opens ws xs wide zeros shards long = record {
  histories = λ _. [];
  places = λ _. free;
  calls = λ _. [];
  seats = λ _. 0;
  wide = wide ∙ sym long;
  beyond = λ _ _. (refl, refl);
  each_shard = λ k lt. record { shows = zeros k; lies = subst (λ (m : ℕ). get_elem? (map some xs) k ≡ some (some (kept k m []))) (sym long) (shards k (omega arith)); sound = record { replay = tt; place = tt; stamps = tt; fits = tt }; last = omega arith };
  each_connection = λ c. record { own_at = λ k. refl; rises = tt; last = omega arith; few = omega arith };
  each_seat = first;
  live = λ c j e. absurd (omega arith);
  sums = let a = sum_bound 4096 0 (λ c. 0) (λ j. omega arith) in no_calls ws zeros ∙ (omega arith);
}
  where
    first : (j : ℕ) (v : View) → get_elem? (Root [] [] ∷ []) j ≡ some v → Knows (λ _. []) (λ _. free) (λ _. []) (λ _. 0) (length (map some xs)) j v
    first zero v e = subst (Knows (λ _. []) (λ _. free) (λ _. []) (λ _. 0) (length (map some xs)) 0) (some-injective _ _ e) (refl, (λ _ _. (refl, refl)), λ _ _. refl)
    first (suc j) v e = absurd (some-ne-none v (sym e))

-- the same, stated at the values that the code has
pub opens_as : (n : ℕ) (ws : List ℕ) (xs : List Kept) → ws ≡ replicate n 0 → xs ≡ empties n n → StoreRule (opening ws xs (Root [] []))
opens_as n ws xs w x =
    subst (λ (l : List ℕ). StoreRule (opening l xs (Root [] []))) (sym w)
    (subst (λ (l : List Kept). StoreRule (opening (replicate n 0) l (Root [] []))) (sym x)
    (opens (replicate n 0) (empties n n) (length-zeros n ∙ sym (length-empties n n)) (zeros n)
    (λ k lt. subst (λ (m : ℕ). get_elem? (map some (empties n n)) k ≡ some (some (kept k m []))) (sym (length-empties n n)) (in_empties n n k (let a = length-empties n n in omega arith)))
    (length-map_some (empties n n))))
