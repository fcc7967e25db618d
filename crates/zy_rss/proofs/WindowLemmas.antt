-- The table of windows holds the key's 32 bits from each place on.
use Rattle.std.proofs.Common.{◌≡◌, ℕ, zero, suc, ◌+◌, ◌<◌, List, [], ◌∷◌, get_or, refl, ap, ◌∙◌, add-one, arith}
use Rattle.std.specs.Prelude.{bit_xor}
use Rattle.zy_rss.specs.declared.windows.TheConstants.{WINDOWS}
use Rattle.zy_rss.specs.Toeplitz.{window, hash_of_first, term}

windows_from : ℕ → ℕ → List ℕ
windows_from place zero = []
windows_from place (suc count) = window place ∷ windows_from (place + 1) count

windows_at : (place count i : ℕ) → i < count → get_or (windows_from place count) i 0 ≡ window (place + i)
unfolding windows_from
windows_at place zero i within = absurd (omega (arith, within))
windows_at place (suc count) zero within = ap window (omega arith)
windows_at place (suc count) (suc i) within = windows_at (place + 1) count i (omega (arith, within)) ∙ ap window (omega arith)

table_is : WINDOWS.now ≡ windows_from 0 96
unfolding windows_from window
table_is = refl

pub window_at : (place : ℕ) → place < 96 → get_or WINDOWS.now place 0 ≡ window place
window_at place within = ap (λ (l : List ℕ). get_or l place 0) table_is ∙ windows_at 0 96 place within ∙ ap window (omega arith)

pub one_more : (input : List ℕ) (place hash added : ℕ) → hash ≡ hash_of_first input place → added ≡ term input place → bit_xor hash added ≡ hash_of_first input (place + 1)
unfolding hash_of_first
one_more input place hash added so_far here = rw (add-one place, so_far, here) refl
