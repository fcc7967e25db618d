-- The last word of a list, and what follows a name.
use Rattle.std.proofs.Common.{◌≡◌, ℕ, zero, suc, ◌+◌, Bool, true, false, not, ◌&&◌, if◌then◌else◌, List, [], ◌∷◌, length, take, get_or, refl, ap, arith}
use Rattle.std.specs.Prelude.{None, Some}
use Rattle.std.specs.Borrow.{Bor}
use Rattle.mc_parse.specs.Words.{is_noreply}
use Rattle.mc_parse.specs.Line.{texts}
use Rattle.mc_parse.specs.Arity.{ends_in_noreply, but_last, following}

-- ---- the last word

-- the last word decides whether the words end in noreply
pub ends-last : (words : List (Bor (List ℕ))) (at : ℕ) (d : Bor (List ℕ)) → at + 1 ≡ length words → is_noreply (get_or words at d).now ≡ ends_in_noreply (texts words)
ends-last [] at d is = absurd (omega arith)
ends-last (word ∷ []) zero d is = refl
ends-last (word ∷ []) (suc at) d is = absurd (omega arith)
ends-last (word ∷ next ∷ words) zero d is = absurd (omega arith)
ends-last (word ∷ next ∷ words) (suc at) d is = ends-last (next ∷ words) at d (omega arith)

-- the words but the last are the first words, one fewer
pub but_last-take : (words : List (Bor (List ℕ))) (n : ℕ) → n + 1 ≡ length words → but_last (texts words) ≡ texts (take n words)
but_last-take [] n is = absurd (omega arith)
but_last-take (word ∷ []) zero is = refl
but_last-take (word ∷ []) (suc n) is = absurd (omega arith)
but_last-take (word ∷ next ∷ words) zero is = absurd (omega arith)
but_last-take (word ∷ next ∷ words) (suc n) is = ap (λ (rest : List (List ℕ)). word.now ∷ rest) (but_last-take (next ∷ words) n (omega arith))

-- ---- what follows a name

pub both : (a b : Bool) → a && b ≡ true → (a ≡ true) × (b ≡ true)
both true b is = (refl, is)
both false b is = absurd (cc)

pub follows_by : (has lacks asks : Bool) (words front : List (List ℕ)) → has ≡ true → lacks ≡ false → asks ≡ true → but_last words ≡ front
    → (if has && not lacks then Some (following words asks) else None) ≡ Some (record { words = front; quiet = true })
follows_by has lacks asks words front h l a is = rw (h, l, a) (ap (λ (ws : List (List ℕ)). Some (record { words = ws; quiet = true })) is)
