-- Texts of numbered things, written one after another.
use Rattle.std.proofs.Common.{◌≡◌, ℕ, zero, suc, ◌+◌, ◌<◌, ◌≤◌, List, [], ◌∷◌, ◌++◌, length, take, drop, get_or, add-one, refl, sym, ◌∙◌, ap, arith, append_assoc}
use Rattle.std.specs.Prelude.{⊤, Option, Result, Ok, Err, IsErr}
use Rattle.std.proofs.lemmas.List.{append-nil}
use Rattle.zy_base.specs.Outside.{Writes}
use Rattle.zy_base.proofs.WritingLemmas.{Written, written_as, written_on, writes_as, writes_after, writes_cut}
use Rattle.zy_capture.specs.Replies.{numbered_from}

-- the texts up to one, and that one
pub numbered-take : {X : Type 0} (text : ℕ → X → List ℕ) (number : ℕ) (xs : List X) (i : ℕ) (d : X) → i < length xs
    → numbered_from text number (take (suc i) xs) ≡ numbered_from text number (take i xs) ++ text (number + i) (get_or xs i d)
numbered-take text number [] i d within = absurd (omega (arith, within))
numbered-take text number (x ∷ xs) zero d within = append-nil (text number x) ∙ ap (λ (n : ℕ). text n x) (omega arith)
numbered-take text number (x ∷ xs) (suc i) d within =
    ap (λ (l : List ℕ). text number x ++ l) (numbered-take text (number + 1) xs i d (omega (arith, within)))
    ∙ sym (append_assoc (text number x) (numbered_from text (number + 1) (take i xs)) (text (number + 1 + i) (get_or xs i d)))
    ∙ ap (λ (n : ℕ). (text number x ++ numbered_from text (number + 1) (take i xs)) ++ text n (get_or xs i d)) (omega arith)

-- the same from the first number on
numbered_upto : {X : Type 0} (text : ℕ → X → List ℕ) (xs : List X) (i : ℕ) (d : X) → i < length xs
    → numbered_from text 0 (take (i + 1) xs) ≡ numbered_from text 0 (take i xs) ++ text i (get_or xs i d)
numbered_upto text xs i d within =
    ap (λ (n : ℕ). numbered_from text 0 (take n xs)) (add-one i) ∙ numbered-take text 0 xs i d within
    ∙ ap (λ (n : ℕ). numbered_from text 0 (take i xs) ++ text n (get_or xs i d)) (omega arith)

-- the texts up to some place, and those from there on
numbered_split : {X : Type 0} (text : ℕ → X → List ℕ) (number : ℕ) (xs : List X) (i : ℕ) → i ≤ length xs
    → numbered_from text number (take i xs) ++ numbered_from text (number + i) (drop i xs) ≡ numbered_from text number xs
numbered_split text number [] zero within = refl
numbered_split text number [] (suc i) within = absurd (omega (arith, within))
numbered_split text number (x ∷ xs) zero within = ap (λ (n : ℕ). numbered_from text n (x ∷ xs)) (omega arith)
numbered_split text number (x ∷ xs) (suc i) within =
    append_assoc (text number x) (numbered_from text (number + 1) (take i xs)) (numbered_from text (number + suc i) (drop i xs))
    ∙ ap (λ (n : ℕ). text number x ++ (numbered_from text (number + 1) (take i xs) ++ numbered_from text n (drop i xs))) (omega arith)
    ∙ ap (λ (l : List ℕ). text number x ++ l) (numbered_split text (number + 1) xs i (omega (arith, within)))

-- the texts are those before one of them, that one, and those after it
numbered_parts : {X : Type 0} (text : ℕ → X → List ℕ) (xs : List X) (i : ℕ) (d : X) → i < length xs
    → numbered_from text 0 (take i xs) ++ (text i (get_or xs i d) ++ numbered_from text (0 + (i + 1)) (drop (i + 1) xs)) ≡ numbered_from text 0 xs
numbered_parts text xs i d within =
    sym (append_assoc (numbered_from text 0 (take i xs)) (text i (get_or xs i d)) (numbered_from text (0 + (i + 1)) (drop (i + 1) xs)))
    ∙ ap (λ (l : List ℕ). l ++ numbered_from text (0 + (i + 1)) (drop (i + 1) xs)) (sym (numbered_upto text xs i d within))
    ∙ numbered_split text 0 xs (i + 1) (omega (arith, within))

module _ {K E X : Type 0} {holds : K → Option (List ℕ)} {faults finishes : K → ℕ} {old between new : K} (text : ℕ → X → List ℕ) (xs : List X) (i : ℕ) (d : X) where
  -- one of the texts failed after those before it were written
  pub numbered_failed : {result : Result ⊤ E} {e : E} → IsErr result → i < length xs → Written holds faults finishes old between (numbered_from text 0 (take i xs))
      → Writes holds faults finishes between new (Err e) (text i (get_or xs i d)) → Writes holds faults finishes old new result (numbered_from text 0 xs)
  numbered_failed refused within front here =
      writes_as (numbered_parts text xs i d within) (writes_after front (writes_cut _ refused here))

  -- one further text was written
  pub numbered_on : {u : ⊤} → i < length xs → Written holds faults finishes old between (numbered_from text 0 (take i xs))
      → Writes {E = E} holds faults finishes between new (Ok u) (text i (get_or xs i d)) → Written holds faults finishes old new (numbered_from text 0 (take (i + 1) xs))
  numbered_on within front here = written_as (sym (numbered_upto text xs i d within)) (written_on front here)
