-- The bytes after the first texts.
use Rattle.std.specs.List.{concat}
use Rattle.std.proofs.Common.{◌≡◌, ℕ, ◌-◌, ◌≤◌, List, ◌++◌, length, take, drop, refl, sym, ap, ◌∙◌, arith, length-append}
use Rattle.std.proofs.lemmas.List.{take_all, drop_at}
use Rattle.zy_finish.specs.Left.{bytes_between}
use Rattle.zy_finish.proofs.CuttingLemmas.{bytes_up_to, bytes_behind}

-- the bytes before some others are no more than all
pub behind_within : (front back all : List ℕ) → all ≡ front ++ back → length front ≤ length all
behind_within front back all is = let size = ap length is in omega (arith, length-append front back)

-- the bytes after the front
pub behind_is : (front back all : List ℕ) → all ≡ front ++ back → take (length all - length front) (drop (length front) all) ≡ back
behind_is front back all is =
    let rest : drop (length front) all ≡ back = ap (drop (length front)) is ∙ drop_at front back (length front) refl in
    let size = ap length is in
    let sizes = length-append front back in
    ap (take (length all - length front)) rest ∙ take_all (length all - length front) back (omega arith)

-- the first texts up to a number are those up to a lower one, and those between
pub between_parts : (start stop : ℕ) (texts : List (List ℕ)) (low high : List ℕ) → start ≤ stop → high ≡ concat (take stop texts) → low ≡ concat (take start texts)
    → high ≡ low ++ bytes_between start stop texts
between_parts start stop texts low high rising is_high is_low =
    is_high ∙ bytes_up_to start stop texts rising ∙ ap (λ (front : List ℕ). front ++ bytes_between start stop texts) (sym is_low)

-- all texts are the first ones, and those after them
pub behind_parts : (start : ℕ) (texts : List (List ℕ)) (low all : List ℕ) → all ≡ concat texts → low ≡ concat (take start texts) → all ≡ low ++ concat (drop start texts)
behind_parts start texts low all is_all is_low =
    is_all ∙ bytes_behind start texts ∙ ap (λ (front : List ℕ). front ++ concat (drop start texts)) (sym is_low)
