-- The bytes that a source held at first, from those that it gave; and the rest of a piece.
use Rattle.std.proofs.Common.{◌≡◌, ℕ, ◌+◌, ◌-◌, ◌≤◌, List, [], ◌++◌, length, take, drop, refl, sym, ◌∙◌, ap, subst, arith, length-drop}
use Rattle.std.specs.Prelude.{Option, None, Some, IfSome}
use Rattle.std.specs.Io.KnownBytes.{Consumes, IsAtEnd}
use Rattle.std.proofs.lemmas.List.{append-nil, drop-take, drop-drop, length-take-le}

-- ---- the bytes of a source

-- at first it gave nothing
pub consumed_none : (a : Option (List ℕ)) → Consumes a a []
consumed_none None = tt
consumed_none (Some u) = refl

-- what is true of all longer texts is true of the bytes of the source
pub told_first : (before after : Option (List ℕ)) (bytes : List ℕ) (P : List ℕ → Type 0) → Consumes before after bytes → ((more : List ℕ) → P (bytes ++ more)) → IfSome before P
told_first None after bytes P consumed all = tt
told_first (Some u) None bytes P consumed all = absurd consumed
told_first (Some u) (Some v) bytes P consumed all = subst P (sym consumed) (all v)

-- a source that is at its end held these bytes
pub told_all : (before after : Option (List ℕ)) (bytes : List ℕ) (P : List ℕ → Type 0) → Consumes before after bytes → IsAtEnd after → P bytes → IfSome before P
told_all None after bytes P consumed end holds = tt
told_all (Some u) None bytes P consumed end holds = absurd consumed
told_all (Some u) (Some v) bytes P consumed end holds = subst P (sym (consumed ∙ ap (λ (l : List ℕ). bytes ++ l) end ∙ append-nil bytes)) holds

-- ---- pieces

-- what is left of a piece after its first bytes
pub piece_on : (piece left : List ℕ) (at end count : ℕ) → left ≡ take (end - at) (drop at piece) → count ≤ length left → at ≤ end → end ≤ length piece → take (end - (at + count)) (drop (at + count) piece) ≡ drop count left
piece_on piece left at end count is few rising within =
    let size : length left ≡ end - at = ap length is ∙ length-take-le (end - at) (drop at piece) (let dropped = length-drop at piece in omega arith) in
    let all : end - at ≡ count + (end - (at + count)) = omega arith in
    sym (ap (λ (l : List ℕ). drop count l) is ∙ ap (λ (n : ℕ). drop count (take n (drop at piece))) all ∙ drop-take count (end - (at + count)) (drop at piece) ∙ ap (λ (l : List ℕ). take (end - (at + count)) l) (drop-drop count at piece))

-- a part of what is left of a piece, in a copy of the piece
pub part_of_left : (copy piece left : List ℕ) (at end from to : ℕ) → copy ≡ take end piece → take (end - at) (drop at piece) ≡ left → at ≤ end → take (at + to - (at + from)) (drop (at + from) copy) ≡ take (to - from) (drop from left)
part_of_left copy piece left at end from to same is rising =
    let size : at + to - (at + from) ≡ to - from = omega arith in
    let all : end ≡ at + (end - at) = omega arith in
    let rest : drop at copy ≡ left = ap (λ (l : List ℕ). drop at l) same ∙ ap (λ (n : ℕ). drop at (take n piece)) all ∙ drop-take at (end - at) piece ∙ is in
    ap (λ (n : ℕ). take n (drop (at + from) copy)) size ∙ ap (λ (l : List ℕ). take (to - from) l) (sym (drop-drop from at copy) ∙ ap (λ (l : List ℕ). drop from l) rest)
