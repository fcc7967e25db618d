-- A part of bytes that are a part of others.
use Rattle.std.proofs.Common.{◌≡◌, ℕ, ◌+◌, ◌-◌, ◌≤◌, List, length, take, drop, take-take, sym, ◌∙◌, ap, arith}
use Rattle.std.proofs.lemmas.List.{drop-take, drop-drop, length-take}

-- a part of a part is a part of the whole
pub part_of_part : (items : List ℕ) (start len from end : ℕ) → from ≤ end → end ≤ length (take len (drop start items))
    → take (start + end - (start + from)) (drop (start + from) items) ≡ take (end - from) (drop from (take len (drop start items)))
part_of_part items start len from end order within =
    let short : end ≤ len = omega (arith, within, length-take len (drop start items)) in
    let size : start + end - (start + from) ≡ end - from = omega arith in
    let all : len ≡ from + (len - from) = omega arith in
    let less : end - from ≤ len - from = omega arith in
    ap (λ (n : ℕ). take n (drop (start + from) items)) size
    ∙ ap (λ (l : List ℕ). take (end - from) l) (sym (drop-drop from start items))
    ∙ sym (take-take (end - from) (len - from) (drop from (drop start items)) less)
    ∙ ap (λ (l : List ℕ). take (end - from) l) (sym (drop-take from (len - from) (drop start items)) ∙ ap (λ (n : ℕ). drop from (take n (drop start items))) (sym all))
