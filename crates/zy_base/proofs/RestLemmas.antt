-- The places of bytes with which others end.
use Rattle.std.proofs.Common.{◌≡◌, ℕ, ◌+◌, ◌-◌, ◌≤◌, List, ◌++◌, length, take, drop, sym, ◌∙◌, ap, arith, append_assoc, length-append}
use Rattle.std.proofs.lemmas.List.{take-append-drop}
use Rattle.std.proofs.Math.Seq.{take-append_seam, drop-append_seam}
use Rattle.zy_base.specs.Rest.{IsRestOf}

-- what is left after some first bytes
pub rest_after : (from : ℕ) (whole : List ℕ) → IsRestOf (drop from whole) whole
rest_after from whole = record { front = take from whole; is = sym (take-append-drop from whole) }

-- what is left after some first bytes of these
pub rest_on : (front rest whole : List ℕ) → IsRestOf (front ++ rest) whole → IsRestOf rest whole
rest_on front rest whole of = record { front = of.front ++ front; is = of.is ∙ sym (append_assoc of.front front rest) }

-- they are no more
pub rest_length : (rest whole : List ℕ) → IsRestOf rest whole → length rest ≤ length whole
rest_length rest whole of = omega (arith, ap length of.is, length-append of.front rest)

-- they begin at their place
pub rest_at : (rest whole : List ℕ) → IsRestOf rest whole → drop (length whole - length rest) whole ≡ rest
rest_at rest whole of =
    let place : length whole - length rest ≡ length of.front = omega (arith, ap length of.is, length-append of.front rest) in
    ap (λ (n : ℕ). drop n whole) place ∙ ap (λ (l : List ℕ). drop (length of.front) l) of.is ∙ drop-append_seam of.front rest

-- some first ones of them, by their places
pub rest_first : (rest whole : List ℕ) (len : ℕ) → IsRestOf rest whole
    → take (length whole - length rest + len - (length whole - length rest)) (drop (length whole - length rest) whole) ≡ take len rest
rest_first rest whole len of =
    let size : length whole - length rest + len - (length whole - length rest) ≡ len = omega arith in
    ap (λ (n : ℕ). take n (drop (length whole - length rest) whole)) size ∙ ap (λ (l : List ℕ). take len l) (rest_at rest whole of)

-- what comes before what is left, by its places
pub rest_word : (word rest whole : List ℕ) → IsRestOf (word ++ rest) whole
    → take (length whole - length rest - (length whole - length rest - length word)) (drop (length whole - length rest - length word) whole) ≡ word
rest_word word rest whole of =
    let within = rest_length (word ++ rest) whole of in
    let size : length whole - length rest - (length whole - length rest - length word) ≡ length word = omega (arith, within, length-append word rest) in
    let place : length whole - length rest - length word ≡ length whole - length (word ++ rest) = omega (arith, within, length-append word rest) in
    ap (λ (n : ℕ). take n (drop (length whole - length rest - length word) whole)) size
    ∙ ap (λ (n : ℕ). take (length word) (drop n whole)) place
    ∙ ap (λ (l : List ℕ). take (length word) l) (rest_at (word ++ rest) whole of)
    ∙ take-append_seam word rest
