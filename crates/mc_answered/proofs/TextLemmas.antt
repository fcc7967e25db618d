-- What strips and searches show of a text.
use Rattle.std.proofs.Common.{◌≡◌, ◌≢◌, ℕ, ◌+◌, ◌≤◌, List, [], ◌∷◌, ◌++◌, length, take, ap, sym, ◌∙◌, subst, arith, append_assoc, Bor}
use Rattle.std.specs.Prelude.{Option, None, Some, MatchOption, option_copied, true}
use Rattle.std.specs.List.{list_all}
use Rattle.std.proofs.Math.Seq.{take-append_seam}
use Rattle.std.proofs.lemmas.List.{append_cancel_left, length-append}
use Rattle.mc_reply.specs.Text.{line_end}
use Rattle.mc_answers.specs.Cut.{IsLine, is_no_feed}
use Rattle.mc_answers.specs.Kinds.{IsLineWith}
use Rattle.mc_answered.specs.Reading.{after_front, Halves, halves_at}
use Rattle.mc_answered.specs.With.{Begins}
use Rattle.mc_answered.proofs.ReadingLemmas.{after_front-is, after_front-none, after_front-some, halves_at-some, halves_at-none}

-- what a strip of a front shows
pub stripped : (text front : List ℕ) (r : Option (Bor (List ℕ))) → MatchOption r ((rest : List ℕ) → text ≢ front ++ rest) (λ x. text ≡ front ++ x.now) → option_copied r ≡ after_front front text
stripped text front None never = sym (after_front-none front text never)
stripped text front (Some x) is = sym (subst (λ (t : List ℕ). after_front front t ≡ Some x.now) (sym is) (after_front-is front x.now))

-- a text at the beginning
pub begins : (bytes text more : List ℕ) → bytes ≡ text ++ more → Begins bytes text
begins bytes text more is = ap (take (length text)) is ∙ take-append_seam text more

pub begins_within : (bytes text more : List ℕ) → bytes ≡ text ++ more → length text ≤ length bytes
begins_within bytes text more is = let e : length bytes ≡ length text + length more = ap length is ∙ length-append text more in omega (arith, e)

-- ---- the first line

pub record FirstLine (bytes : List ℕ) (n : ℕ) : Type 0 where
  pub within : n ≤ length bytes
  pub line : IsLine (take n bytes)

line_length : (front : List ℕ) → length (front ++ 10 ∷ []) ≡ length front + 1
line_length front = length-append front (10 ∷ [])

pub first_line : (bytes : List ℕ) (h : Halves) → halves_at 10 bytes ≡ Some h → FirstLine bytes (length h.front + 1)
first_line bytes h there =
    let found = halves_at-some 10 bytes h there in
    let is : bytes ≡ (h.front ++ 10 ∷ []) ++ h.rest = found.is ∙ sym (append_assoc h.front (10 ∷ []) h.rest) in
    let long = line_length h.front in
    record {
      within = subst (λ (n : ℕ). n ≤ length bytes) long (begins_within bytes (h.front ++ 10 ∷ []) h.rest is);
      line = subst (λ (n : ℕ). IsLine (take n bytes)) long (record { body = h.front; inner = found.none; is = begins bytes (h.front ++ 10 ∷ []) h.rest is });
    }

pub no_line : (bytes : List ℕ) → halves_at 10 bytes ≡ None → list_all is_no_feed bytes ≡ true
no_line bytes none = halves_at-none 10 bytes none

-- ---- lines with a front

pub line_with : (front line rest before : List ℕ) → IsLine line → after_front front line ≡ Some rest → rest ≡ before ++ line_end → IsLineWith front line
line_with front line rest before is there ends = record { line = is; rest = before; is = after_front-some front line rest there ∙ ap (λ (t : List ℕ). front ++ t) ends }

pub line_with_rest : (front line rest : List ℕ) → after_front front line ≡ Some rest → (one : IsLineWith front line) → rest ≡ one.rest ++ line_end
line_with_rest front line rest there one = append_cancel_left front rest (one.rest ++ line_end) (sym (after_front-some front line rest there) ∙ one.is)

pub line_with_none : (front line : List ℕ) → after_front front line ≡ None → IsLineWith front line → ⊥
line_with_none front line none one =
    let there : after_front front line ≡ Some (one.rest ++ line_end) = subst (λ (t : List ℕ). after_front front t ≡ Some (one.rest ++ line_end)) (sym one.is) (after_front-is front (one.rest ++ line_end)) in
    absurd (let e = sym none ∙ there in cc)

-- a text that a strip found
pub copied_is : (text front : List ℕ) (r : Option (Bor (List ℕ))) (x : Bor (List ℕ)) → MatchOption r ((rest : List ℕ) → text ≢ front ++ rest) (λ x. text ≡ front ++ x.now) → r ≡ Some x → text ≡ front ++ x.now
copied_is text front None x is same = absurd (cc)
copied_is text front (Some y) x is same = let e : y ≡ x = cc in subst (λ (z : Bor (List ℕ)). text ≡ front ++ z.now) e is
