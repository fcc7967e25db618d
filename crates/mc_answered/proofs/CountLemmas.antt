-- Lines of counts, one after another.
use Rattle.std.proofs.Common.{◌≡◌, ℕ, ◌+◌, ◌≤◌, List, [], ◌∷◌, ◌++◌, length, take, drop, refl, ap, sym, ◌∙◌, append_assoc}
use Rattle.std.specs.Prelude.{codes}
use Rattle.std.specs.List.{concat, AllByRecursion}
use Rattle.std.proofs.lemmas.List.{append-nil}
use Rattle.mc_reply.specs.Text.{line}
use Rattle.mc_answers.specs.Answer.{IsCounts}
use Rattle.mc_answers.specs.Kinds.{IsLineWith}
use Rattle.mc_answered.proofs.FoundLemmas.{found_two}

-- the bytes so far are lines of counts
pub record AreCounted (bytes : List ℕ) (at : ℕ) : Type 0 where
  pub items : List (List ℕ)
  pub each : AllByRecursion (IsLineWith (codes "STAT ")) items
  pub is : take at bytes ≡ concat items
  pub low : at ≤ length bytes

joined_push : (items : List (List ℕ)) (item : List ℕ) → concat (items ++ item ∷ []) ≡ concat items ++ item
joined_push [] item = append-nil item
joined_push (i ∷ items) item = ap (λ (t : List ℕ). i ++ t) (joined_push items item) ∙ sym (append_assoc i (concat items) item)

all_push : (P : List ℕ → Type 0) (items : List (List ℕ)) (item : List ℕ) → AllByRecursion P items → P item → AllByRecursion P (items ++ item ∷ [])
all_push P [] item each one = (one, tt)
all_push P (i ∷ items) item each one = (each.0, all_push P items item each.1 one)

pub one_counted : (bytes rest : List ℕ) (at n : ℕ) → AreCounted bytes at → rest ≡ drop at bytes → n ≤ length rest → IsLineWith (codes "STAT ") (take n rest) → AreCounted bytes (at + n)
one_counted bytes rest at n so after low one =
    let both = found_two bytes at n (concat so.items) (take n rest) rest so.low so.is after low refl in
    record {
      items = so.items ++ take n rest ∷ [];
      each = all_push (IsLineWith (codes "STAT ")) so.items (take n rest) so.each one;
      is = both.is ∙ sym (joined_push so.items (take n rest));
      low = both.low;
    }

pub all_counted : (bytes rest : List ℕ) (at n : ℕ) → AreCounted bytes at → rest ≡ drop at bytes → n ≤ length rest → take n rest ≡ line (codes "END") → (at + n ≤ length bytes) × IsCounts (take (at + n) bytes)
all_counted bytes rest at n so after low is =
    let both = found_two bytes at n (concat so.items) (line (codes "END")) rest so.low so.is after low is in
    (both.low, record { items = so.items; last = line (codes "END"); each = so.each; «end» = refl; is = both.is })
