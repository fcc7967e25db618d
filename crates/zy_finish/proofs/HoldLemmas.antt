-- The holds of connections, those of each after those of the connections before it, span their
-- commands.
use Rattle.std.specs.Prelude.{flat_map}
use Rattle.std.specs.List.{range_with_len}
use Rattle.std.proofs.Common.{◌≡◌, inl, inr, ℕ, zero, suc, ◌+◌, ◌<◌, ◌≤◌, List, [], ◌∷◌, ◌++◌, length, refl, sym, ap, ◌∙◌, arith}
use Rattle.std.proofs.lemmas.Bool.Decides.{eqb_tells}
use mathlib.Core.Logic.{dite}
use native.Mathlib.Decide.{ℕ_discrete}
use Rattle.mc_calls.specs.declared.hold.Hold.{Hold}
use Rattle.mc_parse.specs.declared.command.Command.{Command}
use Rattle.zy_journal.specs.Journal.{AreByConnection}
use Rattle.zy_run.specs.Spans.{held_of, AreHoldsOf, Spans}
use Rattle.mc_calls.specs.Held.{held_in}
use Rattle.zy_finish.specs.Left.{AreOf}

-- ---- two lists of holds

held_of-append : (conn : ℕ) (xs ys : List Hold) → held_of conn (xs ++ ys) ≡ held_of conn xs + held_of conn ys
held_of-append conn [] ys = omega arith
held_of-append conn (x ∷ xs) ys =
    elim (eqb_tells x.conn conn) [
      | inl same ↦ rw same.0 (omega (arith, held_of-append conn xs ys))
      | inr other ↦ rw other.0 (held_of-append conn xs ys)
    ]

are_of_append : (count : ℕ) (xs ys : List Hold) → AreHoldsOf count xs → AreHoldsOf count ys → AreHoldsOf count (xs ++ ys)
are_of_append count [] ys front back = back
are_of_append count (x ∷ xs) ys front back = (front.0, are_of_append count xs ys front.1 back)

-- ---- the holds of one connection

held_here : (conn : ℕ) (hs : List Hold) → AreOf conn hs → held_of conn hs ≡ held_in hs
held_here conn [] are = refl
held_here conn (h ∷ hs) are =
    elim (eqb_tells h.conn conn) [
      | inl same ↦ rw same.0 (ap (λ (n : ℕ). h.count + n) (held_here conn hs are.1))
      | inr other ↦ absurd (other.1 are.0)
    ]

held_elsewhere : (conn other : ℕ) (hs : List Hold) → AreOf other hs → (other ≡ conn → ⊥) → held_of conn hs ≡ 0
held_elsewhere conn other [] are differs = refl
held_elsewhere conn other (h ∷ hs) are differs =
    elim (eqb_tells h.conn conn) [
      | inl same ↦ absurd (differs (sym are.0 ∙ same.1))
      | inr apart ↦ rw apart.0 (held_elsewhere conn other hs are.1 differs)
    ]

all_below : (count conn : ℕ) (hs : List Hold) → AreOf conn hs → conn < count → AreHoldsOf count hs
all_below count conn [] are within = tt
all_below count conn (h ∷ hs) are within = ((let is = are.0 in omega arith), all_below count conn hs are.1 within)

rise_on : (low conn : ℕ) (hs rest : List Hold) → AreOf conn hs → low ≤ conn → ((b : ℕ) → b ≤ conn + 1 → AreByConnection b rest) → AreByConnection low (hs ++ rest)
rise_on low conn [] rest are below rises = rises low (omega arith)
rise_on low conn (h ∷ hs) rest are below rises =
    ((let is = are.0 in omega arith), rise_on h.conn conn hs rest are.1 (let is = are.0 in omega arith) rises)

-- ---- the holds of connections from one on

module _ (holds : ℕ → List Hold) where
  abbrev holds_from : ℕ → ℕ → List Hold
  holds_from from count = flat_map holds (range_with_len from count)

  -- those of each connection are of no other
  abbrev AreEach : ℕ → ℕ → Type 0
  AreEach from count = (conn : ℕ) → from ≤ conn → conn < from + count → AreOf conn (holds conn)

  rising : (from count low : ℕ) → AreEach from count → low ≤ from → AreByConnection low (holds_from from count)
  rising from zero low each below = tt
  rising from (suc count) low each below =
      rise_on low from (holds from) (holds_from (from + 1) count) (each from (omega arith) (omega arith)) below
      (λ b most. rising (from + 1) count b (λ conn least within. each conn (omega arith) (omega arith)) most)

  within_all : (all from count : ℕ) → AreEach from count → from + count ≤ all → AreHoldsOf all (holds_from from count)
  within_all all from zero each most = tt
  within_all all from (suc count) each most =
      are_of_append all (holds from) (holds_from (from + 1) count) (all_below all from (holds from) (each from (omega arith) (omega arith)) (omega arith))
      (within_all all (from + 1) count (λ conn least within. each conn (omega arith) (omega arith)) (omega arith))

  before_all : (conn from count : ℕ) → AreEach from count → conn < from → held_of conn (holds_from from count) ≡ 0
  before_all conn from zero each before = refl
  before_all conn from (suc count) each before =
      let here = held_elsewhere conn from (holds from) (each from (omega arith) (omega arith)) (λ same. omega arith) in
      let later = before_all conn (from + 1) count (λ c least within. each c (omega arith) (omega arith)) (omega arith) in
      omega (arith, held_of-append conn (holds from) (holds_from (from + 1) count))

  held_all : (conn from count : ℕ) → AreEach from count → from ≤ conn → conn < from + count → held_of conn (holds_from from count) ≡ held_in (holds conn)
  held_all conn from zero each least within = absurd (omega arith)
  held_all conn from (suc count) each least within =
      dite (ℕ_discrete from conn)
      (λ same.
      let here = held_here from (holds from) (each from (omega arith) (omega arith)) in
      let later = before_all conn (from + 1) count (λ c low high. each c (omega arith) (omega arith)) (omega arith) in
      let first : held_of conn (holds from) ≡ held_in (holds conn) = (λ i. held_of (sym same i) (holds from)) ∙ here ∙ (λ i. held_in (holds (same i))) in
      omega (arith, held_of-append conn (holds from) (holds_from (from + 1) count)))
      (λ differs.
      let here = held_elsewhere conn from (holds from) (each from (omega arith) (omega arith)) differs in
      let later = held_all conn (from + 1) count (λ c low high. each c (omega arith) (omega arith)) (omega arith) (omega arith) in
      omega (arith, held_of-append conn (holds from) (holds_from (from + 1) count)))

-- the holds of the first `count` connections span their commands
pub spans : (count : ℕ) (holds : ℕ → List Hold) (commands : ℕ → List Command)
    → ((conn : ℕ) → conn < count → AreOf conn (holds conn)) → ((conn : ℕ) → conn < count → held_in (holds conn) ≡ length (commands conn))
    → Spans (flat_map holds (range_with_len 0 count)) count commands
spans count holds commands each sums = record {
  rising = rising holds 0 count 0 (λ conn least within. each conn (omega arith)) (omega arith);
  connections = within_all holds count 0 count (λ conn least within. each conn (omega arith)) (omega arith);
  counts = λ conn within. held_all holds conn 0 count (λ c least inside. each c (omega arith)) (omega arith) (omega arith) ∙ sums conn within;
}
