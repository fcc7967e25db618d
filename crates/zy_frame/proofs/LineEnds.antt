-- The first line by places, and what dropping a carriage return leaves.
use Rattle.std.proofs.Common.{◌≡◌, ℕ, zero, suc, ◌+◌, ◌<◌, ◌≤◌, true, false, List, [], ◌∷◌, length, take, drop, get_or, refl, ap, arith, add-one}
use Rattle.std.specs.Prelude.{Option, None, Some, MatchOption, ◌==◌, if◌then◌else◌, Bool}
use Rattle.std.proofs.lemmas.Bool.{eq-eqb, ne_eqb}
use Rattle.std.proofs.lemmas.Bool.Decides.{nat_tests}
use Rattle.memchr.specs.Find.{IsFirstByte, is_byte}
use Rattle.zy_frame.specs.Line.{first_line, begun_by, chomped, carriage_return}
use Rattle.zy_frame.proofs.LineLemmas.{ended}

-- ---- the first line feed

no_line : (bytes : List ℕ) → ((k : ℕ) → k < length bytes → get_or bytes k 0 ≡ 10 → ⊥) → first_line bytes ≡ None
no_line [] none = refl
no_line (byte ∷ bytes) none =
    rw (ne_eqb byte 10 (none 0 (omega arith))) (ap (begun_by byte) (no_line bytes (λ k lt is. none (suc k) (omega arith) is)))

line_at : (bytes : List ℕ) (at : ℕ) → at < length bytes → get_or bytes at 0 ≡ 10 → ((k : ℕ) → k < at → get_or bytes k 0 ≡ 10 → ⊥)
    → first_line bytes ≡ Some (ended (take at bytes) (drop (suc at) bytes))
line_at [] at within is none = absurd (omega arith)
line_at (byte ∷ bytes) zero within is none = rw (eq-eqb byte 10 is) refl
line_at (byte ∷ bytes) (suc at) within is none =
    rw (ne_eqb byte 10 (none 0 (omega arith))) (ap (begun_by byte) (line_at bytes at (omega arith) is (λ k lt there. none (suc k) (omega arith) there)))

passes : (byte : ℕ) → byte ≡ 10 → is_byte 10 byte ≡ true
passes byte is = grind (arith, nat_tests)

is_feed : (byte : ℕ) → is_byte 10 byte ≡ true → byte ≡ 10
is_feed byte is = grind (arith, nat_tests)

-- what a search for a line feed finds
pub found_line : (bytes : List ℕ) (found : Option ℕ) → IsFirstByte (is_byte 10) bytes found
    → MatchOption found (first_line bytes ≡ None) (λ at. (at < length bytes) × (first_line bytes ≡ Some (ended (take at bytes) (drop (at + 1) bytes))))
found_line bytes None nowhere = no_line bytes (λ k lt is. nowhere k (omega arith) lt (passes _ is))
found_line bytes (Some at) (first, here) = (
  first.high,
  rw (add-one at) (line_at bytes at first.high (is_feed _ here) (λ k lt is. first.before k (omega arith) lt (passes _ is))),
)

-- ---- the carriage return

pub chomped-empty : (line : List ℕ) → length line ≡ 0 → line ≡ chomped line
chomped-empty [] is = refl
chomped-empty (byte ∷ bytes) is = absurd (omega arith)

pub chomped-other : (line : List ℕ) (last : ℕ) → last + 1 ≡ length line → (get_or line last 0 ≡ 13 → ⊥) → line ≡ chomped line
chomped-other [] last is other = refl
chomped-other (byte ∷ []) zero is other = rw (ne_eqb byte 13 other) refl
chomped-other (byte ∷ []) (suc last) is other = absurd (omega arith)
chomped-other (byte ∷ next ∷ bytes) zero is other = absurd (omega arith)
chomped-other (byte ∷ next ∷ bytes) (suc last) is other = ap (λ (l : List ℕ). byte ∷ l) (chomped-other (next ∷ bytes) last (omega arith) other)

pub chomped-return : (line : List ℕ) (last : ℕ) → last + 1 ≡ length line → get_or line last 0 ≡ 13 → take last line ≡ chomped line
chomped-return [] last is return = absurd (omega arith)
chomped-return (byte ∷ []) zero is return = rw (eq-eqb byte 13 return) refl
chomped-return (byte ∷ []) (suc last) is return = absurd (omega arith)
chomped-return (byte ∷ next ∷ bytes) zero is return = absurd (omega arith)
chomped-return (byte ∷ next ∷ bytes) (suc last) is return = ap (λ (l : List ℕ). byte ∷ l) (chomped-return (next ∷ bytes) last (omega arith) return)

last_by : (test : Bool) (byte : ℕ) → (byte == carriage_return) ≡ test → take (length (if test then [] else byte ∷ [])) (byte ∷ []) ≡ (if test then [] else byte ∷ [])
last_by true byte is = refl
last_by false byte is = refl

-- the front of the line, as long as it
pub chomped-take : (line : List ℕ) → take (length (chomped line)) line ≡ chomped line
chomped-take [] = refl
chomped-take (byte ∷ []) = last_by (byte == carriage_return) byte refl
chomped-take (byte ∷ next ∷ bytes) = ap (λ (l : List ℕ). byte ∷ l) (chomped-take (next ∷ bytes))

short_by : (test : Bool) (byte : ℕ) → length (if test then [] else byte ∷ []) ≤ 1
short_by true byte = omega arith
short_by false byte = omega arith

-- no longer than the line
pub length-chomped : (line : List ℕ) → length (chomped line) ≤ length line
length-chomped [] = omega arith
length-chomped (byte ∷ []) = short_by (byte == carriage_return) byte
length-chomped (byte ∷ next ∷ bytes) = omega (arith, length-chomped (next ∷ bytes))

gap_by : (test : Bool) (byte : ℕ) → 1 ≤ length (if test then [] else byte ∷ []) + 1
gap_by true byte = omega arith
gap_by false byte = omega arith

-- at most one byte shorter
pub length-chomped_gap : (line : List ℕ) → length line ≤ length (chomped line) + 1
length-chomped_gap [] = omega arith
length-chomped_gap (byte ∷ []) = gap_by (byte == carriage_return) byte
length-chomped_gap (byte ∷ next ∷ bytes) = omega (arith, length-chomped_gap (next ∷ bytes))
