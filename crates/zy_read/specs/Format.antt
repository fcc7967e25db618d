-- A format whose texts are read byte after byte: the step at each byte, what is read of a text, and
-- the verdict on it.
use Rattle.std.specs.Prelude.{◌≡◌, ℕ, List, [], ◌∷◌, ◌++◌, Option, None, Some, option_to_list}

-- ---- a format

-- what a byte does: where it leads, and the record that it ends
pub record Step (P G : Type 0) : Type 0 where
  pub next : P
  pub gave : Option G

-- a format: where a text begins, what a byte does, the fault met up to some place, the verdict on a text that
-- ends there and gave some records, and the verdict on a text with a fault
pub record Format (P G F V : Type 0) : Type 0 where
  pub start : P
  pub step : P → ℕ → Step P G
  pub fault_in : P → Option F
  pub ended : P → List G → V
  pub bad : F → V

-- the first fault counts: after it no byte changes anything, and it is the verdict
pub record IsLasting {P G F V : Type 0} (format : Format P G F V) : Type 0 where
  pub still : (p : P) (byte : ℕ) (fault : F) → format.fault_in p ≡ Some fault
      → format.step p byte ≡ record { next = p; gave = None }
  pub counts : (p : P) (given : List G) (fault : F) → format.fault_in p ≡ Some fault
      → format.ended p given ≡ format.bad fault

-- ---- a text

-- what was read of a text: the records that are whole, and how far it was read
pub record Reading (P G : Type 0) : Type 0 where
  pub given : List G
  pub last : P

-- what was read, with a record in front
abbrev pub with_front : {P G : Type 0} → Option G → Reading P G → Reading P G
with_front gave reading = record { given = option_to_list gave ++ reading.given; last = reading.last }

-- what is read of the rest of a text, by what each byte does
unfoldable pub read_on : {P G : Type 0} → (P → ℕ → Step P G) → P → List ℕ → Reading P G
read_on step p [] = record { given = []; last = p }
read_on step p (byte ∷ bytes) = with_front (step p byte).gave (read_on step (step p byte).next bytes)

-- what is read of a text
unfoldable pub reading_of : {P G F V : Type 0} → Format P G F V → List ℕ → Reading P G
reading_of format text = read_on format.step format.start text

-- the records that are whole in a text, before its first fault
unfoldable pub given_by : {P G F V : Type 0} → Format P G F V → List ℕ → List G
given_by format text = (reading_of format text).given

-- the fault that was met in a text; the end of the text is not a fault here
unfoldable pub fault_met : {P G F V : Type 0} → Format P G F V → List ℕ → Option F
fault_met format text = format.fault_in (reading_of format text).last

-- the verdict on a whole text
unfoldable pub verdict_on : {P G F V : Type 0} → Format P G F V → List ℕ → V
verdict_on format text = format.ended (reading_of format text).last (reading_of format text).given
