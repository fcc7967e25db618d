-- What the arguments of a program request to be read, and what is said of it before a call.
use Rattle.std.specs.Prelude.{ℕ, List, Option, ⊤, IsSomeAnd}
use Rattle.zy_input.specs.declared.stop.Refusal.{Refusal}
use Rattle.zy_shell.specs.Input.{Input, IsRefusedFor, HasInputFault, IsFaultless}

-- the arguments are invalid, or request what reads nothing, or an input of this kind
pub data Asked : Type 0 where
  Invalid : Asked
  Nothing : Asked
  Reading : Input → Asked

-- ---- what may be read

-- the arguments request an input
abbrev pub ReadsInput : Asked → Type 0
ReadsInput (Reading input) = ⊤
ReadsInput asked = ⊥

-- nothing is read: the arguments are invalid, or request what reads nothing
abbrev pub ReadsNothing : Asked → Type 0
ReadsNothing (Reading input) = ⊥
ReadsNothing asked = ⊤

-- the arguments request an input that may have this fault, and the bytes have it if they are reported
abbrev pub IsFaultOf : Asked → Option (List ℕ) → Refusal → Type 0
IsFaultOf (Reading input) reported refusal = IsRefusedFor input reported refusal
IsFaultOf asked reported refusal = ⊥

-- ---- bytes that are reported

-- the bytes are reported, and have this fault as what the arguments request
abbrev pub IsToldBad : Asked → Option (List ℕ) → Refusal → Type 0
IsToldBad (Reading input) reported refusal = IsSomeAnd reported (λ bytes. HasInputFault input refusal bytes)
IsToldBad asked reported refusal = ⊥

-- the arguments are valid, and the bytes are reported and have no fault as what they request; no bytes need be reported
-- if they request nothing
abbrev pub IsToldGood : Asked → Option (List ℕ) → Type 0
IsToldGood Invalid reported = ⊥
IsToldGood Nothing reported = ⊤
IsToldGood (Reading input) reported = IsSomeAnd reported (λ bytes. IsFaultless input bytes)
