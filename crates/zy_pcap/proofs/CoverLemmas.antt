-- Bytes at an offset.
use Rattle.std.proofs.Common.{◌≡◌, ℕ, ◌+◌, ◌-◌, ◌<◌, ◌≤◌, List, length, get_or, refl}
use Rattle.std.proofs.Common.{arith}
use Rattle.std.specs.Prelude.{Option, Some, None}
use Rattle.std.proofs.lemmas.Bool.Decides.{nat_tests}
use Rattle.zy_pcap.specs.Session.{byte_or_other}
use Rattle.zy_pcap.specs.Held.{covered}

-- ---- where they are

pub covered_in : (bytes : List ℕ) (from at : ℕ) → from ≤ at → at < from + length bytes → covered bytes from at ≡ Some (get_or bytes (at - from) 0)
covered_in bytes from at low high = grind (arith, nat_tests)

pub covered_below : (bytes : List ℕ) (from at : ℕ) → at < from → covered bytes from at ≡ None
covered_below bytes from at below = grind (arith, nat_tests)

pub covered_above : (bytes : List ℕ) (from at : ℕ) → from + length bytes ≤ at → covered bytes from at ≡ None
covered_above bytes from at above = grind (arith, nat_tests)

-- ---- the first of two

pub first_none : (byte : Option ℕ) → byte_or_other byte None ≡ byte
first_none None = refl
first_none (Some byte) = refl

pub first_assoc : (a b c : Option ℕ) → byte_or_other (byte_or_other a b) c ≡ byte_or_other a (byte_or_other b c)
first_assoc None b c = refl
first_assoc (Some a) b c = refl

-- neither of them is there
pub both_none : (a b : Option ℕ) → byte_or_other a b ≡ None → (a ≡ None) × (b ≡ None)
both_none None b none = (refl, none)
both_none (Some a) b none = cc
