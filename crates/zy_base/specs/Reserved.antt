-- Byte strings with reserved room.
use Rattle.std.specs.Prelude.{ℕ, List}

-- the bytes, and the number of further bytes for which there is room
pub record Roomy : Type 0 where
  pub bytes : List ℕ
  pub room : ℕ
