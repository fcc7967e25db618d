-- The bytes with which others end.
use Rattle.std.specs.Prelude.{◌≡◌, ℕ, List, ◌++◌}

-- the bytes are the end of others
pub record IsRestOf (rest whole : List ℕ) : Type 0 where
  pub front : List ℕ
  pub is : whole ≡ front ++ rest
