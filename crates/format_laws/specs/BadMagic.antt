-- The byte that is wrong in a magic.
use Rattle.zy_read.specs.Magic.{magic_of}
use Rattle.std.specs.Prelude.{◌≡◌, ◌⊎◌, ℕ, ◌<◌, List, [], ◌∷◌, ◌++◌, length}

-- the bytes are the first ones of a magic
pub record BeginsMagic (letters bytes : List ℕ) : Type 0 where
  pub version : ℕ
  pub rest : List ℕ
  pub known : (version ≡ 1) ⊎ (version ≡ 2)
  pub whole : bytes ++ rest ≡ magic_of letters version

-- a byte of the first eight follows the first ones of a magic, and is the next one of none
pub record IsBadMagic (letters text : List ℕ) (at : ℕ) : Type 0 where
  pub front : List ℕ
  pub byte : ℕ
  pub rest : List ℕ
  pub whole : text ≡ front ++ byte ∷ rest
  pub place : at ≡ length front
  pub within : at < 8
  pub begins : BeginsMagic letters front
  pub differs : BeginsMagic letters (front ++ byte ∷ []) → ⊥
