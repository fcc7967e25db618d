-- The first text of a retrieval's answer: an item, or the end. No public clause cites this module.
use Rattle.std.specs.Prelude.{◌≡◌, ◌⊎◌, ℕ, ◌≤◌, Bool, List, length, take, ⊤}
use Rattle.zy_base.specs.Limits.{value_limit}
use Rattle.mc_reply.specs.Text.{line}
use Rattle.mc_answers.specs.Cut.{IsWord, IsOfLine}
use Rattle.mc_answers.specs.Kinds.{IsItemText, IsEndText, IsErrorLine}
use Rattle.mc_kind.specs.declared.piece.Piece.{Piece}
use Rattle.mc_kind.specs.declared.piece.Piece.TheVariants.{Item, End, Refused, Unread}
use Rattle.mc_kind.specs.First.{NoneFits}

-- no byte of the key separates words or ends a line
pub record IsKeyWord (key : List ℕ) : Type 0 where
  pub word : IsWord key
  pub of_line : IsOfLine key

-- a value of this many bytes, within the limit, and the end of its line
pub record IsValueLine (count : ℕ) (text : List ℕ) : Type 0 where
  pub value : List ℕ
  pub long : length value ≡ count
  pub few : length value ≤ value_limit
  pub is : text ≡ line value

-- an item of one of these keys, or the end
abbrev pub IsItemOrEnd : Bool → List (List ℕ) → List ℕ → Type 0
IsItemOrEnd asked keys text = IsItemText asked keys text ⊎ IsEndText text

-- what is found of the first text
abbrev pub IsPiece : Bool → List (List ℕ) → List ℕ → Piece → Type 0
IsPiece asked keys bytes (Item n) = (n ≤ length bytes) × IsItemText asked keys (take n bytes)
IsPiece asked keys bytes (End n) = (n ≤ length bytes) × IsEndText (take n bytes)
IsPiece asked keys bytes Refused = NoneFits (IsItemOrEnd asked keys) bytes × (IsErrorLine bytes → ⊥)
IsPiece asked keys bytes Unread = ⊤
