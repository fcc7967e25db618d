-- The kinds of text that answers are made of.
use Rattle.std.specs.Prelude.{◌≡◌, ◌⊎◌, ℕ, ◌^◌, ◌<◌, ◌≤◌, Bool, List, ◌++◌, length, codes, decimal, Some}
use Rattle.std.specs.List.{Contains}
use Rattle.zy_base.specs.Limits.{value_limit}
use Rattle.mc_reply.specs.Text.{line, line_end, item_line}
use Rattle.mc_reply.specs.MetaText.{marked, found_of}
use Rattle.mc_answers.specs.Cut.{IsLine}

-- ---- lines

-- a line that begins with these bytes and ends in `\r\n`
pub record IsLineWith (front text : List ℕ) : Type 0 where
  pub line : IsLine text
  pub rest : List ℕ
  pub is : text ≡ front ++ (rest ++ line_end)

-- a line in which a server names a fault in its own words
abbrev pub IsErrorLine : List ℕ → Type 0
IsErrorLine text =
    IsLineWith (codes "ERROR") text ⊎ IsLineWith (codes "CLIENT_ERROR") text ⊎ IsLineWith (codes "SERVER_ERROR") text

-- a line in which a server names a fault of its own
abbrev pub IsServerError : List ℕ → Type 0
IsServerError text = IsLineWith (codes "SERVER_ERROR") text

-- ---- items

-- the two lines of an item of one of these keys, with any flags, any unique and any value
pub record IsItemText (asked : Bool) (keys : List (List ℕ)) (text : List ℕ) : Type 0 where
  pub key : List ℕ
  pub flags : ℕ
  pub unique : ℕ
  pub value : List ℕ
  pub among : Contains keys key
  pub few : flags < 2 ^ 32
  pub small : unique < 2 ^ 64
  pub fits : length value ≤ value_limit
  pub is : text ≡ item_line asked key flags unique value ++ line value

-- the line after the items
abbrev pub IsEndText : List ℕ → Type 0
IsEndText text = text ≡ line (codes "END")

-- the two lines of a shown value, with the marks of letters, of an item with any flags, any unique and any value
pub record IsValueText (key letters text : List ℕ) : Type 0 where
  pub flags : ℕ
  pub unique : ℕ
  pub value : List ℕ
  pub few : flags < 2 ^ 32
  pub small : unique < 2 ^ 64
  pub fits : length value ≤ value_limit
  pub is : text
      ≡ marked (codes "VA " ++ decimal (length value)) key (Some (found_of flags unique value)) letters ++ line value

-- the line that says that a key has no item, with the mark of the key or without
abbrev pub IsMissLine : List ℕ → List ℕ → Type 0
IsMissLine key text = (text ≡ line (codes "EN")) ⊎ (text ≡ line (codes "EN k" ++ key))
