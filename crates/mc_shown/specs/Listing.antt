-- The items that the answer to a retrieval lists, and what they show. No public clause cites this module.
use Rattle.std.specs.Prelude.{◌≡◌, ℕ, ◌+◌, ◌^◌, ◌<◌, ◌≤◌, Bool, List, ◌++◌, length, map, take, slice_get, Some}
use Rattle.std.specs.Prelude.{IsPermutation, codes}
use Rattle.std.specs.List.{concat, AllByRecursion}
use Rattle.zy_base.specs.Limits.{value_limit}
use Rattle.mc_calls.specs.declared.call_reply.CallReply.TheVariants.{Hit}
use Rattle.mc_reply.specs.Text.{item_text, line}
use Rattle.mc_allows.specs.declared.said.Said.{Said}
use Rattle.mc_allows.specs.declared.shown.Shown.{Shown}
use Rattle.mc_allows.specs.Needs.{Suits}
use Rattle.mc_answers.specs.Answer.{found_items}
use Rattle.mc_answers.specs.Cut.{IsWord}
use Rattle.mc_answers.specs.Said.{AreGot}
use Rattle.mc_shown.specs.declared.listed.Listed.{Listed}
use Rattle.mc_shown.specs.declared.part.Part.{Part}

-- ---- listed items

-- the text of a listed item
abbrev pub text_of : Bool → Listed → List ℕ
text_of asked item = item_text asked item.key.now (Hit item.flags item.unique item.value.now)

-- the key of a listed item is a word, and its numbers and its value are within their bounds
pub record IsListed (item : Listed) : Type 0 where
  pub word : IsWord item.key.now
  pub few : item.flags < 2 ^ 32
  pub small : item.unique < 2 ^ 64
  pub fits : length item.value.now ≤ value_limit

-- the text is these items, and the end
pub record AreListed (asked : Bool) (items : List Listed) (text : List ℕ) : Type 0 where
  pub each : AllByRecursion IsListed items
  pub is : text ≡ concat (map (text_of asked) items) ++ line (codes "END")

-- the text so far is these items
pub record AreRead (asked : Bool) (items : List Listed) (text : List ℕ) (at : ℕ) : Type 0 where
  pub each : AllByRecursion IsListed items
  pub is : take at text ≡ concat (map (text_of asked) items)
  pub low : at ≤ length text

-- the bytes begin with this item, whose text has this length
pub record IsNext (asked : Bool) (bytes : List ℕ) (item : Listed) (n : ℕ) : Type 0 where
  pub of : IsListed item
  pub low : n ≤ length bytes
  pub is : take n bytes ≡ text_of asked item

-- the bytes begin with this value of this length, which is within its bound, and the end of its line
pub record IsValueOf (count : ℕ) (bytes value : List ℕ) : Type 0 where
  pub long : length value ≡ count
  pub few : count ≤ value_limit
  pub low : count + 2 ≤ length bytes
  pub is : take (count + 2) bytes ≡ line value

-- ---- keys

-- a listed item is of another key
abbrev pub IsNotOf : List ℕ → Listed → Type 0
IsNotOf key item = item.key.now ≡ key → ⊥

-- the key with this index has no other index
abbrev pub IsOnce : List (List ℕ) → ℕ → Type 0
IsOnce keys i = (j : ℕ) (key : List ℕ) → slice_get keys i ≡ Some key → slice_get keys j ≡ Some key → j ≡ i

-- ---- what is shown

-- what was said to the get of the key with this index suits this, if these items were found
abbrev pub SuitsAt : Bool → List (List ℕ) → List Listed → ℕ → Shown → Type 0
SuitsAt asked keys items i shown =
    (saids : List Said) (said : Said) → AreGot keys saids
    → IsPermutation (found_items asked keys saids) (map (text_of asked) items) → slice_get saids i ≡ Some said
    → Suits shown said

-- so it is for each part
abbrev pub AreSuitedAt : Bool → List (List ℕ) → List Listed → List Part → Type 0
AreSuitedAt asked keys items parts =
    (i : ℕ) (part : Part) → slice_get parts i ≡ Some part → SuitsAt asked keys items i part.shown
