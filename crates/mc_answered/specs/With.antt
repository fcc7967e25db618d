-- What is found of the answer to what was said.
use Rattle.std.specs.Prelude.{◌≡◌, ℕ, zero, suc, ◌+◌, ◌<◌, ◌≤◌, Bool, true, false, List, [], ◌∷◌, ◌++◌, length, take}
use Rattle.std.specs.Prelude.{Option, None, Some, ⊤}
use Rattle.std.specs.List.{slice_index_or}
use Rattle.mc_calls.specs.declared.call_kind.CallKind.{CallKind}
use Rattle.mc_calls.specs.declared.call_reply.CallReply.TheVariants.{Hit}
use Rattle.mc_calls.specs.Bounds.{IsReply, FitsReply}
use Rattle.mc_calls.specs.Kind.{IsTrue}
use Rattle.mc_calls.specs.Shard.{may_say}
use Rattle.mc_calls.specs.Table.{row_of}
use Rattle.mc_reply.specs.Text.{item_text}
use Rattle.mc_allows.specs.declared.said.Said.{Said}
use Rattle.mc_allows.specs.declared.said.Said.TheVariants.{Replied, Failed}
use Rattle.mc_answered.specs.Reading.{Heading}
use Rattle.mc_answered.specs.Replies.{kind_may_fail}

-- the bytes begin with a text of this kind, which has the length that was found
abbrev pub IsFound : (List ℕ → Type 0) → List ℕ → Option ℕ → Type 0
IsFound IsText bytes None = ⊤
IsFound IsText bytes (Some n) = (n ≤ length bytes) × IsText (take n bytes)

-- the bytes begin with this text
abbrev pub Begins : List ℕ → List ℕ → Type 0
Begins bytes text = take (length text) bytes ≡ text

-- what may be said to a call of this kind
abbrev pub MaySayTo : CallKind → Said → Type 0
MaySayTo kind (Replied reply) = IsTrue (may_say (row_of kind).acts reply) × IsReply reply × FitsReply reply
MaySayTo kind Failed = kind_may_fail kind ≡ true

-- ---- items

-- the heading of an item of this key
pub record IsHeadingOf (asked : Bool) (key : List ℕ) (flags unique : ℕ) (value : List ℕ) (heading : Heading)
    : Type 0 where
  pub key_is : heading.key ≡ key
  pub flags_is : heading.flags ≡ flags
  pub count_is : heading.count ≡ length value
  pub unique_is : asked ≡ true → heading.unique ≡ unique

-- ---- items by their indices

-- the text of the item that was found for a key
abbrev pub said_item : Bool → List ℕ → Said → List ℕ
said_item asked key (Replied reply) = item_text asked key reply
said_item asked key Failed = []

-- the texts of the items that were found, joined in the order of the keys
abbrev pub said_items : Bool → List (List ℕ) → List Said → List ℕ
said_items asked (key ∷ keys) (said ∷ saids) = said_item asked key said ++ said_items asked keys saids
said_items asked keys saids = []

-- the text of the item that was found for the key with this index
abbrev pub item_at : Bool → List (List ℕ) → List Said → ℕ → List ℕ
item_at asked (key ∷ keys) (said ∷ saids) zero = said_item asked key said
item_at asked (key ∷ keys) (said ∷ saids) (suc i) = item_at asked keys saids i
item_at asked keys saids i = []

-- an item was found
abbrev pub is_found : Said → Bool
is_found (Replied (Hit flags unique value)) = true
is_found said = false

-- the indices of the keys whose items were found, the first of which has this index
abbrev pub found_from : ℕ → List Said → List ℕ
found_from i [] = []
found_from i (Replied (Hit flags unique value) ∷ saids) = i ∷ found_from (i + 1) saids
found_from i (said ∷ saids) = found_from (i + 1) saids

-- an item that was found among those whose indices are left: its place among these, and the length of its text
abbrev pub IsNext : Bool → List (List ℕ) → List Said → List ℕ → List ℕ → ℕ → ℕ → Type 0
IsNext asked keys saids left bytes place n =
    (place < length left) × (n ≤ length bytes) × (take n bytes ≡ item_at asked keys saids (slice_index_or left place 0))

-- an index is below this number
abbrev pub IsBelow : ℕ → ℕ → Type 0
IsBelow n i = i < n
