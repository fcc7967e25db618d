-- What a server has at a moment at which no command is in flight: its items, and what is known of those that may be
-- lost.
use Rattle.std.specs.Prelude.{◌≡◌, ℕ, ◌≤◌, List, [], All}
use Rattle.std.specs.List.{AllPairs}
use Rattle.std.specs.Ordering.{nat_cmp}
use Rattle.std.specs.Cmp.Lexicographic.{slice_cmp}
use Rattle.std.specs.declared.cmp.Ordering.TheVariants.{Less}
use Rattle.zy_items.specs.declared.standing.KeptItem.{KeptItem}
use Rattle.zy_items.specs.declared.standing.Standing.{Standing as Kept}

-- what a server has at a moment at which no command is in flight
pub record Standing : Type 0 where
  -- the keys that have an item, in rising order, and their items
  pub items : List KeptItem
  -- the keys to which an exptime other than 0 was given so far, in rising order
  pub lasting : List (List ℕ)
  -- no unique that was given so far is greater
  pub bound : ℕ

-- what a value of the program's says that a server has
abbrev pub standing_of : Kept → Standing
standing_of kept = record { items = kept.items.items; lasting = kept.lasting.keys; bound = kept.bound }

-- a server that has just begun, with no items
abbrev pub nothing_standing : Standing
nothing_standing = record { items = []; lasting = []; bound = 0 }

-- a key comes before another one
abbrev pub IsKeyBefore : List ℕ → List ℕ → Type 0
IsKeyBefore key other = slice_cmp nat_cmp key other ≡ Less

-- the key of an item comes before that of another one
abbrev pub IsItemBefore : KeptItem → KeptItem → Type 0
IsItemBefore one other = IsKeyBefore one.key other.key

-- the keys rise, and no item has a greater unique than the bound
pub record IsStanding (standing : Standing) : Type 0 where
  pub rises : AllPairs IsItemBefore standing.items
  pub lasting : AllPairs IsKeyBefore standing.lasting
  pub within : All (λ (kept : KeptItem). kept.item.unique ≤ standing.bound) standing.items
