-- A recording that is a window of a longer one: what its server has when the window begins, and when it ends.
use Rattle.std.specs.Prelude.{◌≡◌, ◌⊎◌, ◌↔◌, ℕ, ◌+◌, ◌≤◌, Bool, true, false, if◌then◌else◌, List, [], ◌∷◌}
use Rattle.std.specs.Prelude.{Option, None, Some, ⊤}
use Rattle.std.specs.List.{Contains}
use Rattle.mc_allows.specs.Steps.{KeyStep, made, lost, is_same, item_after, unique_stored}
use Rattle.mc_calls.specs.declared.item.Item.{Item}
use Rattle.zy_items.specs.declared.standing.KeptItem.{KeptItem}
use Rattle.zy_items.specs.Standing.{Standing}
use Rattle.zy_verdict.specs.Recorded.{Recorded}
use Rattle.zy_verdict.specs.Losses.{HasExptime, MayLoseAt}
use Rattle.zy_verdict.specs.Entries.{MadeCall}
use Rattle.zy_verdict.specs.Explained.{OutputCuts, IsExplainedBy}
use Rattle.zy_verdict.specs.Numbers.{number_of_commands, number_ended}

-- ---- items

-- the item of a key among these
abbrev pub item_in : List KeptItem → List ℕ → Option Item
item_in [] key = None
item_in (kept ∷ items) key = if is_same key kept.key then Some kept.item else item_in items key

-- ---- losses

-- some of these steps is a loss
abbrev pub has_loss : List KeyStep → Bool
has_loss [] = false
has_loss (made name call said after ∷ steps) = has_loss steps
has_loss (lost ∷ steps) = true

-- ---- uniques

-- a unique that is given is not less than one number, and not greater than another
abbrev pub IsGivenFrom : ℕ → ℕ → Option ℕ → Type 0
IsGivenFrom least most None = ⊤
IsGivenFrom least most (Some unique) = (least ≤ unique) × (unique ≤ most)

-- so is each unique that these steps give
abbrev pub AreGivenFrom : ℕ → ℕ → List KeyStep → Type 0
AreGivenFrom least most [] = ⊤
AreGivenFrom least most (made name call said after ∷ steps) =
    IsGivenFrom least most (unique_stored said after) × AreGivenFrom least most steps
AreGivenFrom least most (lost ∷ steps) = AreGivenFrom least most steps

-- ---- windows

-- the entries that explain a recording lead from what its server has at first to what it has at last
pub record LeadsBetween (r : Recorded) (cuts : OutputCuts) (entries : List MadeCall)
    (explained : IsExplainedBy r cuts entries) (from to : Standing) : Type 0 where
  -- each key begins with its first item, and ends with its last
  pub begins : (key : List ℕ) → explained.first key ≡ item_in from.items key
  pub ends : (key : List ℕ) → item_after (explained.first key) (explained.steps key) ≡ item_in to.items key
  -- items are lost only where they may be, the first ones too
  pub losses : (key : List ℕ) → has_loss (explained.steps key) ≡ true → MayLoseAt r key
  pub lasting_is : r.lasting ≡ from.lasting
  -- the keys to which an exptime other than 0 was given so far
  pub lasts : (key : List ℕ) → (Contains to.lasting key ↔ (Contains from.lasting key ⊎ HasExptime r key))
  -- each unique is given above those that were given before
  pub uniques : (key : List ℕ) → AreGivenFrom (from.bound + 1) to.bound (explained.steps key)
  pub rises : from.bound ≤ to.bound

-- some entries explain the recording, from what its server has at first to what it has at last
pub record IsExplainedBetween (r : Recorded) (from to : Standing) : Type 0 where
  pub cuts : OutputCuts
  pub entries : List MadeCall
  pub explained : IsExplainedBy r cuts entries
  pub leads : LeadsBetween r cuts entries explained from to

-- the same, and these are the numbers of commands and of those that some mark ends
pub record IsExplainedBetweenWith (r : Recorded) (from to : Standing) (commands ended : ℕ) : Type 0 where
  pub cuts : OutputCuts
  pub entries : List MadeCall
  pub explained : IsExplainedBy r cuts entries
  pub leads : LeadsBetween r cuts entries explained from to
  pub commands_are : commands ≡ number_of_commands r
  pub ended_are : ended ≡ number_ended r cuts
