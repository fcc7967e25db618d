-- Where in a chain of steps a need came to hold.
use Rattle.std.specs.Prelude.{◌≡◌, ◌⊎◌, ℕ, Bool, true, false, List, [], ◌∷◌, ◌++◌, Option, None}
use Rattle.mc_calls.specs.declared.item.Item.{Item}
use Rattle.mc_calls.specs.declared.call.Call.{Call}
use Rattle.mc_calls.specs.declared.call.Call.TheVariants.{Append, Prepend}
use Rattle.mc_allows.specs.declared.call_name.CallName.{CallName}
use Rattle.mc_allows.specs.declared.said.Said.{Said}
use Rattle.mc_allows.specs.declared.shown.Shown.{Shown}
use Rattle.mc_allows.specs.declared.fact.Fact.{Fact}
use Rattle.mc_allows.specs.declared.fact.Fact.TheVariants as Facts
use Rattle.mc_allows.specs.Allows.{Allows}
use Rattle.mc_allows.specs.Steps.{KeyStep, made, lost, AreAllowed, item_after}
use Rattle.mc_allows.specs.Facts.{holds, holds_without, may_hold_beside}
use Rattle.mc_allows.specs.Needs.{Suits, left_by}

-- a fact holds after each of these steps
abbrev pub HoldsAfterEach : Fact → List KeyStep → Type 0
HoldsAfterEach fact [] = Unit {0}
HoldsAfterEach fact (made name call said after ∷ steps) = (holds fact after ≡ true) × HoldsAfterEach fact steps
HoldsAfterEach fact (lost ∷ steps) = (holds_without fact ≡ true) × HoldsAfterEach fact steps

-- no loss can make the fact: it does not hold of a key without an item, or no item can be lost
abbrev pub IsSafe : Bool → Option Item → Fact → Type 0
IsSafe forget first fact = holds_without fact ≡ true → (forget ≡ false) × (first ≡ None)

-- a call before which a fact did not hold, and after which it holds after each step
pub record LastTurn (before : Option Item) (fact : Fact) (steps : List KeyStep) : Type 0 where
  pub front : List KeyStep
  pub name : CallName
  pub call : Call
  pub said : Said
  pub after : Option Item
  pub back : List KeyStep
  pub is : steps ≡ front ++ made name call said after ∷ back
  pub allowed : Allows (item_after before front) call said after
  pub failed : holds fact (item_after before front) ≡ false
  pub stays : HoldsAfterEach fact (made name call said after ∷ back)

-- a need that holds after allowed steps, and that no loss can make, has held from the first, or has a last turn
abbrev pub HasLastTurn : Type 0
HasLastTurn = (forget : Bool) (first before : Option Item) (fact : Fact) → IsSafe forget first fact → (steps : List KeyStep)
    → AreAllowed forget first before steps → holds fact (item_after before steps) ≡ true
    → ((holds fact before ≡ true) × HoldsAfterEach fact steps) ⊎ LastTurn before fact steps

-- the value that a need says, without the value of its own
abbrev pub with_value : Fact → List ℕ → Fact
with_value (Facts.Item flags value) rest = Facts.Item flags rest
with_value fact rest = Facts.Value rest

-- a need says that the item has this value
abbrev pub SaysValue : Fact → List ℕ → Type 0
SaysValue (Facts.Item flags value) own = value ≡ own
SaysValue (Facts.Value value) own = value ≡ own
SaysValue fact own = ⊥

-- an append that made a value joined its piece to what the key had
abbrev pub AppendsToRest : Type 0
AppendsToRest = (fact : Fact) (value : List ℕ) → SaysValue fact value → (before : Option Item) (key piece : List ℕ) (said : Said)
    (after : Option Item) → Allows before (Append key piece) said after → holds fact before ≡ false → holds fact after ≡ true
    → (rest : List ℕ) × (value ≡ rest ++ piece) × (holds (with_value fact rest) before ≡ true)

-- a prepend that made a value joined its piece to what the key had
abbrev pub PrependsToRest : Type 0
PrependsToRest = (fact : Fact) (value : List ℕ) → SaysValue fact value → (before : Option Item) (key piece : List ℕ) (said : Said)
    (after : Option Item) → Allows before (Prepend key piece) said after → holds fact before ≡ false → holds fact after ≡ true
    → (rest : List ℕ) × (value ≡ piece ++ rest) × (holds (with_value fact rest) before ≡ true)

-- between a call that leaves the opposite and a later call before which a need holds, another call made it
abbrev pub MakersAreNew : Type 0
MakersAreNew = (forget : Bool) (first before : Option Item) (fact : Fact) → IsSafe forget first fact → (name : CallName) (call : Call)
    (said : Said) (after : Option Item) (middle : List KeyStep) → AreAllowed forget first before (made name call said after ∷ middle)
    → (shown : Shown) → Suits shown said → may_hold_beside (left_by call shown) fact ≡ false
    → holds fact (item_after after middle) ≡ true → LastTurn after fact middle
