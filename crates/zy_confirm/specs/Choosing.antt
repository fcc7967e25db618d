-- What a call does at its key, with what its server chose. No public clause cites this module.
use Rattle.std.specs.Prelude.{◌≡◌, ℕ, ◌+◌, ◌<◌, true, List, length, Option, None, Some}
use Rattle.mc_allows.specs.declared.said.Said.TheVariants.{Replied}
use Rattle.mc_allows.specs.Values.{may_read_none, IsNumberText}
use Rattle.mc_allows.specs.Allows.{Allows, IsRefusal, sure_limit}
use Rattle.mc_allows.specs.Steps.{unique_stored}
use Rattle.mc_calls.specs.declared.call.Call.{Call}
use Rattle.mc_calls.specs.declared.call_reply.CallReply.{CallReply}
use Rattle.mc_calls.specs.declared.call_reply.CallReply.TheVariants.{Number, NotNumber}
use Rattle.mc_calls.specs.declared.item.Item.{Item}
use Rattle.zy_confirm.specs.declared.outcome.After.{After}
use Rattle.zy_confirm.specs.declared.outcome.After.TheVariants.{Same, Gone, Put}
use Rattle.zy_confirm.specs.declared.outcome.Outcome.{Outcome}

-- what the key has after a call, if an item that it stores gets this unique
abbrev pub after_by : Option Item → ℕ → After → Option Item
after_by before unique Same = before
after_by before unique Gone = None
after_by before unique (Put flags value) = Some (record { flags = flags; value = value; unique = unique })

-- the unique that is given to an item
abbrev pub unique_given : ℕ → After → Option ℕ
unique_given unique (Put flags value) = Some unique
unique_given unique after = None

-- a call may be answered so at a key that has this, and leaves this
pub record IsChosen (before : Option Item) (call : Call) (unique : ℕ) (o : Outcome) : Type 0 where
  pub allowed : Allows before call o.said (after_by before unique o.after)
  pub given : unique_stored o.said (after_by before unique o.after) ≡ unique_given unique o.after

-- the same, whatever the unique is
abbrev pub IsAnyChosen : Option Item → Call → Outcome → Type 0
IsAnyChosen before call o = (unique : ℕ) → IsChosen before call unique o

-- the number was counted, with the item's flags
pub record IsCounted (item : Item) (number : ℕ) (o : Outcome) : Type 0 where
  pub value : List ℕ
  pub text : IsNumberText number (length item.value) value
  pub is : o ≡ record { said = Replied (Number number); after = Put item.flags value }

-- the value to which a piece was to be joined is long with it, and was not joined
pub record IsJoinRefused (item : Item) (piece : List ℕ) (o : Outcome) : Type 0 where
  pub reply : CallReply
  pub refusal : IsRefusal reply
  pub long : sure_limit < length item.value + length piece
  pub is : o ≡ record { said = Replied reply; after = Same }

-- no number was found in the item's value
pub record IsNotCounted (item : Item) (o : Outcome) : Type 0 where
  pub none : may_read_none item.value ≡ true
  pub is : o ≡ record { said = Replied NotNumber; after = Same }
