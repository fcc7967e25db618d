-- Chains of steps at one key: calls with what was said to them, and losses.
use Rattle.std.specs.Prelude.{◌≡◌, ◌⊎◌, ℕ, Bool, true, false, List, [], ◌∷◌, filter, Option, None, Some}
use Rattle.std.specs.Ordering.{nat_cmp, eq_by_cmp}
use Rattle.std.specs.Cmp.Lexicographic.{slice_cmp}
use Rattle.mc_calls.specs.declared.item.Item.{Item}
use Rattle.mc_calls.specs.declared.call.Call.{Call}
use Rattle.mc_calls.specs.declared.call.Call.TheVariants as Calls
use Rattle.mc_calls.specs.declared.call_reply.CallReply.TheVariants.{Stored, Number}
use Rattle.mc_calls.specs.declared.entry.Entry.{Entry}
use Rattle.mc_calls.specs.declared.entry.Tag.{Tag}
use Rattle.mc_calls.specs.Call.{key_of}
use Rattle.mc_allows.specs.declared.call_name.CallName.{CallName}
use Rattle.mc_allows.specs.declared.said.Said.{Said}
use Rattle.mc_allows.specs.declared.said.Said.TheVariants.{Replied}
use Rattle.mc_allows.specs.Allows.{Allows}

-- ---- calls at a key

-- two keys are the same
abbrev pub is_same : List ℕ → List ℕ → Bool
is_same key other = eq_by_cmp (slice_cmp nat_cmp) key other

-- the key is that of the call, or the call has none
abbrev pub is_own_key : List ℕ → Option (List ℕ) → Bool
is_own_key key None = true
is_own_key key (Some other) = is_same key other

-- a call is on the key, or is a flush
abbrev pub is_about : List ℕ → Call → Bool
is_about key Calls.Tally = false
is_about key call = is_own_key key (key_of call)

-- the entries whose call is on the key or is a flush, in the list's order
abbrev pub entries_about : List ℕ → List Entry → List Entry
entries_about key es = filter (λ (e : Entry). is_about key e.call) es

-- ---- allowed steps

-- a call at a key, by its name, with what was said to it and what the key has after it; or the loss of the key's item
pub data KeyStep : Type 0 where
  made : CallName → Call → Said → Option Item → KeyStep
  lost : KeyStep

-- the item at a key may be lost: items of this key may be, or it is the first one
abbrev pub MayLose : Bool → Option Item → Option Item → Type 0
MayLose forget first before = (forget ≡ true) ⊎ ((item : Item) × (first ≡ Some item) × (before ≡ Some item))

-- each step is allowed, if the key has this before them; an item that was there first may be lost while it is there
abbrev pub AreAllowed : Bool → Option Item → Option Item → List KeyStep → Type 0
AreAllowed forget first before [] = Unit {0}
AreAllowed forget first before (made name call said after ∷ steps) =
    Allows before call said after × AreAllowed forget first after steps
AreAllowed forget first before (lost ∷ steps) = MayLose forget first before × AreAllowed forget None None steps

-- what the key has after these steps
abbrev pub item_after : Option Item → List KeyStep → Option Item
item_after before [] = before
item_after before (made name call said after ∷ steps) = item_after after steps
item_after before (lost ∷ steps) = item_after None steps

-- ---- uniques

-- the unique of the item that a call stored, joined or counted
abbrev pub unique_stored : Said → Option Item → Option ℕ
unique_stored (Replied Stored) (Some item) = Some item.unique
unique_stored (Replied (Number number)) (Some item) = Some item.unique
unique_stored said after = None

-- a unique is none of these
abbrev pub IsNoneOf : List ℕ → ℕ → Type 0
IsNoneOf [] unique = Unit {0}
IsNoneOf (x ∷ xs) unique = (unique ≡ x → ⊥) × IsNoneOf xs unique

-- a unique that is given is none of these
abbrev pub IsNewUnique : List ℕ → Option ℕ → Type 0
IsNewUnique before None = Unit {0}
IsNewUnique before (Some unique) = IsNoneOf before unique

-- these uniques, and the one that is given
abbrev pub uniques_with : List ℕ → Option ℕ → List ℕ
uniques_with before None = before
uniques_with before (Some unique) = unique ∷ before

-- each item that is stored, joined or counted has a unique that no item had since the last loss
abbrev pub HaveNewUniques : List ℕ → List KeyStep → Type 0
HaveNewUniques before [] = Unit {0}
HaveNewUniques before (made name call said after ∷ steps) =
    IsNewUnique before (unique_stored said after) × HaveNewUniques (uniques_with before (unique_stored said after)) steps
HaveNewUniques before (lost ∷ steps) = HaveNewUniques [] steps

-- the unique of what a key has at first
abbrev pub first_uniques : Option Item → List ℕ
first_uniques None = []
first_uniques (Some item) = item.unique ∷ []

-- a server may make these steps at a key that has this first
pub record IsAllowedChain (forget : Bool) (first : Option Item) (steps : List KeyStep) : Type 0 where
  pub allowed : AreAllowed forget first first steps
  pub new : HaveNewUniques (first_uniques first) steps

-- ---- entries as steps

-- the steps are the calls of these entries, named in this way, with their replies
abbrev pub AreSteps : (Tag → CallName) → List Entry → List KeyStep → Type 0
AreSteps name [] [] = Unit {0}
AreSteps name (e ∷ es) (made own call (Replied reply) after ∷ steps) =
    (own ≡ name e.tag) × (call ≡ e.call) × (reply ≡ e.reply) × AreSteps name es steps
AreSteps name es steps = ⊥

-- the entries' calls, with their replies, are a chain of steps without a loss, from no item to this
pub record AreLeading (name : Tag → CallName) (es : List Entry) (after : Option Item) : Type 0 where
  pub steps : List KeyStep
  pub calls : AreSteps name es steps
  pub chain : IsAllowedChain false None steps
  pub ends : item_after None steps ≡ after
