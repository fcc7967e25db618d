-- What the views of the table's seats say: the connections of a root, and the calls and the steps of a pass.
-- Public clauses cite only `untraced` of this module.
use Rattle.std.specs.Prelude.{◌≡◌, ℕ, List, [], ◌∷◌, length, None}
use Rattle.mc_calls.specs.declared.entry.Entry.{Entry}
use Rattle.mc_calls.specs.Order.{last_stamp}
use Rattle.mc_store.specs.declared.store.view.Sight.{Sight}
use Rattle.mc_store.specs.declared.store.view.Trace.{Trace}
use Rattle.mc_store.specs.declared.store.view.View.{View}
use Rattle.mc_store.specs.declared.store.view.View.TheVariants.{Spent, Root, Pass}
use Rattle.mc_store.specs.Joined.{Joined}

-- ---- steps

-- this number was found at this word, at the step with this number
abbrev pub sight : ℕ → ℕ → ℕ → Sight
sight word found step = record { word = word; value = found; step = step }

-- no step was made
abbrev pub untraced : Trace
untraced = record { steps = 0; load = sight 0 0 0; exchange = sight 0 0 0 }

-- ---- the view of a pass

-- the calls that it knows
abbrev pub mine_of : View → List Entry
mine_of (Pass conn mine taken trace) = mine
mine_of (Root given joined) = []
mine_of Spent = []

-- the steps that it made
abbrev pub trace_of : View → Trace
trace_of (Pass conn mine taken trace) = trace
trace_of (Root given joined) = untraced
trace_of Spent = untraced

-- a pass that has taken no shard
abbrev pub passing : ℕ → List Entry → Trace → View
passing conn mine trace = Pass conn mine None trace

-- ---- the one view of a badge

-- the calls of a pass
abbrev pub calls_in : List View → List Entry
calls_in [] = []
calls_in (view ∷ views) = mine_of view

-- the steps of a pass
abbrev pub trace_in : List View → Trace
trace_in [] = untraced
trace_in (view ∷ views) = trace_of view

-- the connections that a root gave
abbrev pub given_in : List View → List ℕ
given_in (Root given joined ∷ views) = given
given_in (Pass conn mine taken trace ∷ views) = []
given_in (Spent ∷ views) = []
given_in [] = []

-- the passes that were joined with a root
abbrev pub joined_in : List View → Joined
joined_in (Root given joined ∷ views) = joined
joined_in (Pass conn mine taken trace ∷ views) = []
joined_in (Spent ∷ views) = []
joined_in [] = []

-- the badge is that of a root
abbrev pub IsRoot : List View → Type 0
IsRoot views = views ≡ Root (given_in views) (joined_in views) ∷ []

-- the badge is that of a pass of this connection, with `count` calls, the last of which has this stamp
pub record IsPass (conn count last : ℕ) (views : List View) : Type 0 where
  pub is : views ≡ passing conn (calls_in views) (trace_in views) ∷ []
  pub count_is : count ≡ length (calls_in views)
  pub last_is : last ≡ last_stamp 0 (calls_in views)
