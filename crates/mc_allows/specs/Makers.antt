-- Which calls may make a need true that was not true before them.
use Rattle.std.specs.Prelude.{ℕ, nat_eq, not, Bool, true, false, ◌&&◌, ◌||◌, List, [], ◌∷◌}
use Rattle.std.specs.List.{starts_with, ends_with}
use Rattle.mc_calls.specs.declared.call.Call.{Call}
use Rattle.mc_calls.specs.declared.call.Call.TheVariants as Calls
use Rattle.mc_calls.specs.declared.call_reply.CallReply.TheVariants as Replies
use Rattle.mc_allows.specs.declared.shown.Shown.{Shown}
use Rattle.mc_allows.specs.declared.shown.Shown.TheVariants.{Nothing, NoFailure, Reply}
use Rattle.mc_allows.specs.declared.fact.Fact.{Fact}
use Rattle.mc_allows.specs.declared.fact.Fact.TheVariants as Facts
use Rattle.mc_allows.specs.Values.{padded_number}
use Rattle.mc_allows.specs.Allows.{may_fail}
use Rattle.mc_allows.specs.Facts.{is_of, holds_without, is_this_number}
use Rattle.mc_allows.specs.Needs.{may_have_failed}

-- ---- needs

-- a fact may be a need: all but the parts of a value, and the digits of a number
abbrev pub is_need : Fact → Bool
is_need (Facts.Counted number) = false
is_need (Facts.Ending piece) = false
is_need (Facts.Beginning piece) = false
is_need fact = true

-- ---- what a call may make

-- the call may have stored, by what is shown
abbrev pub may_have_stored : Shown → Bool
may_have_stored Nothing = true
may_have_stored NoFailure = true
may_have_stored (Reply Replies.Stored) = true
may_have_stored shown = false

-- the call may have deleted, by what is shown
abbrev pub may_have_deleted : Shown → Bool
may_have_deleted Nothing = true
may_have_deleted NoFailure = true
may_have_deleted (Reply Replies.Deleted) = true
may_have_deleted shown = false

-- a need says no more than that there is an item
abbrev pub is_presence : Fact → Bool
is_presence Facts.Present = true
is_presence fact = false

-- the list has no bytes
abbrev pub is_empty_piece : List ℕ → Bool
is_empty_piece [] = true
is_empty_piece (byte ∷ bytes) = false

-- a need may hold of a value to which a piece was joined at its end; any piece may make any number
abbrev pub may_end_with : Fact → List ℕ → Bool
may_end_with (Facts.Item flags value) piece = ends_with nat_eq value piece
may_end_with (Facts.Value value) piece = ends_with nat_eq value piece
may_end_with (Facts.Number number) piece = true
may_end_with fact piece = false

-- a need may hold of a value to which a piece was joined at its beginning
abbrev pub may_begin_with : Fact → List ℕ → Bool
may_begin_with (Facts.Item flags value) piece = starts_with nat_eq value piece
may_begin_with (Facts.Value value) piece = starts_with nat_eq value piece
may_begin_with (Facts.Number number) piece = true
may_begin_with fact piece = false

-- a need may hold of a number that was counted to
abbrev pub is_countable : Fact → Bool
is_countable (Facts.Item flags value) = true
is_countable (Facts.Value value) = true
is_countable (Facts.Number number) = true
is_countable fact = false

-- a need may hold of the number that was counted to
abbrev pub is_count : Fact → ℕ → Bool
is_count (Facts.Item flags value) number = is_this_number (padded_number value) number
is_count (Facts.Value value) number = is_this_number (padded_number value) number
is_count (Facts.Number own) number = nat_eq own number
is_count fact number = false

-- a call that counts may make a need, by what is shown
abbrev pub may_have_counted : Shown → Fact → Bool
may_have_counted Nothing fact = is_countable fact
may_have_counted NoFailure fact = is_countable fact
may_have_counted (Reply (Replies.Number number)) fact = is_count fact number
may_have_counted shown fact = false

-- a call that stores in place of an item may make a need, by what is shown; it does not make that there is an item
abbrev pub may_replace : Shown → Fact → ℕ → List ℕ → Bool
may_replace shown fact flags value = may_have_stored shown && is_of fact flags value && not (is_presence fact)

-- a call that did not fail may make a need, by what is shown
abbrev pub makes : Call → Shown → Fact → Bool
makes (Calls.Set key flags value) shown fact = may_have_stored shown && is_of fact flags value
makes (Calls.Add key flags value) shown fact = may_have_stored shown && is_of fact flags value
makes (Calls.Replace key flags value) shown fact = may_replace shown fact flags value
makes (Calls.Cas flags key unique value) shown fact = may_replace shown fact flags value
makes (Calls.Append key piece) shown fact =
    may_have_stored shown && not (is_empty_piece piece) && may_end_with fact piece
makes (Calls.Prepend key piece) shown fact =
    may_have_stored shown && not (is_empty_piece piece) && may_begin_with fact piece
makes (Calls.Incr key amount) shown fact = may_have_counted shown fact
makes (Calls.Decr key amount) shown fact = may_have_counted shown fact
makes (Calls.Delete key) shown fact = may_have_deleted shown && holds_without fact
makes Calls.Flush shown fact = holds_without fact
makes call shown fact = false

-- a call may make a need, by what is shown: as it did not fail, or as it failed and the item was dropped
abbrev pub may_make : Call → Shown → Fact → Bool
may_make call shown fact = makes call shown fact || (may_fail call && may_have_failed shown && holds_without fact)
