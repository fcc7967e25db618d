-- When a fact holds of what a key has, and which facts can hold together.
use Rattle.std.specs.Prelude.{ℕ, nat_eq, Bool, true, false, ◌&&◌, List, Option, None, Some}
use Rattle.std.specs.List.{starts_with, ends_with}
use Rattle.std.specs.Cmp.Lexicographic.{pointwise}
use Rattle.mc_calls.specs.declared.item.Item.{Item}
use Rattle.mc_allows.specs.declared.fact.Fact.{Fact}
use Rattle.mc_allows.specs.declared.fact.Fact.TheVariants as Facts
use Rattle.mc_allows.specs.Values.{padded_number, may_read}

-- ---- facts of an item

-- two values are the same
abbrev pub is_same_value : List ℕ → List ℕ → Bool
is_same_value value other = pointwise nat_eq value other

-- there is a number, and it is this one
abbrev pub is_this_number : Option ℕ → ℕ → Bool
is_this_number None number = false
is_this_number (Some own) number = nat_eq own number

-- a fact holds of an item with these flags and this value
abbrev pub is_of : Fact → ℕ → List ℕ → Bool
is_of Facts.Unknown flags value = true
is_of Facts.Never flags value = false
is_of Facts.Absent flags value = false
is_of Facts.Present flags value = true
is_of (Facts.Item own bytes) flags value = nat_eq own flags && is_same_value bytes value
is_of (Facts.Value bytes) flags value = is_same_value bytes value
is_of (Facts.Number number) flags value = may_read value number
is_of (Facts.Counted number) flags value = is_this_number (padded_number value) number
is_of (Facts.Ending piece) flags value = ends_with nat_eq value piece
is_of (Facts.Beginning piece) flags value = starts_with nat_eq value piece

-- a fact holds if there is no item
abbrev pub holds_without : Fact → Bool
holds_without Facts.Unknown = true
holds_without Facts.Absent = true
holds_without fact = false

-- a fact holds of what a key has
abbrev pub holds : Fact → Option Item → Bool
holds fact None = holds_without fact
holds fact (Some i) = is_of fact i.flags i.value

-- ---- facts that can hold together

-- a fact may hold of an item, of which nothing else is known
abbrev pub may_hold : Fact → Bool
may_hold Facts.Never = false
may_hold Facts.Absent = false
may_hold fact = true

-- a fact may hold of an item with this value, whatever its flags are
abbrev pub may_hold_of_value : Fact → List ℕ → Bool
may_hold_of_value (Facts.Item own bytes) value = is_same_value bytes value
may_hold_of_value fact value = is_of fact 0 value

-- a fact may hold of an item whose value is this number
abbrev pub may_hold_of_number : Fact → ℕ → Bool
may_hold_of_number (Facts.Item own bytes) number = is_this_number (padded_number bytes) number
may_hold_of_number (Facts.Value bytes) number = is_this_number (padded_number bytes) number
may_hold_of_number (Facts.Number own) number = nat_eq own number
may_hold_of_number (Facts.Counted own) number = nat_eq own number
may_hold_of_number fact number = may_hold fact

-- a fact may hold of an item whose value ends with this
abbrev pub may_hold_of_ending : Fact → List ℕ → Bool
may_hold_of_ending (Facts.Item own bytes) piece = ends_with nat_eq bytes piece
may_hold_of_ending (Facts.Value bytes) piece = ends_with nat_eq bytes piece
may_hold_of_ending fact piece = may_hold fact

-- a fact may hold of an item whose value begins with this
abbrev pub may_hold_of_beginning : Fact → List ℕ → Bool
may_hold_of_beginning (Facts.Item own bytes) piece = starts_with nat_eq bytes piece
may_hold_of_beginning (Facts.Value bytes) piece = starts_with nat_eq bytes piece
may_hold_of_beginning fact piece = may_hold fact

-- a fact may hold beside another one, which is named first
abbrev pub may_hold_beside : Fact → Fact → Bool
may_hold_beside Facts.Unknown fact = true
may_hold_beside Facts.Never fact = true
may_hold_beside Facts.Absent fact = holds_without fact
may_hold_beside Facts.Present fact = may_hold fact
may_hold_beside (Facts.Item flags value) fact = is_of fact flags value
may_hold_beside (Facts.Value value) fact = may_hold_of_value fact value
may_hold_beside (Facts.Number number) fact = may_hold fact
may_hold_beside (Facts.Counted number) fact = may_hold_of_number fact number
may_hold_beside (Facts.Ending piece) fact = may_hold_of_ending fact piece
may_hold_beside (Facts.Beginning piece) fact = may_hold_of_beginning fact piece
