-- What a memcached may answer to a call, and what the key of the call has after it: memcached's protocol.txt, "Storage
-- commands", "Retrieval command", "Deletion", "Increment/Decrement". It chooses the CAS values, may pad a number that
-- became shorter, and may fail to store.
use Rattle.std.specs.Prelude.{◌≡◌, ◌⊎◌, ℕ, ◌+◌, ◌-◌, ◌%◌, ◌^◌, ◌<◌, nat_lt, Bool, true, false, ◌&&◌, ◌||◌, List, ◌++◌, length}
use Rattle.std.specs.Prelude.{Option, None, Some}
use Rattle.mc_calls.specs.declared.item.Item.{Item}
use Rattle.mc_calls.specs.declared.call.Call.{Call}
use Rattle.mc_calls.specs.declared.call.Call.TheVariants.{Get, Set, Add, Replace, Append, Prepend, Cas, Incr, Decr}
use Rattle.mc_calls.specs.declared.call.Call.TheVariants.{Delete, Flush}
use Rattle.mc_calls.specs.declared.call.Call.TheVariants as Calls
use Rattle.mc_calls.specs.declared.call_reply.CallReply.{CallReply}
use Rattle.mc_calls.specs.declared.call_reply.CallReply.TheVariants.{Miss, Hit, Stored, NotStored, Exists, NotFound}
use Rattle.mc_calls.specs.declared.call_reply.CallReply.TheVariants.{Deleted, Number, NotNumber, TooLarge, Flushed}
use Rattle.mc_calls.specs.declared.tallied.Tallied.{Tallied}
use Rattle.mc_calls.specs.Code.{tally}
use Rattle.mc_calls.specs.Table.{parts_of, value_part}
use Rattle.mc_allows.specs.declared.said.Said.{Said}
use Rattle.mc_allows.specs.declared.said.Said.TheVariants.{Replied, Failed}
use Rattle.mc_allows.specs.Values.{may_read, may_read_none, IsNumberText}

-- ---- the item after a call

-- the key has an item with these flags and this value, whatever its unique is
abbrev pub HasItem : ℕ → List ℕ → Option Item → Type 0
HasItem flags value None = ⊥
HasItem flags value (Some item) = (item.flags ≡ flags) × (item.value ≡ value)

-- the key has an item with these flags, and its value is this number, perhaps padded with spaces to this length
abbrev pub HasNumber : ℕ → ℕ → ℕ → Option Item → Type 0
HasNumber flags number width None = ⊥
HasNumber flags number width (Some item) = (item.flags ≡ flags) × IsNumberText number width item.value

-- ---- the long cases

-- a server may refuse to store a value with more bytes than these, which is less than the most that it ever stores
abbrev pub sure_limit : ℕ
sure_limit = 1000000

-- a joined value was not stored
abbrev pub IsRefusal : CallReply → Type 0
IsRefusal reply = (reply ≡ NotStored) ⊎ (reply ≡ TooLarge)

-- the item's value and a piece are joined to this value, which is refused only if it is long
abbrev pub Joins : Item → List ℕ → CallReply → Option Item → Type 0
Joins i value reply after =
    ((reply ≡ Stored) × HasItem i.flags value after)
    ⊎ (IsRefusal reply × (after ≡ Some i) × (sure_limit < length value))

-- the item is replaced if it has this unique
abbrev pub Exchanges : Item → ℕ → ℕ → List ℕ → CallReply → Option Item → Type 0
Exchanges i unique flags value reply after =
    ((reply ≡ Stored) × HasItem flags value after × (i.unique ≡ unique))
    ⊎ ((reply ≡ Exists) × (after ≡ Some i) × (i.unique ≡ unique → ⊥))

-- a number that may be read of the item's value is counted, or there may be none to read
abbrev pub Counts : Item → (ℕ → ℕ) → CallReply → Option Item → Type 0
Counts i count reply after =
    ((n : ℕ) × (may_read i.value n ≡ true) × (reply ≡ Number (count n))
    × HasNumber i.flags (count n) (length i.value) after)
    ⊎ ((reply ≡ NotNumber) × (after ≡ Some i) × (may_read_none i.value ≡ true))

-- ---- the table

-- what is replied to a call, and what its key has after it, if the key had nothing or this item before it
abbrev pub AllowsReply : Option Item → Call → CallReply → Option Item → Type 0
AllowsReply None (Get key) reply after = (reply ≡ Miss) × (after ≡ None)
AllowsReply (Some i) (Get key) reply after = (reply ≡ Hit i.flags i.unique i.value) × (after ≡ Some i)
AllowsReply before (Set key flags value) reply after = (reply ≡ Stored) × HasItem flags value after
AllowsReply None (Add key flags value) reply after = (reply ≡ Stored) × HasItem flags value after
AllowsReply (Some i) (Add key flags value) reply after = (reply ≡ NotStored) × (after ≡ Some i)
AllowsReply None (Replace key flags value) reply after = (reply ≡ NotStored) × (after ≡ None)
AllowsReply (Some i) (Replace key flags value) reply after = (reply ≡ Stored) × HasItem flags value after
AllowsReply None (Append key piece) reply after = (reply ≡ NotStored) × (after ≡ None)
AllowsReply (Some i) (Append key piece) reply after = Joins i (i.value ++ piece) reply after
AllowsReply None (Prepend key piece) reply after = (reply ≡ NotStored) × (after ≡ None)
AllowsReply (Some i) (Prepend key piece) reply after = Joins i (piece ++ i.value) reply after
AllowsReply None (Cas flags key unique value) reply after = (reply ≡ NotFound) × (after ≡ None)
AllowsReply (Some i) (Cas flags key unique value) reply after = Exchanges i unique flags value reply after
AllowsReply None (Incr key amount) reply after = (reply ≡ NotFound) × (after ≡ None)
AllowsReply (Some i) (Incr key amount) reply after = Counts i (λ n. (n + amount) % 2 ^ 64) reply after
AllowsReply None (Decr key amount) reply after = (reply ≡ NotFound) × (after ≡ None)
AllowsReply (Some i) (Decr key amount) reply after = Counts i (λ n. n - amount) reply after
AllowsReply None (Delete key) reply after = (reply ≡ NotFound) × (after ≡ None)
AllowsReply (Some i) (Delete key) reply after = (reply ≡ Deleted) × (after ≡ None)
AllowsReply before Flush reply after = (reply ≡ Flushed) × (after ≡ None)
AllowsReply before Calls.Tally reply after = (counts : Tallied) × (reply ≡ tally counts) × (after ≡ before)

-- a call that stores or counts may fail
abbrev pub may_fail : Call → Bool
may_fail (Get key) = false
may_fail (Delete key) = false
may_fail Flush = false
may_fail Calls.Tally = false
may_fail call = true

-- what is said to a call, and what its key has after it; a call that failed leaves the item, or none
abbrev pub Allows : Option Item → Call → Said → Option Item → Type 0
Allows before call (Replied reply) after = AllowsReply before call reply after
Allows before call Failed after = (may_fail call ≡ true) × ((after ≡ before) ⊎ (after ≡ None))

-- a call that gets no answer may fail only if the server may forget items, or if its value is long
abbrev pub may_fail_quietly : Bool → Call → Bool
may_fail_quietly may_forget call = may_fail call && (may_forget || nat_lt sure_limit (length (value_part (parts_of call))))
