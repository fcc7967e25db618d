-- What is counted of the calls on one shard, from its entries alone: memcached's protocol.txt, "General-purpose
-- statistics", has the five numbers as cmd_get, cmd_set, get_hits, get_misses and curr_items.
use Rattle.std.specs.Prelude.{ℕ, ◌+◌, ◌&&◌, Bool, true, false, if◌then◌else◌, List, fold, count_by, Option, Some, ⊤}
use Rattle.std.specs.Ordering.{nat_cmp}
use Rattle.std.specs.Cmp.Lexicographic.{slice_cmp}
use Rattle.std.specs.FinMap.{FinMap, empty, insert, remove, len}
use Rattle.mc_calls.specs.declared.call.Call.{Call}
use Rattle.mc_calls.specs.declared.call_reply.CallReply.{CallReply}
use Rattle.mc_calls.specs.declared.call_reply.CallReply.TheVariants.{Miss, Hit, Stored, Deleted, Number}
use Rattle.mc_calls.specs.declared.entry.Entry.{Entry}
use Rattle.mc_calls.specs.declared.tallied.Tallied.{Tallied}
use Rattle.mc_calls.specs.declared.call_kind.CountedAs.{CountedAs}
use Rattle.mc_calls.specs.declared.call_kind.CountedAs.TheVariants.{AsGet, AsSet}
use Rattle.mc_calls.specs.Table.{Acts, always, clears}
use Rattle.mc_calls.specs.Code.{call_row}
use Rattle.mc_calls.specs.Call.{key_of}

-- ---- one call

-- what a call is counted as
abbrev pub counted_as : Call → CountedAs
counted_as call = (call_row call).counted

-- it is counted as a get
abbrev pub is_as_get : CountedAs → Bool
is_as_get AsGet = true
is_as_get other = false

-- it is counted as a call that stores
abbrev pub is_as_set : CountedAs → Bool
is_as_set AsSet = true
is_as_set other = false

-- the call gets the item of a key
abbrev pub is_get : Call → Bool
is_get call = is_as_get (counted_as call)

-- the call asks its shard to store a value, whatever the reply
abbrev pub is_set : Call → Bool
is_set call = is_as_set (counted_as call)

-- the reply is an item
abbrev pub is_item : CallReply → Bool
is_item (Hit flags unique value) = true
is_item reply = false

-- the reply is that there is no item
abbrev pub is_no_item : CallReply → Bool
is_no_item Miss = true
is_no_item reply = false

-- the call is a get, and found an item
abbrev pub is_hit : Call → CallReply → Bool
is_hit call reply = is_get call && is_item reply

-- the call is a get, and found none
abbrev pub is_miss : Call → CallReply → Bool
is_miss call reply = is_get call && is_no_item reply

-- ---- the keys of the items

-- a set of keys
abbrev pub KeySet : Type 0
KeySet = FinMap (slice_cmp nat_cmp) ⊤

-- no keys
abbrev pub no_keys : KeySet
no_keys = empty

-- the keys after this reply to a call on a key, or to a call without one: a key that was stored or
-- counted is among them, and a deleted one is not
abbrev pub keys_by : Option (List ℕ) → CallReply → KeySet → KeySet
keys_by (Some key) Stored keys = insert keys key tt
keys_by (Some key) (Number number) keys = insert keys key tt
keys_by (Some key) Deleted keys = remove keys key
keys_by key reply keys = keys

-- the keys after what a call did, by its key and its reply; none are left if it removed all items
abbrev pub keys_past : Acts → Option (List ℕ) → CallReply → KeySet → KeySet
keys_past (always clears) key reply keys = no_keys
keys_past acts key reply keys = keys_by key reply keys

-- the keys after an entry
abbrev pub keys_with : KeySet → Call → CallReply → KeySet
keys_with keys call reply = keys_past (call_row call).acts (key_of call) reply keys

-- the keys after these entries
abbrev pub keys_after : KeySet → List Entry → KeySet
keys_after keys es = fold (λ keys (e : Entry). keys_with keys e.call e.reply) keys es

-- ---- all entries of one shard

-- the number of gets, of calls that store, of gets that found an item and that found none, and of
-- keys that have an item
abbrev pub counted : List Entry → Tallied
counted es = record {
  gets = count_by (λ (e : Entry). is_get e.call) es;
  sets = count_by (λ (e : Entry). is_set e.call) es;
  hits = count_by (λ (e : Entry). is_hit e.call e.reply) es;
  misses = count_by (λ (e : Entry). is_miss e.call e.reply) es;
  items = len (keys_after no_keys es);
}

-- ---- counts that are kept up to date

-- the counts of calls
pub record CallCounts : Type 0 where
  pub gets : ℕ
  pub sets : ℕ
  pub hits : ℕ
  pub misses : ℕ

-- before any call
abbrev pub no_calls : CallCounts
no_calls = record { gets = 0; sets = 0; hits = 0; misses = 0 }

-- one more if the test holds
abbrev pub one_more_if : Bool → ℕ → ℕ
one_more_if test count = if test then count + 1 else count

-- the counts after a call with this reply
abbrev pub calls_with : CallCounts → Call → CallReply → CallCounts
calls_with counts call reply = record {
  gets = one_more_if (is_get call) counts.gets;
  sets = one_more_if (is_set call) counts.sets;
  hits = one_more_if (is_hit call reply) counts.hits;
  misses = one_more_if (is_miss call reply) counts.misses;
}
