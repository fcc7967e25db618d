-- The rule of the store, which holds between any two steps of any number of passes.
-- No public clause cites this module.
use Rattle.std.specs.Prelude.{◌≡◌, ℕ, suc, ◌+◌, ◌*◌, ◌/◌, ◌^◌, ◌<◌, ◌≤◌, List, [], ◌∷◌, length, false, slice_index, ⊤}
use Rattle.std.specs.Prelude as std
use mathlib.Core.Option.{Option, some}
use lib.ListN.{get_elem?}
use Rattle.atomic_table.specs.Table.{State}
use Rattle.mc_calls.specs.declared.entry.Entry.{Entry}
use Rattle.mc_calls.specs.Order.{of_connection, at_shard, last_stamp, StampsRise}
use Rattle.zy_table.specs.Member.{is_in}
use Rattle.zy_table.specs.Sum.{sum_below}
use Rattle.mc_calls.specs.History.{IsHistory}
use Rattle.mc_shard.specs.Shard.{Kept, kept}
use Rattle.mc_store.specs.declared.store.view.Trace.{Trace}
use Rattle.mc_store.specs.declared.store.view.View.{View}
use Rattle.mc_store.specs.declared.store.view.View.TheVariants.{Spent, Root, Pass}
use Rattle.mc_store.specs.Joined.{is_joined, is_out, calls_of}

-- ---- a shard

-- where a shard is: free, or with the pass of a connection
pub data Place : Type 0 where
  free : Place
  away : ℕ → Place

-- the word of a shard with `count` entries
abbrev pub word_of : ℕ → Place → ℕ
word_of count free = 2 * count
word_of count (away conn) = 2 * count + 1

-- the sum of the numbers of entries in all words
abbrev pub halves : List ℕ → ℕ
halves [] = 0
halves (word ∷ words) = word / 2 + halves words

-- a free shard is in its slot, with its history; one that is away is with a connection whose pass
-- is out
module _ (shards : ℕ) (slots : List (Option Kept)) (seats : ℕ → ℕ) (shard : ℕ) (history : List Entry) where
  abbrev pub Lies : Place → Type 0
  Lies free = get_elem? slots shard ≡ some (some (kept shard shards history))
  Lies (away conn) = 0 < seats conn

-- one of `shards` shards, with its history, at its place
pub record ShardIs (shards : ℕ) (words : List ℕ) (slots : List (Option Kept)) (seats : ℕ → ℕ) (shard : ℕ)
    (history : List Entry) (place : Place) : Type 0 where
  -- its word is 2 k if it is free with k entries, and 2 k + 1 if it is away
  pub shows : slice_index words shard ≡ word_of (length history) place
  pub lies : Lies shards slots seats shard history place
  -- its replies are those of a replay, each entry names the shard, and stamps rise
  pub sound : IsHistory shards shard history
  -- no stamp is above the number of all entries
  pub last : last_stamp 0 history ≤ halves words

-- ---- a connection

-- one connection, with its calls, when all histories together have `entries` entries
pub record ConnectionIs (entries : ℕ) (histories : ℕ → List Entry) (conn : ℕ) (mine : List Entry) : Type 0 where
  -- its entries in each history are its calls at that shard, in their order
  pub own_at : (shard : ℕ) → of_connection conn (histories shard) ≡ at_shard shard mine
  -- stamps rise along its calls, and none is above the number of all entries
  pub rises : StampsRise 0 mine
  pub last : last_stamp 0 mine ≤ entries
  pub few : length mine ≤ 2 ^ 40

-- ---- what a seat knows

module _ (histories : ℕ → List Entry) (places : ℕ → Place) (shards conn : ℕ) where
  -- the pass of a connection has taken this shard with this history, and no other shard
  abbrev pub Holds : std.Option (ℕ × List Entry) → Type 0
  Holds std.None = (shard : ℕ) → places shard ≡ away conn → ⊥
  Holds (std.Some x) = (x.0 < shards) × (histories x.0 ≡ x.1) × (places x.0 ≡ away conn)
      × ((shard : ℕ) → places shard ≡ away conn → shard ≡ x.0)

module _ (histories : ℕ → List Entry) (places : ℕ → Place) (calls : ℕ → List Entry) (seats : ℕ → ℕ)
    (shards seat : ℕ) where
  -- the root knows which passes are out, and the calls of all others; a pass knows its seat, its calls and what it
  -- has taken
  abbrev pub Knows : View → Type 0
  Knows Spent = ⊤
  Knows (Root given joined) =
      (seat ≡ 0)
      × ((conn : ℕ) → is_out conn given joined ≡ false → (seats conn ≡ 0) × (calls conn ≡ calls_of conn joined))
      × ((conn : ℕ) → is_in conn given ≡ false → is_joined conn joined ≡ false)
  Knows (Pass conn mine taken trace) =
      (seats conn ≡ suc seat) × (conn < 4096) × (calls conn ≡ mine) × Holds histories places shards conn taken

-- ---- the rule

-- there are histories and places of shards, and calls and seats of connections, for which all this holds
pub record StoreRule (s : State Kept View) : Type 0 where
  -- the history of each shard, and where it is
  pub histories : ℕ → List Entry
  pub places : ℕ → Place
  -- the calls of each connection, and one more than the seat of its pass, or 0 if its pass is not out
  pub calls : ℕ → List Entry
  pub seats : ℕ → ℕ
  -- there is a word for each shard, and beyond them there is nothing
  pub wide : length s.words ≡ length s.homes
  pub beyond : (shard : ℕ) → length s.homes ≤ shard → (histories shard ≡ []) × (places shard ≡ free)
  pub each_shard : (shard : ℕ) → shard < length s.homes
      → ShardIs (length s.homes) s.words s.homes seats shard (histories shard) (places shard)
  pub each_connection : (conn : ℕ) → ConnectionIs (halves s.words) histories conn (calls conn)
  pub each_seat : (seat : ℕ) (view : View) → get_elem? s.views seat ≡ some view
      → Knows histories places calls seats (length s.homes) seat view
  -- the pass of a connection is at its seat
  pub live : (conn seat : ℕ) → seats conn ≡ suc seat
      → (taken : std.Option (ℕ × List Entry)) × (trace : Trace)
      × (get_elem? s.views seat ≡ some (Pass conn (calls conn) taken trace))
  -- the entries are the calls of at most 4,096 connections, so there are at most 2^52
  pub sums : halves s.words ≡ sum_below 4096 (λ conn. length (calls conn))
