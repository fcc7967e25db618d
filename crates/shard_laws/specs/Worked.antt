-- Example calls on one shard: what it answers to them, one after the other.
use Rattle.std.specs.Prelude.{◌≡◌, ℕ, List, [], ◌∷◌, map, codes}
use Rattle.mc_calls.specs.declared.call.Call.{Call}
use Rattle.mc_calls.specs.declared.call.Call.TheVariants as Calls
use Rattle.mc_calls.specs.declared.call_reply.CallReply.{CallReply}
use Rattle.mc_calls.specs.declared.call_reply.CallReply.TheVariants as Replies
use Rattle.mc_calls.specs.Shard.{State, empty_state, reply_to, state_after}

-- the replies of shard `number` of `shards` to calls, from a state on
abbrev pub answers_from : ℕ → ℕ → State → List Call → List CallReply
answers_from shards number state [] = []
answers_from shards number state (call ∷ calls) =
    reply_to state call ∷ answers_from shards number (state_after shards number state call) calls

-- what shard 12 of 16, without items, answers
abbrev pub answers : List Call → List CallReply
answers calls = answers_from 16 12 empty_state calls

-- example calls, each with the reply to it
abbrev pub Rows : Type 0
Rows = List (Call × CallReply)

-- that shard answers these calls so
abbrev pub HaveTheseReplies : Rows → Type 0
HaveTheseReplies rows = answers (map (λ row. row.0) rows) ≡ map (λ row. row.1) rows

-- ---- items and their uniques

-- an item is stored, and then exchanged by its CAS value
abbrev pub exchanges : Rows
exchanges =
    (Calls.Get (codes "a"), Replies.Miss)
    ∷ (Calls.Set (codes "a") 0 (codes "x"), Replies.Stored)
    ∷ (Calls.Cas 0 (codes "a") 99 (codes "y"), Replies.Exists)
    ∷ (Calls.Get (codes "a"), Replies.Hit 0 28 (codes "x"))
    ∷ (Calls.Cas 0 (codes "b") 1 (codes "z"), Replies.NotFound)
    ∷ (Calls.Cas 0 (codes "a") 28 (codes "y"), Replies.Stored)
    ∷ (Calls.Get (codes "a"), Replies.Hit 0 44 (codes "y"))
    ∷ []

-- ---- values that are joined and replaced

-- calls that need an item, first without one and then with one
abbrev pub joins : Rows
joins =
    (Calls.Replace (codes "b") 0 (codes "x"), Replies.NotStored)
    ∷ (Calls.Append (codes "b") (codes "x"), Replies.NotStored)
    ∷ (Calls.Prepend (codes "b") (codes "x"), Replies.NotStored)
    ∷ (Calls.Add (codes "b") 7 (codes "x"), Replies.Stored)
    ∷ (Calls.Add (codes "b") 0 (codes "y"), Replies.NotStored)
    ∷ (Calls.Append (codes "b") (codes "yz"), Replies.Stored)
    ∷ (Calls.Prepend (codes "b") (codes "w"), Replies.Stored)
    ∷ (Calls.Get (codes "b"), Replies.Hit 7 60 (codes "wxyz"))
    ∷ (Calls.Replace (codes "b") 1 (codes "v"), Replies.Stored)
    ∷ (Calls.Get (codes "b"), Replies.Hit 1 76 (codes "v"))
    ∷ []

-- ---- numbers

-- values that are counted up past the largest number, up from padded digits, and down to 0; and
-- values that are no numbers
abbrev pub counts : Rows
counts =
    (Calls.Incr (codes "c") 1, Replies.NotFound)
    ∷ (Calls.Set (codes "c") 5 (codes "18446744073709551615"), Replies.Stored)
    ∷ (Calls.Incr (codes "c") 1, Replies.Number 0)
    ∷ (Calls.Get (codes "c"), Replies.Hit 5 44 (codes "0"))
    ∷ (Calls.Set (codes "c") 0 (codes "007"), Replies.Stored)
    ∷ (Calls.Incr (codes "c") 3, Replies.Number 10)
    ∷ (Calls.Decr (codes "c") 11, Replies.Number 0)
    ∷ (Calls.Set (codes "c") 0 (codes "x"), Replies.Stored)
    ∷ (Calls.Decr (codes "c") 5, Replies.NotNumber)
    ∷ (Calls.Decr (codes "d") 5, Replies.NotFound)
    ∷ []

-- ---- items that are removed

-- one item is removed, and then all are
abbrev pub removals : Rows
removals =
    (Calls.Delete (codes "d"), Replies.NotFound)
    ∷ (Calls.Set (codes "a") 0 (codes "x"), Replies.Stored)
    ∷ (Calls.Delete (codes "a"), Replies.Deleted)
    ∷ (Calls.Get (codes "a"), Replies.Miss)
    ∷ (Calls.Set (codes "b") 0 (codes "x"), Replies.Stored)
    ∷ (Calls.Flush, Replies.Flushed)
    ∷ (Calls.Get (codes "b"), Replies.Miss)
    ∷ (Calls.Set (codes "a") 0 [], Replies.Stored)
    ∷ (Calls.Get (codes "a"), Replies.Hit 0 60 [])
    ∷ []
