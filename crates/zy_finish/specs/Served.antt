-- All connections, when the store is closed.
use Rattle.std.specs.Prelude.{◌≡◌, ℕ, ◌<◌, ◌≤◌, List, [], map, flat_map}
use Rattle.std.specs.List.{range_with_len}
use Rattle.mc_calls.specs.declared.entry.Entry.{Entry}
use Rattle.mc_calls.specs.declared.hold.Hold.{Hold}
use Rattle.mc_calls.specs.Order.{IsMergeOf}
use Rattle.zy_capture.specs.declared.record.Record.{Record}
use Rattle.mc_store.specs.Joined.{Joined, calls_of}
use Rattle.mc_store.specs.Closing.{AreClosed}
use Rattle.zy_run.specs.Commands.{streams_in}
use Rattle.zy_finish.specs.Left.{Left, IsCarriedOut, session_texts}

-- the holds of the first `count` connections, those of each after those of the connections before it
abbrev pub all_holds : ℕ → (ℕ → Left) → List Hold
all_holds count left = flat_map (λ conn. (left conn).holds) (range_with_len 0 count)

-- the texts that the first `count` connections were sent, cut at the ends of their sessions
abbrev pub all_sent : ℕ → (ℕ → Left) → List (List (List ℕ))
all_sent count left = map (λ conn. session_texts (left conn).ends (left conn).texts) (range_with_len 0 count)

-- all that these records have of the first `count` connections was served, the store is closed, and
-- its histories are merged
pub record AreServed (shards count : ℕ) (records : List Record) (left : ℕ → Left) (joined : Joined)
    (es : List Entry) : Type 0 where
  pub histories : List (List Entry)
  -- each connection is served, by the calls of its pass
  pub each : (conn : ℕ) → conn < count → IsCarriedOut shards conn (streams_in records conn) (calls_of conn joined)
      (left conn)
  -- no other connection made a call
  pub others : (conn : ℕ) → count ≤ conn → calls_of conn joined ≡ []
  -- the histories are those of the store when all these passes were joined
  pub closed : AreClosed shards joined histories
  -- and these are their entries, in order
  pub merged : IsMergeOf histories es
