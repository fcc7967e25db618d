-- Walking through the entries. No public clause cites this module.
use Rattle.std.specs.Prelude.{◌≡◌, ℕ, ◌+◌, ◌<◌, ◌≤◌, List, length, take, Option, None, Some}
use Rattle.std.specs.List.{slice_get}
use Rattle.mc_calls.specs.declared.entry.Entry.{Entry}
use Rattle.mc_calls.specs.Order.{of_connection, at_shard}
use Rattle.mc_calls.specs.Shard.{empty_state}
use Rattle.mc_calls.specs.History.{replayed}
use Rattle.mc_parse.specs.Calls.{due_at, due_of, dues_of}
use Rattle.mc_shard.specs.Replay.{Replayed, replaying}
use Rattle.zy_check.specs.declared.track.Track.{Track}
use Rattle.zy_check.specs.declared.verdict.Cause.{Cause}
use Rattle.zy_check.specs.declared.verdict.Verdict.TheVariants.{No}
use Rattle.zy_check.specs.Given.{Given, AreRight, AreRightBelow}
use Rattle.zy_check.specs.Begun.{Begun, asked_in}
use Rattle.zy_check.specs.Track.{HasMadeCalls}
use Rattle.zy_check.specs.Cause.{HasVerdict}

-- each connection is in the state after the calls of its entries before a place
pub record AreTracked (g : Given) (at : ℕ) (tracks : List Track) : Type 0 where
  pub count : length tracks ≡ length g.streams
  pub each : (conn : ℕ) (t : Track) → slice_get tracks conn ≡ Some t
      → HasMadeCalls g conn t (dues_of (of_connection conn (take at g.entries)))

-- `shards` shards after the calls of entries
pub record AreReplayed (shards : ℕ) (es : List Entry) (states : List Replayed) : Type 0 where
  pub count : length states ≡ shards
  pub each : (s : ℕ) → s < shards → slice_get states s
      ≡ Some (replaying s shards (replayed shards s empty_state (at_shard s es)))

-- connections and shards are in the state before the entry at a place, and each entry before it is
-- right
pub record AreBeforeEntry (g : Given) (at : ℕ) (tracks : List Track) (states : List Replayed) : Type 0 where
  pub some : 1 ≤ g.shards
  pub tracked : AreTracked g at tracks
  pub replays : AreReplayed g.shards (take at g.entries) states
  pub right : AreRightBelow g at

-- an entry is the next call of the command that is begun, which is the one with this index
abbrev pub IsDueIn : Option Begun → ℕ → Entry → Type 0
IsDueIn None index e = ⊥
IsDueIn (Some b) index e = (length b.replies < length (asked_in b))
    × (slice_get (due_at b.shards e.tag.conn index b.command) (length b.replies) ≡ Some (due_of e))

-- an entry is the next call of its connection
pub record IsNextIn (tracks : List Track) (e : Entry) : Type 0 where
  pub within : e.tag.conn < length tracks
  pub due : (t : Track) → slice_get tracks e.tag.conn ≡ Some t → IsDueIn t.begun t.commands e

-- the entry at a place is right, and connections and shards are in the state after it, or this is
-- the first cause
abbrev pub FoundAt : Given → ℕ → List Track → List Replayed → Option Cause → Type 0
FoundAt g at tracks states None = AreBeforeEntry g (at + 1) tracks states
FoundAt g at tracks states (Some cause) = HasVerdict g (No cause)

-- each entry is right, and each connection is in the state after its last, or this is the first cause
abbrev pub FoundWrong : Given → List Track → Option Cause → Type 0
FoundWrong g tracks None = AreRight g × AreTracked g (length g.entries) tracks
FoundWrong g tracks (Some cause) = HasVerdict g (No cause)
