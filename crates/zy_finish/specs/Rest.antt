-- The blocks and outputs of each home while connections are taken from it, one after another. No
-- public clause cites this module.
use Rattle.std.specs.Prelude.{◌≡◌, ℕ, zero, suc, ◌<◌, List, [], ◌∷◌, ◌++◌, length, map, drop, Option, None, Some, slice_get, option_map}
use Rattle.atomic_table.specs.Seated.{TableId}
use Rattle.mc_calls.specs.declared.entry.Entry.{Entry}
use Rattle.mc_calls.specs.declared.hold.Hold.{Hold}
use Rattle.mc_calls.specs.Order.{IsMergeOf}
use Rattle.zy_rx.specs.Flow.{home_of}
use Rattle.mc_store.specs.Joined.{Joined}
use Rattle.mc_store.specs.Closing.{AreClosed}
use Rattle.zy_conn.specs.Kept.{KeepsCommands}
use Rattle.zy_conn.specs.Hold.{AreHolds}
use Rattle.zy_conn.specs.Block.{Blocked}
use Rattle.zy_finish.specs.Left.{Left, session_texts}
use Rattle.zy_finish.specs.Served.{all_holds, all_sent}
use Rattle.zy_home.specs.Own.{own_conns}
use Rattle.zy_home.specs.End.{EndedOutput, ended_of, blocks_in}
use Rattle.zy_home.specs.Home.{Homed}
use Rattle.zy_finish.specs.declared.rest.Rest.{Rest}
use Rattle.zy_finish.specs.declared.rest.Last.{Last}
use Rattle.zy_finish.specs.declared.gathered.Gathered.{Gathered}
use Rattle.zy_finish.specs.Part.{session_ends}

-- ---- homes

-- the rest of a home before anything is taken from it
abbrev pub rest_of_home : Homed → Rest
rest_of_home h = record { blocks = blocks_in h.blocks; ends = map ended_of h.links }

-- the number of connections below this one that belong to one of `cores` cores
abbrev pub count_below : ℕ → ℕ → ℕ → ℕ
count_below cores core conn = length (own_conns core cores conn)

-- the place of a connection at its home
abbrev pub place_of : ℕ → ℕ → ℕ
place_of cores conn = count_below cores (home_of cores conn) conn

-- the rest of a home after its connections below this one were taken
abbrev pub rest_past : ℕ → ℕ → ℕ → Rest → Rest
rest_past cores conn core rest = record {
  blocks = drop (count_below cores core conn) rest.blocks;
  ends = drop (count_below cores core conn) rest.ends;
}

-- the connections below this one were taken from the homes
abbrev pub AreTaken : List Rest → ℕ → List Rest → Type 0
AreTaken rests conn now =
    (core : ℕ) → slice_get now core ≡ option_map (rest_past (length rests) conn core) (slice_get rests core)

-- ---- connections

-- the blocks that are left of a home; none if there is no such home
abbrev pub blocks_left : Option Rest → List Blocked
blocks_left None = []
blocks_left (Some rest) = rest.blocks

-- the outputs that are left of a home
abbrev pub ends_left : Option Rest → List EndedOutput
ends_left None = []
ends_left (Some rest) = rest.ends

-- the rest of the home of a connection
abbrev pub rest_at : List Rest → ℕ → Option Rest
rest_at rests conn = slice_get rests (home_of (length rests) conn)

-- the block of a connection
abbrev pub block_of : List Rest → ℕ → Option Blocked
block_of rests conn = slice_get (blocks_left (rest_at rests conn)) (place_of (length rests) conn)

-- the output of a connection, with its ends
abbrev pub end_of : List Rest → ℕ → Option EndedOutput
end_of rests conn = slice_get (ends_left (rest_at rests conn)) (place_of (length rests) conn)

-- the calls of a block
abbrev pub calls_of_block : Option Blocked → List Entry
calls_of_block None = []
calls_of_block (Some block) = block.work.calls

-- the holds of a block
abbrev pub holds_in : Option Blocked → List Hold
holds_in None = []
holds_in (Some block) = block.holds

-- the texts of an output
abbrev pub texts_in : Option EndedOutput → List (List ℕ)
texts_in None = []
texts_in (Some end) = end.output.texts

-- the ends of an output
abbrev pub ends_in : Option EndedOutput → List ℕ
ends_in None = []
ends_in (Some end) = end.ends

-- what is left of a connection
abbrev pub left_of : ℕ → List Rest → ℕ → Left
left_of version rests conn = record {
  texts = texts_in (end_of rests conn);
  ends = session_ends version (ends_in (end_of rests conn));
  holds = holds_in (block_of rests conn);
}

-- what is left of a connection is at its place
pub record IsThere (store : TableId) (rests : List Rest) (conn : ℕ) : Type 0 where
  pub rest : Rest
  pub home : rest_at rests conn ≡ Some rest
  pub block : Blocked
  pub end : EndedOutput
  pub block_there : slice_get rest.blocks (place_of (length rests) conn) ≡ Some block
  pub end_there : slice_get rest.ends (place_of (length rests) conn) ≡ Some end
  pub conn_is : block.work.conn ≡ conn
  pub table_is : block.work.table ≡ store
  pub cores_is : block.cores ≡ length rests

-- ---- what is gathered

-- the rule of a block that was taken apart
pub record IsBlockKept (block : Blocked) : Type 0 where
  pub work : KeepsCommands block.work
  pub holds : AreHolds block.cores block.work.conn block.work.finished block.holds

-- the calls of the connections below this one, the last one first
abbrev pub joined_to : List Rest → ℕ → Joined
joined_to rests zero = []
joined_to rests (suc conn) = (conn, calls_of_block (block_of rests conn)) ∷ joined_to rests conn

-- the outputs of a connection's sessions
abbrev pub sent_of : ℕ → Last → List (List ℕ)
sent_of version last = session_texts (session_ends version last.ends.items) last.output.texts

-- the block and the output of a connection were gathered
pub record Gathers (last : Last) (g g' : Gathered) : Type 0 where
  pub table : g'.root.table ≡ g.root.table
  pub given : g'.root.given ≡ g.root.given
  pub joined : g'.root.joined ≡ (last.block.work.conn, last.block.work.calls) ∷ g.root.joined
  pub holds : g'.holds.items ≡ g.holds.items ++ last.block.holds
  pub version : g'.outputs.version ≡ g.outputs.version
  pub sessions : g'.outputs.sessions ≡ g.outputs.sessions ++ sent_of g.outputs.version last ∷ []
  pub kept : IsBlockKept last.block

-- the blocks and the outputs of the connections below this one were gathered
pub record HasGathered (version : ℕ) (rests : List Rest) (conn : ℕ) (g : Gathered) : Type 0 where
  pub joined : g.root.joined ≡ joined_to rests conn
  pub holds : g.holds.items ≡ all_holds conn (left_of version rests)
  pub version_is : g.outputs.version ≡ version
  pub sessions : g.outputs.sessions ≡ all_sent conn (left_of version rests)
  pub kept : (c : ℕ) → c < conn → (b : Blocked) → block_of rests c ≡ Some b → IsBlockKept b

-- the entries are those of the store when these passes were joined, in order
pub record AreMerged (shards : ℕ) (joined : Joined) (es : List Entry) : Type 0 where
  pub histories : List (List Entry)
  pub closed : AreClosed shards joined histories
  pub merged : IsMergeOf histories es
