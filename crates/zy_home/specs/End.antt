-- What a home hands out at the end: its blocks, and the outputs of its connections.
use Rattle.std.specs.Prelude.{◌≡◌, ℕ, List, [], ◌∷◌, Option, Some, None}
use Rattle.zy_calls.specs.Output.{Output}
use Rattle.zy_table.specs.declared.name.Name.{Name}
use Rattle.zy_conn.specs.Block.{Blocked, label_in}
use Rattle.zy_home.specs.Link.{Link}

-- the blocks that are in these slots
abbrev pub blocks_in : List (Option Blocked) → List Blocked
blocks_in [] = []
blocks_in (None ∷ slots) = blocks_in slots
blocks_in (Some block ∷ slots) = block ∷ blocks_in slots

-- the end of a connection: its output, and the ends of its sessions
pub record EndedOutput : Type 0 where
  pub output : Output
  pub ends : List ℕ

-- an output with these ends of sessions
abbrev pub ended_output : Output → List ℕ → EndedOutput
ended_output output ends = record { output = output; ends = ends }

-- the end of a connection that is no longer served
abbrev pub ended_of : Link → EndedOutput
ended_of l = ended_output l.output l.ends

-- the block has this label
abbrev pub HasLabel : Name → Blocked → Type 0
HasLabel label block = label_in block ≡ label
