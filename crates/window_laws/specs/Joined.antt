-- The recordings of windows that follow each other, as one recording.
use Rattle.std.specs.Prelude.{◌≡◌, ℕ, ◌+◌, ◌-◌, ◌<◌, List, [], ◌∷◌, ◌++◌, length, map}
use Rattle.std.specs.Prelude.{replicate, All, ⊤}
use Rattle.zy_capture.specs.declared.record.Record.{Record}
use Rattle.zy_capture.specs.declared.record.Record.TheVariants as Kinds
use Rattle.zy_verdict.specs.Recorded.{Recorded}
use Rattle.zy_items.specs.Standing.{Standing, IsStanding}
use Rattle.zy_verdict.specs.Between.{IsExplainedBetweenWith}

-- ---- two windows

-- the record, if the connections are numbered from this number on
abbrev pub raised : ℕ → Record → Record
raised first (Kinds.Segment s) = Kinds.Segment (record s { conn = first + s.conn })
raised first (Kinds.Close conn) = Kinds.Close (first + conn)

-- the record is one of the first `count` connections
abbrev pub IsOfFirst : ℕ → Record → Type 0
IsOfFirst count (Kinds.Segment s) = s.conn < count
IsOfFirst count (Kinds.Close conn) = conn < count

-- each record is one of the recording's connections, as in each capture
abbrev pub HasConnections : Recorded → Type 0
HasConnections r = All (IsOfFirst r.count) r.records

-- the outputs of `count` connections: those after the last output have one that is empty
abbrev pub filled : ℕ → List (List (List ℕ)) → List (List (List ℕ))
filled count outputs = outputs ++ replicate (count - length outputs) ([] ∷ [])

-- the recordings of two windows as one: the connections of the second are numbered after those of the first
abbrev pub joined_windows : Recorded → Recorded → Recorded
joined_windows r next = record {
  count = r.count + next.count;
  records = r.records ++ map (raised r.count) next.records;
  outputs = filled r.count r.outputs ++ next.outputs;
  shards = r.shards;
  warm = r.warm;
  forget = r.forget;
  lasting = r.lasting;
}

-- two recordings are of one server
pub record AreOfOneServer (r next : Recorded) : Type 0 where
  pub shards : r.shards ≡ next.shards
  pub forget : r.forget ≡ next.forget

-- ---- any number of windows

-- a window: its recording, what its server has at its end, and the numbers of commands and of those that a mark ends
pub record Window : Type 0 where
  pub recording : Recorded
  pub to : Standing
  pub commands : ℕ
  pub ended : ℕ

-- the recordings of a window and of those after it, as one
abbrev pub joined_all : Recorded → List Window → Recorded
joined_all r [] = r
joined_all r (window ∷ windows) = joined_windows r (joined_all window.recording windows)

-- what the server has after the last of these windows
abbrev pub last_standing : Standing → List Window → Standing
last_standing to [] = to
last_standing to (window ∷ windows) = last_standing window.to windows

-- the recording of the last of these windows
abbrev pub last_recording : Recorded → List Window → Recorded
last_recording r [] = r
last_recording r (window ∷ windows) = last_recording window.recording windows

-- the number of commands of a window, and those of the windows after it
abbrev pub all_commands : ℕ → List Window → ℕ
all_commands commands [] = commands
all_commands commands (window ∷ windows) = commands + all_commands window.commands windows

-- so of the commands that some mark ends
abbrev pub all_ended : ℕ → List Window → ℕ
all_ended ended [] = ended
all_ended ended (window ∷ windows) = ended + all_ended window.ended windows

-- each window is explained from what the server has at the end of the one before it
abbrev pub AreExplainedFrom : Recorded → Standing → List Window → Type 0
AreExplainedFrom r from [] = ⊤
AreExplainedFrom r from (window ∷ windows) =
    HasConnections r × IsStanding from × AreOfOneServer r window.recording
    × IsExplainedBetweenWith window.recording from window.to window.commands window.ended
    × AreExplainedFrom window.recording window.to windows
