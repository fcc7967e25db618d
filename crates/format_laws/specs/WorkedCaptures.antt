-- Example captures, replies files and outputs, and texts that are near their most bytes.
use Rattle.std.specs.Prelude.{ℕ, List, [], ◌∷◌, ◌++◌, codes, Option}
use Rattle.zy_base.specs.declared.file_fault.FileFault.{FileFault}
use Rattle.zy_capture.specs.declared.record.Record.{Record}
use Rattle.zy_capture.specs.declared.record.Record.TheVariants as Kinds
use Rattle.zy_capture.specs.declared.capture_fault.CaptureFault.{CaptureFault}
use Rattle.zy_capture.specs.declared.due.Due.TheVariants as Dues
use Rattle.zy_capture.specs.declared.replies_due.RepliesDue.TheVariants as RepliesDues
use Rattle.zy_read.specs.Format.{read_on}
use Rattle.zy_read.specs.Fields.{at_state, step}
use Rattle.zy_capture.specs.Steps.{state, fields}
use Rattle.zy_capture.specs.RepliesVerdict as Replies
use Rattle.zy_capture.specs.Outputs.{AllOutputs}

-- ---- captures

-- three segments of two connections, one of which is empty
abbrev pub segments : List Record
segments =
    Kinds.Segment (record { conn = 1; bytes = codes "abc" })
    ∷ Kinds.Segment (record { conn = 0; bytes = [] })
    ∷ Kinds.Segment (record { conn = 1; bytes = codes "d" })
    ∷ []

-- their capture
abbrev pub segments_text : List ℕ
segments_text =
    codes "ZYGCAP1\n\0\0\0\u{2}S\0\0\0\u{1}\0\0\0\u{3}abcS\0\0\0\0\0\0\0\0S\0\0\0\u{1}\0\0\0\u{1}dE"

-- both connections close, and the first one goes on
abbrev pub sessions : List Record
sessions =
    Kinds.Segment (record { conn = 0; bytes = codes "ab" })
    ∷ Kinds.Close 0
    ∷ Kinds.Close 1
    ∷ Kinds.Segment (record { conn = 0; bytes = codes "c" })
    ∷ []

-- their capture
abbrev pub sessions_text : List ℕ
sessions_text = codes "ZYGCAP2\n\0\0\0\u{2}S\0\0\0\0\0\0\0\u{2}abC\0\0\0\0C\0\0\0\u{1}S\0\0\0\0\0\0\0\u{1}cE"

-- the fault that is met in a text after the first `at` bytes of a capture of version 2 with one
-- connection, when a record is expected
abbrev pub met_behind : ℕ → List ℕ → Option CaptureFault
met_behind at text =
    (read_on (step fields) (at_state (state Dues.Tag 2 1) at) text).last.fault

-- ---- replies files

-- an output of each of two connections
abbrev pub outputs : AllOutputs
outputs = record { version = 1; sessions = (codes "ok" ∷ []) ∷ ([] ∷ []) ∷ [] }

-- their replies file
abbrev pub outputs_text : List ℕ
outputs_text = codes "ZYGREP1\nR\0\0\0\0\0\0\0\0\0\0\0\u{2}okR\0\0\0\u{1}\0\0\0\0\0\0\0\0E"

-- the outputs of two sessions of the first connection, and of one of the second
abbrev pub session_outputs : AllOutputs
session_outputs = record { version = 2; sessions = (codes "ok" ∷ [] ∷ []) ∷ (codes "x" ∷ []) ∷ [] }

-- their replies file
abbrev pub session_outputs_text : List ℕ
session_outputs_text =
    codes "ZYGREP2\nR\0\0\0\0\0\0\0\0\0\0\0\0\0\0\0\u{2}ok"
    ++ codes "R\0\0\0\0\0\0\0\u{1}\0\0\0\0\0\0\0\0R\0\0\0\u{1}\0\0\0\0\0\0\0\0\0\0\0\u{1}xE"

-- the fault that is met in a text after the first `at` bytes of a replies file of version 1, when a
-- record is expected
abbrev pub met_behind_replies : ℕ → List ℕ → Option FileFault
met_behind_replies at text =
    (Replies.read_from (at_state (record {
      due = RepliesDues.Tag;
      version = 1;
      connections = 0;
      sessions = 0;
    }) at) text).last.fault
