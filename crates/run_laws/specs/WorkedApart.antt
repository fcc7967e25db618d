-- An example capture of two connections that are apart.
use Rattle.std.specs.Prelude.{List, [], ◌∷◌, codes}
use Rattle.mc_calls.specs.declared.entry.Entry.{Entry}
use Rattle.zy_capture.specs.declared.record.Record.{Record}
use Rattle.zy_capture.specs.declared.record.Record.TheVariants as Kinds
use Rattle.zy_run.specs.declared.summary.Summary.{Summary}
use Rattle.run_laws.specs.WorkedRun.{missed, stored_and_found}

-- connection 0 stores "a" and gets it, and connection 1 gets "b" in between
abbrev pub apart_records : List Record
apart_records =
    Kinds.Segment (record { conn = 0; bytes = codes "set a 0 0 1\r\nx\r\n" })
    ∷ Kinds.Segment (record { conn = 1; bytes = codes "get b\r\n" })
    ∷ Kinds.Segment (record { conn = 0; bytes = codes "get a\r\n" })
    ∷ []

-- one of its legal runs on 16 shards: connection 1 comes first
abbrev pub apart_entries : List Entry
apart_entries = missed 5 (codes "b") ∷ stored_and_found

-- the summary of all its runs: 29 bytes for connection 0, and 5 for connection 1
abbrev pub apart_summary : Summary
apart_summary = record { commands = 3; calls = 3; reply_bytes = 34 }
