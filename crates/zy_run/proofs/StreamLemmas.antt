-- The sessions kept for a connection are those of its records.
use Rattle.std.proofs.Common.{◌≡◌, ℕ, ◌+◌, ◌<◌, List, [], ◌∷◌, length, refl, ap, arith}
use Rattle.std.proofs.lemmas.List.FromFn.{fill_by_all, length-map-range_with_len}
use Rattle.std.specs.List.{AllByRecursion}
use Rattle.zy_capture.specs.declared.record.Record.{Record}
use Rattle.zy_capture.specs.declared.record.Record.TheVariants as Kinds
use Rattle.zy_capture.specs.Capture.{IsRecordOf}
use Rattle.zy_capture.specs.Streams.{closes, stream, sessions_of, no_bytes, with_records}
use Rattle.zy_capture.proofs.StreamLemmas.{count_held, stream_held}
use Rattle.zy_run.specs.Commands.{streams_in, commands_in, commands_over, commands_held}

pub streams_held : (count conn : ℕ) (records : List Record) → conn < count → sessions_of (with_records (no_bytes count) records) conn ≡ streams_in records conn
streams_held count conn records within =
    fill_by_all (λ session. stream conn session records) (sessions_of (with_records (no_bytes count) records) conn) (closes conn records + 1) []
    (count_held count conn records within) (λ session inside. stream_held count conn session records within)

pub held_commands : (count conn : ℕ) (records : List Record) → conn < count → commands_held (with_records (no_bytes count) records) conn ≡ commands_in records conn
held_commands count conn records within = ap commands_over (streams_held count conn records within)

-- a connection has one session more than close records
pub length-streams_in : (records : List Record) (conn : ℕ) → length (streams_in records conn) ≡ closes conn records + 1
length-streams_in records conn = length-map-range_with_len (λ session. stream conn session records) 0 (closes conn records + 1)

-- a capture of version 1 has no close records
pub closes-version_1 : (count conn : ℕ) (records : List Record) → AllByRecursion (IsRecordOf 1 count) records → closes conn records ≡ 0
closes-version_1 count conn [] lawful = refl
closes-version_1 count conn (Kinds.Segment s ∷ records) lawful = closes-version_1 count conn records lawful.1
closes-version_1 count conn (Kinds.Close other ∷ records) lawful = absurd (let is = lawful.0.0 in omega arith)
