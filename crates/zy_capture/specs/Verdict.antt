-- The verdict on a whole text: the capture that it spells, or its first fault. A text is read from
-- its first byte to its last. That it is good if and only if it is a spelling is a law in
-- src/laws.rt.
use Rattle.std.specs.Prelude.{ℕ, Bool, true, false, List, Option, None, Some}
use Rattle.zy_read.specs.Format.{Format, reading_of, given_by, fault_met, verdict_on}
use Rattle.zy_read.specs.Fields.{format_of}
use Rattle.zy_read.specs.Magic.{version_in}
use Rattle.zy_capture.specs.declared.record.Record.{Record}
use Rattle.zy_capture.specs.declared.capture_fault.CaptureFault.{CaptureFault}
use Rattle.zy_capture.specs.declared.due.Due.{Due}
use Rattle.zy_capture.specs.declared.due.Due.TheVariants.{Magic, Count, Connection, Length, Payload, Closed}
use Rattle.zy_capture.specs.declared.capture_state.CaptureState.{CaptureState}
use Rattle.zy_capture.specs.Steps.{CaptureProgress, fields}

-- ---- a whole text

-- what a whole text is: the version, the count and the records that it spells, or its first fault
pub data Verdict : Type 0 where
  Good : ℕ → ℕ → List Record → Verdict
  Bad : CaptureFault → Verdict

-- the verdict on a text that ends at its end
abbrev pub good : CaptureState → List Record → Verdict
good s given = Good s.version s.count given

-- the format of captures
abbrev pub captures : Format CaptureProgress Record CaptureFault Verdict
captures = format_of fields good Bad

-- the verdict on a whole text
abbrev pub verdict : List ℕ → Verdict
verdict text = verdict_on captures text

-- the text is a capture
abbrev pub is_good : Verdict → Bool
is_good (Good version count items) = true
is_good (Bad fault) = false

-- ---- what was met in a text, whatever follows

-- the connection count, if it was read whole and is not too large
abbrev pub count_in : Due → ℕ → Option ℕ
count_in (Magic part) count = None
count_in Count count = None
count_in due count = Some count

-- a record was begun, and has not ended
abbrev pub is_record_open : Due → Bool
is_record_open Connection = true
is_record_open (Length conn) = true
is_record_open (Payload conn others) = true
is_record_open Closed = true
is_record_open due = false

-- the same, by the fault that was met
abbrev pub is_within_by : Option CaptureFault → Due → Bool
is_within_by None due = is_record_open due
is_within_by (Some fault) due = false

-- the records that are whole in a text, before its first fault
abbrev pub records_of : List ℕ → List Record
records_of text = given_by captures text

-- the fault that was met in a text
abbrev pub fault_of : List ℕ → Option CaptureFault
fault_of text = fault_met captures text

-- where a text was read up to its last byte
abbrev pub last_progress : List ℕ → CaptureProgress
last_progress text = (reading_of captures text).last

-- the version of a text's magic
unfoldable pub version_of : List ℕ → Option ℕ
version_of text = version_in (last_progress text).state.version

-- the connection count of a text
unfoldable pub count_of : List ℕ → Option ℕ
count_of text = count_in (last_progress text).state.due (last_progress text).state.count

-- a record was begun in a text, and has not ended
unfoldable pub is_within_record : List ℕ → Bool
is_within_record text = is_within_by (last_progress text).fault (last_progress text).state.due
