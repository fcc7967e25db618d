-- The fields of a capture, docs/FORMATS.md, "Capture": how many bytes each has, and what a whole one
-- does.
use Rattle.std.specs.Prelude.{ℕ, ◌+◌, ◌-◌, ◌==◌, ◌&&◌, nat_lt, if◌then◌else◌, Bool, true, false, List, [], get_or, Some}
use Rattle.std.specs.Int.{from_be_bytes, w32}
use Rattle.zy_read.specs.declared.magic.MagicPart.TheVariants.{Letters}
use Rattle.zy_read.specs.declared.magic.MagicStep.{MagicStep}
use Rattle.zy_read.specs.Magic.{magic_step, magic_judged}
use Rattle.zy_read.specs.Format as Reads
use Rattle.zy_read.specs.Fields.{Judged, Fields, Place}
use Rattle.zy_read.specs.Fields.Judged.{Then, Gives, Wrong}
use Rattle.zy_capture.specs.declared.record.Record.{Record}
use Rattle.zy_capture.specs.declared.record.Record.TheVariants as Kinds
use Rattle.zy_capture.specs.declared.capture_fault.CaptureFault.{CaptureFault}
use Rattle.zy_capture.specs.declared.capture_fault.CaptureFault.TheVariants.{BadMagic, ConnCount, BadTag, ConnRange}
use Rattle.zy_capture.specs.declared.capture_fault.CaptureFault.TheVariants.{SegmentLength, Truncated, Trailing, TooLong}
use Rattle.zy_capture.specs.declared.due.Due.{Due}
use Rattle.zy_capture.specs.declared.due.Due.TheVariants.{Magic, Count, Tag, Connection, Length}
use Rattle.zy_capture.specs.declared.due.Due.TheVariants.{Payload, Closed, Nothing}
use Rattle.zy_capture.specs.declared.capture_state.CaptureState.{CaptureState}
use Rattle.zy_capture.specs.Capture.{letters, connection_limit, segment_limit, capture_limit}

-- ---- the state

-- the state of a capture of this version and with this count, when this is the next field
abbrev pub state : Due → ℕ → ℕ → CaptureState
state due version count = record { due = due; version = version; count = count }

-- the state before the first field
abbrev pub start : CaptureState
start = state (Magic Letters) 0 0

-- this is the next field of the same capture
abbrev pub to : CaptureState → Due → CaptureState
to s due = state due s.version s.count

-- how many bytes a field has
abbrev pub width : Due → ℕ
width Count = 4
width Connection = 4
width (Length conn) = 4
width Closed = 4
width (Payload conn others) = others + 1
width due = 1

-- the end was read
abbrev pub is_nothing : Due → Bool
is_nothing Nothing = true
is_nothing due = false

-- ---- what a whole field does

-- what the fields of a capture do
abbrev pub Judgement : Type 0
Judgement = Judged CaptureState Record CaptureFault

-- the number of four bytes
abbrev pub number : List ℕ → ℕ
number field = from_be_bytes w32 field

-- the byte of a field of one byte
abbrev pub byte : List ℕ → ℕ
byte field = get_or field 0 0

-- a segment of this connection
abbrev pub segment : ℕ → List ℕ → Record
segment conn bytes = Kinds.Segment (record { conn = conn; bytes = bytes })

-- what a byte of the magic does
abbrev pub judge_magic : CaptureState → ℕ → MagicStep → Judgement
judge_magic s at step =
    magic_judged (λ part. to s (Magic part)) (λ version. state Count version s.count) (BadMagic at) step

-- what the connection count does
abbrev pub judge_count : CaptureState → ℕ → Judgement
judge_count s count =
    if nat_lt connection_limit count then Wrong (ConnCount count) else Then (state Tag s.version count)

-- what the tag of a record does, or the end
abbrev pub judge_tag : CaptureState → ℕ → ℕ → Judgement
judge_tag s at tag =
    if tag == 83 then Then (to s Connection)
    else if tag == 69 then Then (to s Nothing)
    else if tag == 67 && s.version == 2 then Then (to s Closed)
    else Wrong (BadTag at tag)

-- what the connection of a segment does
abbrev pub judge_connection : CaptureState → ℕ → ℕ → Judgement
judge_connection s at conn =
    if nat_lt conn s.count then Then (to s (Length conn)) else Wrong (ConnRange at conn)

-- what the length of a segment of this connection does; a segment of length zero is whole
abbrev pub judge_length : CaptureState → ℕ → ℕ → ℕ → Judgement
judge_length s conn at size =
    if nat_lt segment_limit size then Wrong (SegmentLength at size)
    else if size == 0 then Gives (to s Tag) (segment conn [])
    else Then (to s (Payload conn (size - 1)))

-- what the connection of a close record does
abbrev pub judge_closed : CaptureState → ℕ → ℕ → Judgement
judge_closed s at conn =
    if nat_lt conn s.count then Gives (to s Tag) (Kinds.Close conn) else Wrong (ConnRange at conn)

-- what a whole field that begins at this place does
abbrev pub judged : Due → CaptureState → ℕ → List ℕ → Judgement
judged (Magic part) s at field = judge_magic s at (magic_step part letters at (byte field))
judged Count s at field = judge_count s (number field)
judged Tag s at field = judge_tag s at (byte field)
judged Connection s at field = judge_connection s at (number field)
judged (Length conn) s at field = judge_length s conn at (number field)
judged (Payload conn others) s at field = Gives (to s Tag) (segment conn field)
judged Closed s at field = judge_closed s at (number field)
judged Nothing s at field = Wrong (Trailing at)

-- the fields of a capture
abbrev pub fields : Fields CaptureState Record CaptureFault
fields = record {
  start = start;
  width = λ s. width s.due;
  judge = λ s. judged s.due s;
  is_end = λ s. is_nothing s.due;
  limit = capture_limit;
  too_long = TooLong;
  truncated = Truncated;
}

-- ---- how far a text was read

-- where a text was read up to some byte
abbrev pub CaptureProgress : Type 0
CaptureProgress = Place CaptureState CaptureFault

-- what a byte does: where it leads, and the record that it ends
abbrev pub CaptureStep : Type 0
CaptureStep = Reads.Step CaptureProgress Record

-- the progress after a field that ends here and leads to this state
abbrev pub after_field : CaptureProgress → CaptureState → CaptureProgress
after_field p s = record p { state = s; seen = []; at = p.at + 1 }

-- the place where this fault was met
abbrev pub broken_by : CaptureProgress → CaptureFault → CaptureProgress
broken_by p fault = record p { seen = []; fault = Some fault }

-- where the eight bytes lead that a segment begins with, of this connection and with these first bytes of its length
abbrev pub headed : CaptureProgress → ℕ → List ℕ → CaptureProgress
headed p conn bytes = record p { state = to p.state (Length conn); seen = bytes; at = p.at + 8 }
