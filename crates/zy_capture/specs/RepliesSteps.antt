-- The fields of a replies file, and what a whole one does, by what is expected: the table of docs/FORMATS.md,
-- "Replies".
use Rattle.std.specs.Prelude.{ℕ, ◌+◌, ◌-◌, ◌^◌, ◌==◌, ◌&&◌, ◌||◌, nat_lt, if◌then◌else◌, Bool, true, false}
use Rattle.std.specs.Prelude.{List, [], get_or}
use Rattle.std.specs.Int.{from_be_bytes, w32, w64}
use Rattle.zy_base.specs.declared.file_fault.FileFault.{FileFault}
use Rattle.zy_base.specs.declared.file_fault.FileFault.TheVariants.{Form, Truncated, TooLong}
use Rattle.zy_read.specs.Fields.{Judged, Fields, Place}
use Rattle.zy_read.specs.Fields.Judged.{Then, Gives, Wrong}
use Rattle.zy_read.specs.FieldReading.{width_of}
use Rattle.zy_read.specs.declared.shape.Shape.{Shape}
use Rattle.zy_read.specs.declared.shape.Shape.TheVariants as Shapes
use Rattle.zy_read.specs.declared.magic.MagicPart.TheVariants.{Letters}
use Rattle.zy_read.specs.declared.magic.MagicStep.{MagicStep}
use Rattle.zy_read.specs.Magic.{magic_step, magic_judged}
use Rattle.zy_capture.specs.declared.session_bytes.SessionBytes.{SessionBytes}
use Rattle.zy_capture.specs.declared.replies_due.RepliesDue.{RepliesDue}
use Rattle.zy_capture.specs.declared.replies_due.RepliesDue.TheVariants.{Magic, Tag, Connection, Session, Length}
use Rattle.zy_capture.specs.declared.replies_due.RepliesDue.TheVariants.{Output, Nothing}
use Rattle.zy_capture.specs.declared.replies_state.RepliesState.{RepliesState}
use Rattle.zy_capture.specs.Capture.{connection_limit}
use Rattle.zy_capture.specs.Replies.{letters, replies_limit}

-- where a text was read up to some byte
abbrev pub RepliesPlace : Type 0
RepliesPlace = Place RepliesState FileFault

-- before the first field
abbrev pub start : RepliesState
start = record { due = Magic Letters; version = 0; connections = 0; sessions = 0 }

-- ---- what a whole field may do

-- this is expected after the field
abbrev pub goes : RepliesState → RepliesDue → Judged RepliesState SessionBytes FileFault
goes s due = Then (record s { due = due })

-- the state after the record of this session
abbrev pub after_output : RepliesState → ℕ → ℕ → RepliesState
after_output s conn session = record s { due = Tag; connections = conn + 1; sessions = session + 1 }

-- the field ends the output of this session
abbrev pub gives : RepliesState → ℕ → ℕ → List ℕ → Judged RepliesState SessionBytes FileFault
gives s conn session bytes =
    Gives (after_output s conn session) (record { conn = conn; session = session; bytes = bytes })

-- ---- a whole field

-- where a byte of the magic leads
abbrev pub after_magic : RepliesState → ℕ → MagicStep → Judged RepliesState SessionBytes FileFault
after_magic s at step =
    magic_judged (λ part. record s { due = Magic part }) (λ version. record s { due = Tag; version = version })
    (Form at) step

-- what the tag of a record does, or the end
abbrev pub tag : RepliesState → ℕ → ℕ → Judged RepliesState SessionBytes FileFault
tag s at byte = if byte == 82 then goes s Connection else if byte == 69 then goes s Nothing else Wrong (Form at)

-- the connection of a record: that of the last one, which only version 2 has, or the next one
abbrev pub may_come : RepliesState → ℕ → Bool
may_come s conn =
    nat_lt conn connection_limit && (conn == s.connections || (s.version == 2 && conn + 1 == s.connections))

-- the next session of a connection
abbrev pub due_session : RepliesState → ℕ → ℕ
due_session s conn = if conn == s.connections then 0 else s.sessions

-- the connection of a record
abbrev pub connection : RepliesState → ℕ → ℕ → Judged RepliesState SessionBytes FileFault
connection s at conn =
    if may_come s conn then (if s.version == 2 then goes s (Session conn) else goes s (Length conn 0))
    else Wrong (Form at)

-- what the session of a record does
abbrev pub session : ℕ → RepliesState → ℕ → ℕ → Judged RepliesState SessionBytes FileFault
session conn s at number =
    if number == due_session s conn && nat_lt number (2 ^ 31) then goes s (Length conn number) else Wrong (Form at)

-- what the length of an output does
abbrev pub size_read : ℕ → ℕ → RepliesState → ℕ → Judged RepliesState SessionBytes FileFault
size_read conn session s size =
    if size == 0 then gives s conn session [] else goes s (Output conn session (size - 1))

-- what a whole field does when this is expected
abbrev pub judged : RepliesDue → RepliesState → ℕ → List ℕ → Judged RepliesState SessionBytes FileFault
judged (Magic part) s at field = after_magic s at (magic_step part letters at (get_or field 0 0))
judged Tag s at field = tag s at (get_or field 0 0)
judged Connection s at field = connection s at (from_be_bytes w32 field)
judged (Session conn) s at field = session conn s at (from_be_bytes w32 field)
judged (Length conn number) s at field = size_read conn number s (from_be_bytes w64 field)
judged (Output conn number others) s at field = gives s conn number field
judged Nothing s at field = Wrong (Form at)

-- ---- the fields

-- the shape of the field that is expected
abbrev pub shape : RepliesDue → Shape
shape Connection = Shapes.Four
shape (Session conn) = Shapes.Four
shape (Length conn number) = Shapes.Eight
shape (Output conn number others) = Shapes.Run others
shape due = Shapes.Byte

-- the end was read
abbrev pub is_last : RepliesDue → Bool
is_last Nothing = true
is_last due = false

-- the fields of a replies file
abbrev pub replies_fields : Fields RepliesState SessionBytes FileFault
replies_fields = record {
  start = start;
  width = λ s. width_of (shape s.due);
  judge = λ s at field. judged s.due s at field;
  is_end = λ s. is_last s.due;
  limit = replies_limit;
  too_long = TooLong;
  truncated = Truncated;
}
