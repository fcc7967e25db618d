-- The bytes that brought a reader of captures to where it is, and the meaning of its answers.
use Rattle.std.specs.Prelude.{Option, None, Some, ◌≡◌, ℕ, ◌<◌, ◌≤◌, List, ◌∷◌, [], ◌++◌, length, Result, Ok, Err, ⊤}
use Rattle.zy_read.specs.declared.not_taken.NotTaken.{NotTaken}
use Rattle.zy_read.specs.Standing.{StandsAs, Follows}
use Rattle.zy_read.specs.Magic.{IsInMagic}
use Rattle.zy_capture.specs.declared.record.Record.{Record}
use Rattle.zy_capture.specs.declared.capture_fault.CaptureFault.{CaptureFault}
use Rattle.zy_capture.specs.declared.due.Due.{Due}
use Rattle.zy_capture.specs.declared.due.Due.TheVariants.{Magic, Count, Tag, Connection, Length, Payload, Closed}
use Rattle.zy_capture.specs.declared.due.Due.TheVariants.{Nothing}
use Rattle.zy_capture.specs.Capture.{capture_limit, segment_limit}
use Rattle.zy_capture.specs.Steps.{CaptureProgress, CaptureStep, number}
use Rattle.zy_capture.specs.Verdict.{Verdict, captures, verdict}
use Rattle.zy_capture.specs.Verdict.Verdict.{Good, Bad}

-- these bytes were fed, one after another, and these records were given for them
abbrev pub StandsForRecords : CaptureProgress → List Record → List ℕ → Type 0
StandsForRecords p given fed = StandsAs captures p given fed

-- an answer at the end of the bytes is their verdict, and what was given are its records
abbrev pub EndsAs : List Record → Result ⊤ CaptureFault → Verdict → Type 0
EndsAs given (Ok done) found = (version count : ℕ) × (found ≡ Good version count given)
EndsAs given (Err fault) found = found ≡ Bad fault

-- the bytes fed are a capture with the records that were given, or have this fault as they end
abbrev pub EndsBy : CaptureProgress → Result ⊤ CaptureFault → Type 0
EndsBy p answer = (given : List Record) (b : List ℕ) → StandsForRecords p given b → EndsAs given answer (verdict b)

-- the byte is the last one of the length of a segment that is lawful and not empty
pub record IsLengthEnd (p : CaptureProgress) (byte : ℕ) : Type 0 where
  pub conn : ℕ
  pub due : p.state.due ≡ Length conn
  pub none : p.fault ≡ None
  pub last : length p.seen ≡ 3
  pub some : 0 < number (p.seen ++ byte ∷ [])
  pub lawful : number (p.seen ++ byte ∷ []) ≤ segment_limit
  pub within : p.at < capture_limit

-- ---- for the reader only

-- the step gives this answer and state; `NoMemory` changes nothing, and is answered only at the end of a length
abbrev pub Takes : CaptureStep → CaptureProgress → CaptureProgress → ℕ → Result (Option Record) (NotTaken CaptureFault)
    → Type 0
Takes step old new byte result = Follows captures IsLengthEnd step old new byte result

-- the bytes that were read of the field, of those that are kept of a number and of a segment
abbrev pub seen_of : Due → List ℕ → List ℕ → List ℕ
seen_of (Payload conn others) field payload = payload
seen_of due field payload = field

-- the bytes that are kept are those of a field, which may begin at this place; and there is room for a segment
abbrev pub IsDueInBounds : Due → ℕ → List ℕ → List ℕ → ℕ → Type 0
IsDueInBounds (Magic part) at field payload room = IsInMagic part at × (field ≡ [])
IsDueInBounds Tag at field payload room = field ≡ []
IsDueInBounds (Payload conn others) at field payload room = (length payload ≤ others) × (others < room)
IsDueInBounds Nothing at field payload room = field ≡ []
IsDueInBounds due at field payload room = length field < 4

-- the same, by the fault that was met; after a fault no byte is kept
abbrev pub IsWithinBy : Option CaptureFault → Due → ℕ → List ℕ → List ℕ → ℕ → Type 0
IsWithinBy None due at field payload room = IsDueInBounds due at field payload room
IsWithinBy (Some fault) due at field payload room = seen_of due field payload ≡ []

-- the field has four bytes
abbrev pub IsFour : Due → Type 0
IsFour Count = ⊤
IsFour Connection = ⊤
IsFour (Length conn) = ⊤
IsFour Closed = ⊤
IsFour due = ⊥
