-- What the reader of records keeps, and what it answers to a byte. No public clause cites this module.
use Rattle.std.specs.Prelude.{◌≡◌, ℕ, ◌+◌, ◌-◌, ◌<◌, ◌≤◌, Bool, true, false, List, []}
use Rattle.std.specs.Prelude.{length, take, Option, None, Some, Result, Ok, Err, ⊤}
use Rattle.zy_read.specs.declared.not_taken.NotTaken.{NotTaken}
use Rattle.zy_read.specs.declared.not_taken.NotTaken.TheVariants.{Fault, NoMemory}
use Rattle.zy_read.specs.Format.{Step}
use Rattle.zy_read.specs.Fields.{at_state}
use Rattle.zy_read.specs.Fields.Judged.{Then, Wrong}
use Rattle.zy_pcap.specs.declared.pcap_fault.PcapFault.{PcapFault}
use Rattle.zy_pcap.specs.declared.due.Due.{Due}
use Rattle.zy_pcap.specs.declared.due.Due.TheVariants as Dues
use Rattle.zy_pcap.specs.declared.pcap_state.PcapState.{PcapState}
use Rattle.zy_pcap.specs.Steps.{FilePlace, DueJudged, then_due, due_width, file_limit}

-- ---- what is kept

-- the bytes that were read of the field, of those that are kept of a number and of a frame
abbrev pub field_bytes : Due → List ℕ → List ℕ → List ℕ
field_bytes (Dues.Frame others) field frame = frame
field_bytes due field frame = field

-- the bytes that were read of a frame
abbrev pub frame_bytes : Due → List ℕ → List ℕ
frame_bytes (Dues.Frame others) seen = seen
frame_bytes due seen = []

-- the same at a place
abbrev pub frame_read : FilePlace → List ℕ
frame_read p = frame_bytes p.state.due p.seen

-- the field is no frame
abbrev pub IsWord : Due → Type 0
IsWord (Dues.Frame others) = ⊥
IsWord due = ⊤

-- the field is a number of four bytes
abbrev pub IsNumberDue : Due → Type 0
IsNumberDue Dues.Magic = ⊤
IsNumberDue Dues.Version = ⊤
IsNumberDue Dues.LinkType = ⊤
IsNumberDue Dues.Captured = ⊤
IsNumberDue due = ⊥

-- the bytes that are kept are those of the field, or of a whole frame; and there is room for a frame
abbrev pub KeepsField : Due → List ℕ → List ℕ → ℕ → Type 0
KeepsField (Dues.Frame others) field frame room = (field ≡ []) × (length frame ≤ others + 1) × (others + 1 ≤ room)
KeepsField due field frame room = (length field < due_width due) × (frame ≡ [])

-- the same, by the fault that was met; after a fault no byte is kept
abbrev pub KeepsFieldBy : Option PcapFault → Due → List ℕ → List ℕ → ℕ → Type 0
KeepsFieldBy None due field frame room = KeepsField due field frame room
KeepsFieldBy (Some fault) due field frame room = (field ≡ []) × (frame ≡ [])

-- the field is not whole
abbrev pub IsPartOfField : FilePlace → Type 0
IsPartOfField p = length p.seen < due_width p.state.due

-- ---- a byte

-- the fault was met
abbrev pub broken : FilePlace → PcapFault → FilePlace
broken p fault = record p { seen = []; fault = Some fault }

-- a record is expected after the byte
abbrev pub then_record : FilePlace → FilePlace
then_record p = at_state (then_due p.state Dues.Begin) (p.at + 1)

-- the bytes of a frame before its last one; all of a number
abbrev pub seen_before : Due → List ℕ → List ℕ
seen_before (Dues.Frame others) seen = take (length seen - 1) seen
seen_before due seen = seen

-- the place before the last byte of a frame
abbrev pub without_last : FilePlace → FilePlace
without_last p = record p { seen = seen_before p.state.due p.seen }

-- the last byte of a record: its frame is whole, and all else is as before
pub record IsRecordEnd (step : Step FilePlace (List ℕ)) (old new : FilePlace) : Type 0 where
  pub ends : step ≡ record { next = then_record old; gave = Some (frame_read new) }
  pub rest : new ≡ record old { seen = new.seen }
  pub front : without_last new ≡ old
  pub none : new.fault ≡ None
  pub room : new.at < file_limit

-- an answer and a new place are those of a step; `true` is for the last byte of a record
abbrev pub TakesMove : Step FilePlace (List ℕ) → FilePlace → FilePlace → Result Bool (NotTaken PcapFault) → Type 0
TakesMove step old new (Ok false) = (step ≡ record { next = new; gave = None }) × (new.fault ≡ None) × IsPartOfField new
TakesMove step old new (Ok true) = IsRecordEnd step old new
TakesMove step old new (Err (Fault fault)) = (step ≡ record { next = new; gave = None }) × (new.fault ≡ Some fault)
TakesMove step old new (Err NoMemory) = new ≡ old

-- ---- a number

-- an answer is what a field does, and the field gives no frame
abbrev pub DoesNext : DueJudged → Result PcapState PcapFault → Type 0
DoesNext judged (Ok next) = (judged ≡ Then next) × IsWord next.due
DoesNext judged (Err fault) = judged ≡ Wrong fault
