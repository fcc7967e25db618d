-- What was read of a capture, in pieces: the records that were cut, the bytes, and why it is read no further.
use Rattle.std.specs.Prelude.{◌≡◌, ◌⊎◌, ◌↔◌, ℕ, ◌<◌, ◌≤◌, List, [], ◌∷◌, ◌++◌, length, Option, None, Some, IfSome, Result}
use Rattle.std.specs.Prelude.{Ok, Err, Bool, true, false, ⊤}
use Rattle.std.specs.Io.KnownBytes.{IsAtEnd}
use Rattle.zy_base.specs.Outside.{Rose}
use Rattle.zy_read.specs.declared.stop.Stop.{Stop}
use Rattle.zy_read.specs.declared.stop.Stop.TheVariants.{Refused, ReadFault, NoMemory}
use Rattle.zy_read.specs.Piece.{HasGiven}
use Rattle.zy_read.specs.declared.not_taken.NotTaken.{NotTaken}
use Rattle.zy_read.specs.Standing.{Feeds, TellsFault, TellsLasting, given_in}
use Rattle.zy_capture.specs.declared.record.Record.{Record}
use Rattle.zy_capture.specs.declared.capture_fault.CaptureFault.{CaptureFault}
use Rattle.zy_capture.specs.Steps.{CaptureProgress}
use Rattle.zy_capture.specs.Standing.{StandsForRecords, EndsAs}
use Rattle.zy_capture.specs.Verdict.{captures, verdict, fault_of, version_of, count_of, is_within_record}
use Rattle.zy_capture.specs.Whole.{BeginsWithRecord}
use Rattle.zy_capture.specs.Verdict.Verdict.{Bad}
use Rattle.zy_feed.specs.declared.intake.Header.{Header}

-- ---- a capture that is read in pieces

-- how far the reader is, and the bytes of the piece that were not fed to it yet
pub record Intake : Type 0 where
  pub reader : CaptureProgress
  pub left : List ℕ

-- the intake with these parts
abbrev pub in_pieces : CaptureProgress → List ℕ → Intake
in_pieces reader left = record { reader = reader; left = left }

-- nothing was read yet
abbrev pub IsUnread : Intake → Type 0
IsUnread intake = StandsForRecords intake.reader [] [] × (intake.left ≡ [])

-- these records were cut from these bytes, in which no fault was met; since the state `first`, a
-- source gave these bytes, followed by those left of the piece
pub record HasRead {S : Type 0} (rest : S → Option (List ℕ)) (faults : S → ℕ) (first now : S) (intake : Intake)
    (records : List Record) (bytes : List ℕ) : Type 0 where
  pub reader : StandsForRecords intake.reader records bytes
  pub clean : fault_of bytes ≡ None
  pub given : HasGiven rest faults first now intake.left bytes

-- the bytes are a capture with these records, and the source is at its end
pub record HasReadAll {S : Type 0} (rest : S → Option (List ℕ)) (faults : S → ℕ) (first now : S) (intake : Intake)
    (records : List Record) (bytes : List ℕ) : Type 0 where
  pub reads : HasRead rest faults first now intake records bytes
  pub good : EndsAs records (Ok tt) (verdict bytes)
  pub none : intake.left ≡ []
  pub end : IsAtEnd (rest now)

-- the cause of each stop: the fault is the verdict on all that the source held at first, if that is
-- known; or its count of faults rose, or is at its largest value; `NoMemory` needs no cause
abbrev pub StopsIntakeBy : {S : Type 0} → (S → Option (List ℕ)) → (S → ℕ) → S → S → Stop CaptureFault → Type 0
StopsIntakeBy rest faults first now (Refused fault) = IfSome (rest first) (λ text. verdict text ≡ Bad fault)
StopsIntakeBy rest faults first now ReadFault = Rose (faults first) (faults now)
StopsIntakeBy rest faults first now NoMemory = ⊤

-- ---- the magic and the count

-- this version and this count are read from the bytes
abbrev pub TellsHeader : List ℕ → Header → Type 0
TellsHeader bytes header = (version_of bytes ≡ Some header.version) × (count_of bytes ≡ Some header.count)

-- version or count cannot be read from the bytes yet
abbrev pub TellsNoHeader : List ℕ → Type 0
TellsNoHeader bytes = (version_of bytes ≡ None) ⊎ (count_of bytes ≡ None)

-- no record was cut yet, and version and count were read
pub record HasBegun {S : Type 0} (rest : S → Option (List ℕ)) (faults : S → ℕ) (first now : S) (intake : Intake)
    (header : Header) : Type 0 where
  pub bytes : List ℕ
  pub reads : HasRead rest faults first now intake [] bytes
  pub told : TellsHeader bytes header

-- ---- one further record

-- a record was cut, or the capture came to its end, or it is read no further
abbrev pub Cuts : {S : Type 0} → (S → Option (List ℕ)) → (S → ℕ) → S → S → Intake → List Record → List ℕ
    → Result (Option Record) (Stop CaptureFault) → Type 0
Cuts rest faults first now intake records bytes (Ok (Some record')) =
    (more : List ℕ) × HasRead rest faults first now intake (records ++ record' ∷ []) (bytes ++ more)
Cuts rest faults first now intake records bytes (Ok None) =
    (more : List ℕ) × HasReadAll rest faults first now intake records (bytes ++ more)
Cuts rest faults first now intake records bytes (Err stop) = StopsIntakeBy rest faults first now stop

-- ---- for the intake alone

-- the reader took the first bytes of the rest of the piece, at most `most`, and this is its answer
pub record TakesFirst (most : ℕ) (old new : Intake)
    (answer : Result (Option Record) (NotTaken CaptureFault)) : Type 0 where
  pub fed : List ℕ
  pub left : old.left ≡ fed ++ new.left
  pub few : length fed ≤ most
  pub some : (gave : Option Record) → answer ≡ Ok gave → 0 < length fed
  pub feeds : Feeds captures old.reader new.reader fed (given_in answer)
  pub exact : TellsFault captures old.reader fed answer
  pub lasts : TellsLasting captures old.reader fed answer

-- there are bytes, or none and the capture is whole, or it is read no further
abbrev pub RefillsIntake : {S : Type 0} → (S → Option (List ℕ)) → (S → ℕ) → S → S → Intake → List Record → List ℕ
    → Result Bool (Stop CaptureFault) → Type 0
RefillsIntake rest faults first now intake records bytes (Ok true) = HasRead rest faults first now intake records bytes
RefillsIntake rest faults first now intake records bytes (Ok false) =
    HasReadAll rest faults first now intake records bytes
RefillsIntake rest faults first now intake records bytes (Err stop) = StopsIntakeBy rest faults first now stop

-- whether the bytes that were read end outside of records, and those left of the piece begin with a whole record
abbrev pub HoldsRecord : List ℕ → List ℕ → Bool → Type 0
HoldsRecord bytes left holds = (holds ≡ true) ↔ ((is_within_record bytes ≡ false) × BeginsWithRecord left)
