-- What a feeder has read of a capture, and what each core was sent.
use Rattle.std.specs.Prelude.{◌≡◌, ◌≢◌, ◌↔◌, ℕ, ◌<◌, ◌^◌, ◌≤◌, ◌==◌, nat_lt, if◌then◌else◌, List, [], ◌∷◌, ◌++◌}
use Rattle.std.specs.Prelude.{length, Option, None, Some, slice_get, slice_set, ⊤}
use Rattle.std.specs.Io.KnownBytes.{Consumes, IsAtEnd}
use Rattle.zy_read.specs.declared.stop.Stop.{Stop}
use Rattle.zy_read.specs.Bytes.{AreBytes}
use Rattle.zy_capture.specs.declared.record.Record.{Record}
use Rattle.zy_capture.specs.declared.capture_fault.CaptureFault.{CaptureFault}
use Rattle.zy_capture.specs.Capture.{IsCapture}
use Rattle.zy_capture.specs.Streams.{closes}
use Rattle.zy_capture.specs.Verdict.{verdict}
use Rattle.zy_capture.specs.Verdict.Verdict.{Good}
use Rattle.zy_rx.specs.declared.rx.Rx.{Rx}
use Rattle.zy_rx.specs.declared.rx.Rx.TheVariants.{Segment, Close, End}
use Rattle.zy_rx.specs.Flow.{home_of}
use Rattle.zy_rx.specs.Ring.{Offering}
use Rattle.zy_feed.specs.Routing.{items_for, offered_to}
use Rattle.zy_rx.specs.declared.feeder.Fed.{Fed}
use Rattle.zy_rx.specs.declared.feeder.Fed.TheVariants as Answers
use Rattle.zy_rx.specs.Feed.{rings_of, sent_by, HasOffered, HasNoRoom}
use Rattle.zy_feed.specs.declared.intake.Header.{Header}
use Rattle.zy_feed.specs.declared.stage.Stage.{Stage}
use Rattle.zy_feed.specs.declared.feeder.CaptureFeeder.{CaptureFeeder}
use Rattle.zy_feed.specs.declared.stage.Stage.TheVariants.{Cutting, Waiting, Ending, Ended, Broken}
use Rattle.zy_feed.specs.Reads.{Intake, HasRead, HasReadAll, StopsIntakeBy}

-- ---- inlets

-- the core that an item is for, among `cores` cores; the end is for every core, and counts as one
-- for the first
abbrev pub home_in : ℕ → Rx → ℕ
home_in cores (Segment conn bytes) = home_of cores conn
home_in cores (Close conn) = home_of cores conn
home_in cores End = 0

-- this item was offered to this core
pub record OffersTo (core : ℕ) (item : Rx) (before after : List Offering) : Type 0 where
  pub sent : List Rx
  pub was : slice_get (sent_by before) core ≡ Some sent
  pub is : sent_by after ≡ slice_set (sent_by before) core (sent ++ item ∷ [])

-- ---- a feeder

-- a feeder: its source, its capture in pieces, what each core was sent, and its stage
pub record Feeding (S : Type 0) : Type 0 where
  pub source : S
  pub intake : Intake
  pub sents : List (List Rx)
  pub stage : Stage

-- the feeder with these parts, by what was sent to its inlets
abbrev pub feeding : {S : Type 0} → S → Intake → List Offering → Stage → Feeding S
feeding source intake inlets stage = record { source = source; intake = intake; sents = sent_by inlets; stage = stage }

-- this feeder, and the same in another stage
abbrev pub feeder_state : {S : Type 0} → CaptureFeeder S → Feeding S
feeder_state f = feeding f.source.now f.intake f.inlets f.stage

-- the feeder of the code, in this stage
abbrev pub in_stage : {S : Type 0} → CaptureFeeder S → Stage → Feeding S
in_stage f stage = feeding f.source.now f.intake f.inlets stage

-- why a feeder broke; none if it is not broken
abbrev pub stop_in : Stage → Option (Stop CaptureFault)
stop_in (Broken stop) = Some stop
stop_in stage = None

-- an item of a feeder waits
abbrev pub IsWaiting : Stage → Type 0
IsWaiting (Waiting item) = ⊤
IsWaiting stage = ⊥

-- a feeder is broken
abbrev pub IsBroken : Stage → Type 0
IsBroken (Broken stop) = ⊤
IsBroken stage = ⊥

-- the end, if it was offered to this core: it was offered to the cores below the next one
abbrev pub end_before : ℕ → ℕ → List Rx
end_before core next = if nat_lt core next then End ∷ [] else []

-- the item, if it is for this core
abbrev pub kept_for : ℕ → ℕ → Rx → List Rx
kept_for cores core item = if home_in cores item == core then item ∷ [] else []

-- what a core was sent by a feeder that has cut these records: the items that are for it, without the one that
-- waits, and then the end if it was offered
abbrev pub IsSent : ℕ → ℕ → Stage → List Rx → List Record → Type 0
IsSent cores core (Waiting item) sent records = sent ++ kept_for cores core item ≡ items_for cores core records
IsSent cores core (Ending next) sent records = sent ≡ items_for cores core records ++ end_before core next
IsSent cores core Ended sent records = sent ≡ offered_to cores core records
IsSent cores core stage sent records = sent ≡ items_for cores core records

-- each core was sent that
abbrev pub AreSent : List (List Rx) → Stage → List Record → Type 0
AreSent sents stage records =
    (core : ℕ) (sent : List Rx) → slice_get sents core ≡ Some sent → IsSent (length sents) core stage sent records

-- a feeder stopped, and this is the cause
pub record HasStoppedFeeding {S : Type 0} (rest : S → Option (List ℕ)) (faults : S → ℕ) (first now : S)
    (stop : Stop CaptureFault) : Type 0 where
  pub cause : StopsIntakeBy rest faults first now stop
  pub count : faults first ≤ faults now

-- what a feeder has read, by its stage: these records in these bytes; the whole capture, once its
-- records have ended; or it stopped
abbrev pub IsReadTo : {S : Type 0} → (S → Option (List ℕ)) → (S → ℕ) → S → S → Intake → Stage → List Record → List ℕ
    → Type 0
IsReadTo rest faults first now intake Cutting records bytes = HasRead rest faults first now intake records bytes
IsReadTo rest faults first now intake (Waiting item) records bytes = HasRead rest faults first now intake records bytes
IsReadTo rest faults first now intake (Ending core) records bytes =
    HasReadAll rest faults first now intake records bytes
IsReadTo rest faults first now intake Ended records bytes = HasReadAll rest faults first now intake records bytes
IsReadTo rest faults first now intake (Broken stop) records bytes = HasStoppedFeeding rest faults first now stop

-- since its source was in the first state, a feeder has cut these records from these bytes, and
-- sent their items
pub record Stands {S : Type 0} (rest : S → Option (List ℕ)) (faults : S → ℕ) (first : S) (f : Feeding S)
    (records : List Record) (bytes : List ℕ) : Type 0 where
  pub read : IsReadTo rest faults first f.source f.intake f.stage records bytes
  pub sent : AreSent f.sents f.stage records

-- the later feeder has cut more records from more bytes, whatever the earlier one has read
abbrev pub LeadsTo : {S : Type 0} → (S → Option (List ℕ)) → (S → ℕ) → Feeding S → Feeding S → Type 0
LeadsTo {S} rest faults f g =
    (first : S) (records : List Record) (bytes : List ℕ) → Stands rest faults first f records bytes
    → (more : List Record) × ((fed : List ℕ) × Stands rest faults first g (records ++ more) (bytes ++ fed))

-- what a step's answer means for inlets and stage
pub record StepsTo (before after : List Offering) (stage : Stage) (fed : Fed) : Type 0 where
  pub offered : fed ≡ Answers.Offered → HasOffered before after
  pub kept : fed ≢ Answers.Offered → sent_by after ≡ sent_by before
  pub full : fed ≡ Answers.Full → HasNoRoom after
  pub ended : (fed ≡ Answers.Ended) ↔ (stage ≡ Ended)
  pub broken : (fed ≡ Answers.Broken) ↔ IsBroken stage
  pub rings : rings_of after ≡ rings_of before

-- ---- the whole

-- no core was sent anything
abbrev pub AreUnsent : List (List Rx) → Type 0
AreUnsent sents = (core : ℕ) (sent : List Rx) → slice_get sents core ≡ Some sent → sent ≡ []

-- the source held a capture with this version and count and came to its end, and each core was sent
-- the items of its records that are for it, followed by the end
pub record HasFedAll {S : Type 0} (rest : S → Option (List ℕ)) (faults : S → ℕ) (first now : S) (header : Header)
    (sents : List (List Rx)) : Type 0 where
  pub records : List Record
  pub bytes : List ℕ
  pub small : AreBytes bytes
  pub good : verdict bytes ≡ Good header.version header.count records
  -- the records are those of a capture of this version and count, and few of them are closes
  pub lawful : IsCapture header.version header.count records
  pub few : (conn : ℕ) → closes conn records < 2 ^ 31
  pub source : Consumes (rest first) (rest now) bytes
  pub end : IsAtEnd (rest now)
  pub count : faults first ≤ faults now
  pub sent : (core : ℕ) (sent : List Rx) → slice_get sents core ≡ Some sent
      → sent ≡ offered_to (length sents) core records
