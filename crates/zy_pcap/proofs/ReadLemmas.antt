-- Reading a file: what a byte does, and what the reader's answers mean.
use Rattle.std.proofs.Common.{◌≡◌, ℕ, ◌+◌, List, [], ◌∷◌, ◌++◌, length, refl, sym, ap, ◌∙◌, subst, append_assoc}
use Rattle.std.specs.Prelude.{Option, Some, None, Bool, true, false, nat_lt, if◌then◌else◌, Result, Ok, Err, ⊤}
use Rattle.std.proofs.lemmas.List.{append-nil}
use Rattle.zy_read.specs.declared.not_taken.NotTaken.{NotTaken}
use Rattle.zy_read.specs.declared.not_taken.NotTaken.TheVariants.{Fault, NoMemory}
use Rattle.zy_read.specs.Format.{Step, Reading, read_on, reading_of, fault_met, verdict_on}
use Rattle.zy_read.specs.Fields.{Place, at_state, moved, judged_at, is_full, step_by, step, ended_by}
use Rattle.zy_read.specs.Fields.Judged.{Then, Gives, Wrong}
use Rattle.zy_read.specs.FieldsLasting.{lasting}
use Rattle.zy_read.specs.FieldReading.{EndsWith, EndsAt}
use Rattle.zy_read.specs.Standing.{StandsAs}
use Rattle.zy_read.proofs.Feeding.{fed_step, fault_lasts}
use Rattle.zy_pcap.specs.declared.pcap_fault.PcapFault.{PcapFault}
use Rattle.zy_pcap.specs.declared.pcap_state.PcapState.{PcapState}
use Rattle.zy_pcap.specs.declared.judged.Judged.TheVariants.{Taken}
use Rattle.zy_pcap.specs.declared.judged.Segment.{Segment}
use Rattle.zy_pcap.specs.declared.kept_flow.KeptFlow.{KeptFlow}
use Rattle.zy_pcap.specs.Steps.{FilePlace, DueJudged, file_start, frames}
use Rattle.zy_pcap.specs.Moves.{TakesMove, frame_read, then_record}
use Rattle.zy_pcap.specs.Frame.{judge}
use Rattle.zy_pcap.specs.Packet.{Packet, packet_in, packet_with}
use Rattle.zy_pcap.specs.Flow.{Flows, flows_of, flows_after, flows_with}
use Rattle.zy_pcap.specs.Kept.{MeetsFlows}
use Rattle.zy_pcap.specs.Packets.{FileState, frame_fault, packets_with, record_ended, file_does, packet_fields, found, recorded, packets}
use Rattle.zy_pcap.specs.Packets.FoundPackets.{Bad}
use Rattle.zy_pcap.specs.Standing.{PcapReading, without_packets, IsAtPlace, StandsForFile, FeedsFile, FeedsFileAs, TellsFileFault, TellsLastingFault, FinishesBy}
use Rattle.zy_pcap.specs.Streams.{kept_streams}
use Rattle.zy_pcap.specs.Step.{with_packets, FeedsRecords, KeepsPackets, MeetsFrame, PlaceIs, IsAfter, place_after, AnswersByte}
use Rattle.zy_pcap.proofs.StreamLemmas.{streams_same}

-- ---- packets

flows_after_last : (flows : Flows) (given : List Packet) (packet : Packet) → flows_after flows (given ++ packet ∷ []) ≡ flows_with (flows_after flows given) packet
flows_after_last flows [] packet = refl
flows_after_last flows (other ∷ given) packet = flows_after_last (flows_with flows other) given packet

flows_last : (given : List Packet) (packet : Packet) → flows_of (given ++ packet ∷ []) ≡ flows_with (flows_of given) packet
unfolding flows_of
flows_last given packet = flows_after_last [] given packet

-- the packet of a frame is added to the flows
pub frame_taken : (port at : ℕ) (frame payload : List ℕ) (segment : Segment) (old new : List (Option KeptFlow)) (result : Result ⊤ (NotTaken PcapFault)) → judge port at frame ≡ Taken segment → packet_with segment payload ≡ packet_in frame segment
    → MeetsFlows (packet_with segment payload) at old new result → MeetsFrame port at frame old new result
frame_taken port at frame payload segment old new (Ok u) is same meets = λ given keeps.
    let met = meets (flows_of given) keeps in
    rw (is, ← same) (met.0, rw (flows_last given (packet_with segment payload)) met.1)
frame_taken port at frame payload segment old new (Err (Fault fault)) is same meets = λ given keeps.
    let met = meets (flows_of given) keeps in
    rw (is, ← same) (met.0, met.1)
frame_taken port at frame payload segment old new (Err NoMemory) is same meets = λ given keeps. meets (flows_of given) keeps

-- ---- one byte

-- where a byte of the records leads, after some packets
abbrev after_records : ℕ → List Packet → FilePlace → FilePlace → Option (List ℕ) → Step (Place FileState PcapFault) ⊤
after_records port given p next None = record { next = with_packets next given; gave = None }
after_records port given p next (Some frame) =
    moved (with_packets p given) (record_ended (record { records = p.state; packets = given }) next.state frame (judge port p.state.begun frame))

module _ (port : ℕ) (given : List Packet) (p : FilePlace) where
  abbrev on : Step FilePlace (List ℕ) → Step (Place FileState PcapFault) ⊤
  on s = after_records port given p s.next s.gave

  judged_same : (judged : DueJudged) → moved (with_packets p given) (file_does port (record { records = p.state; packets = given }) judged) ≡ on (moved p judged)
  judged_same (Then next) = refl
  judged_same (Gives next frame) = refl
  judged_same (Wrong fault) = refl

  if_same : (test : Bool) (u v : Step (Place FileState PcapFault) ⊤) (x y : Step FilePlace (List ℕ)) → u ≡ on x → v ≡ on y → (if test then u else v) ≡ on (if test then x else y)
  if_same true u v x y first second = first
  if_same false u v x y first second = second

  by_fault : (byte : ℕ) (fault : Option PcapFault) → step_by fault (packet_fields port) (with_packets p given) byte ≡ on (step_by fault frames p byte)
  by_fault byte (Some fault) = refl
  by_fault byte None =
      if_same (is_full frames p) _ _ _ _ refl (if_same (nat_lt (length p.seen + 1) (frames.width p.state)) _ _ _ _ refl (judged_same (judged_at frames p byte)))

  -- a byte of the file is one of its records
  step_same : (byte : ℕ) → step (packet_fields port) (with_packets p given) byte ≡ on (step frames p byte)
  step_same byte = by_fault byte p.fault

after_is : (old : PcapReading) (byte : ℕ) (given : List Packet) (next : FilePlace) (gave : Option (List ℕ)) → step frames old.place byte ≡ record { next = next; gave = gave }
    → place_after old byte given ≡ (after_records old.port given old.place next gave).next
after_is old byte given next gave is =
    ap (λ (s : Step (Place FileState PcapFault) ⊤). s.next) (step_same old.port given old.place byte)
    ∙ ap (λ (s : Step FilePlace (List ℕ)). (after_records old.port given old.place s.next s.gave).next) is

-- no record ends
still_after : (old new : PcapReading) (byte : ℕ) (given : List Packet) (fault : Option PcapFault) → new.kept ≡ old.kept → KeepsPackets old.kept given → step frames old.place byte ≡ record { next = new.place; gave = None } → new.place.fault ≡ fault → IsAfter new (place_after old byte given) fault
still_after old new byte given fault kept keeps is met =
    subst (λ (q : Place FileState PcapFault). IsAfter new q fault) (sym (after_is old byte given new.place None is)) ((refl, rw kept keeps), met)

pub goes_follows : (old new : PcapReading) (byte : ℕ) → new.kept ≡ old.kept → TakesMove (step frames old.place byte) old.place new.place (Ok false) → AnswersByte old new byte (Ok tt)
goes_follows old new byte kept takes = λ given keeps. still_after old new byte given None kept keeps takes.0 takes.1

pub refused_follows : (old new : PcapReading) (byte : ℕ) (refused : NotTaken PcapFault) → new.kept ≡ old.kept → TakesMove (step frames old.place byte) old.place new.place (Err refused) → AnswersByte old new byte (Err refused)
refused_follows old new byte (Fault fault) kept takes = λ given keeps. still_after old new byte given (Some fault) kept keeps takes.0 takes.1
refused_follows old new byte NoMemory kept takes = λ given keeps. (takes, rw kept keeps)

-- the end of a record
pub ends_follows : (old new : PcapReading) (whole : FilePlace) (byte : ℕ) (result : Result ⊤ (NotTaken PcapFault)) → TakesMove (step frames old.place byte) old.place whole (Ok true)
    → PlaceIs whole new.place result → MeetsFrame old.port whole.state.begun (frame_read whole) old.kept new.kept result → AnswersByte old new byte result
ends_follows old new whole byte (Ok u) takes is meets = λ given keeps.
    let frame : List ℕ = frame_read whole in
    let state_is : whole.state ≡ old.place.state = ap (λ (p : FilePlace). p.state) takes.rest in
    let met = subst (λ (s : PcapState). (frame_fault s.begun frame given (judge old.port s.begun frame) ≡ None) × KeepsPackets new.kept (packets_with frame given (judge old.port s.begun frame))) state_is (meets given keeps) in
    subst (λ (q : Place FileState PcapFault). IsAfter new q None) (sym (after_is old byte given (then_record old.place) (Some frame) takes.ends))
    (rw met.0 ((is ∙ ap then_record takes.rest, met.1), refl))
ends_follows old new whole byte (Err (Fault fault)) takes is meets = λ given keeps.
    let frame : List ℕ = frame_read whole in
    let state_is : whole.state ≡ old.place.state = ap (λ (p : FilePlace). p.state) takes.rest in
    let met = subst (λ (s : PcapState). (frame_fault s.begun frame given (judge old.port s.begun frame) ≡ Some fault) × KeepsPackets new.kept given) state_is (meets given keeps) in
    subst (λ (q : Place FileState PcapFault). IsAfter new q (Some fault)) (sym (after_is old byte given (then_record old.place) (Some frame) takes.ends))
    (rw met.0 ((is ∙ ap (λ (p : FilePlace). record p { seen = []; fault = Some fault }) takes.rest, met.1), refl))
ends_follows old new whole byte (Err NoMemory) takes is meets = λ given keeps. (is ∙ takes.front, meets given keeps)

-- ---- the clauses of a byte

-- where the bytes of a file lead
abbrev last_of : ℕ → List ℕ → Place FileState PcapFault
last_of port b = (reading_of (recorded port) b).last

last_step : (port : ℕ) (b : List ℕ) (byte : ℕ) → last_of port (b ++ byte ∷ []) ≡ (step (packet_fields port) (last_of port b) byte).next
unfolding StandsAs
last_step port b byte =
    ap (λ (r : Reading (Place FileState PcapFault) ⊤). r.last) (fed_step (recorded port) (last_of port b) byte (reading_of (recorded port) b).given b refl)

-- the state after a byte
after : (old new : PcapReading) (byte : ℕ) (b : List ℕ) (fault : Option PcapFault) → old.place ≡ without_packets (last_of old.port b) → IsAfter new (place_after old byte (last_of old.port b).state.packets) fault → IsAfter new (last_of old.port (b ++ byte ∷ [])) fault
after old new byte b fault place is =
    let given : List Packet = (last_of old.port b).state.packets in
    subst (λ (q : Place FileState PcapFault). IsAfter new q fault)
    (ap (λ (p : FilePlace). (step (packet_fields old.port) (with_packets p given) byte).next) place ∙ sym (last_step old.port b byte)) is

stands : (old new : PcapReading) (fed : List ℕ) (fault : Option PcapFault) → new.port ≡ old.port → IsAfter new (last_of old.port fed) fault → StandsForFile new fed
unfolding StandsForFile
stands old new fed fault port is = rw port is.0

pub fed : (old new : PcapReading) (byte : ℕ) (result : Result ⊤ (NotTaken PcapFault)) → new.port ≡ old.port → AnswersByte old new byte result → FeedsFileAs old new (byte ∷ []) result
unfolding StandsForFile
fed old new byte (Ok u) port follows = λ b stood. stands old new (b ++ byte ∷ []) None port (after old new byte b None stood.0 (follows (last_of old.port b).state.packets stood.1))
fed old new byte (Err (Fault fault)) port follows = λ b stood. stands old new (b ++ byte ∷ []) (Some fault) port (after old new byte b (Some fault) stood.0 (follows (last_of old.port b).state.packets stood.1))
fed old new byte (Err NoMemory) port follows = λ b stood.
    let is = follows (last_of old.port b).state.packets stood.1 in rw (append-nil b, port) (is.0 ∙ stood.0, is.1)

pub told : (old new : PcapReading) (byte : ℕ) (result : Result ⊤ (NotTaken PcapFault)) → AnswersByte old new byte result → TellsFileFault old (byte ∷ []) result
unfolding StandsForFile fault_met
told old new byte (Ok u) follows = λ b stood. (after old new byte b None stood.0 (follows (last_of old.port b).state.packets stood.1)).1
told old new byte (Err (Fault fault)) follows = λ b stood. (after old new byte b (Some fault) stood.0 (follows (last_of old.port b).state.packets stood.1)).1
told old new byte (Err NoMemory) follows = tt

pub lasts : (old new : PcapReading) (byte : ℕ) (result : Result ⊤ (NotTaken PcapFault)) → AnswersByte old new byte result → TellsLastingFault old (byte ∷ []) result
lasts old new byte (Ok u) follows = tt
lasts old new byte (Err (Fault fault)) follows = λ b more stood.
    rw (← append_assoc b (byte ∷ []) more) (fault_lasts (recorded old.port) (lasting (packet_fields old.port) found Bad) (b ++ byte ∷ []) more fault (told old new byte (Err (Fault fault)) follows b stood))
lasts old new byte (Err NoMemory) follows = tt

-- bytes within a frame
pub run_stands : (port : ℕ) (old new : FilePlace) (kept : List (Option KeptFlow)) (bytes : List ℕ) → FeedsRecords old new bytes
    → FeedsFile (record { port = port; place = old; kept = kept }) (record { port = port; place = new; kept = kept }) bytes
unfolding StandsForFile StandsAs
run_stands port old new kept bytes feeds = λ b stood.
    let given : List Packet = (last_of port b).state.packets in
    let here : reading_of (recorded port) b ≡ record { given = (reading_of (recorded port) b).given; last = with_packets old given } =
    ap (λ (p : FilePlace). record { given = (reading_of (recorded port) b).given; last = with_packets p given }) (sym stood.0) in
    subst (λ (q : Place FileState PcapFault). IsAtPlace (record { port = port; place = new; kept = kept }) q)
    (sym (ap (λ (r : Reading (Place FileState PcapFault) ⊤). r.last) (feeds port given (reading_of (recorded port) b).given b here))) (refl, stood.1)

-- no byte
pub begins : (port : ℕ) (place : FilePlace) (kept : List (Option KeptFlow)) → place ≡ at_state file_start 0 → kept ≡ [] → StandsForFile (record { port = port; place = place; kept = kept }) []
unfolding StandsForFile reading_of read_on flows_of
begins port place kept is none = (is, rw none tt)

-- ---- the end of the bytes

pub finished : (r : PcapReading) (streams : List (List (List ℕ))) → EndsAt frames r.place (Ok tt) → streams ≡ kept_streams r.kept → FinishesBy r (Ok streams)
unfolding StandsForFile verdict_on
finished r streams ends is = λ b stood.
    let q : Place FileState PcapFault = last_of r.port b in
    let here : EndsAt frames (without_packets q) (Ok tt) = subst (λ (p : FilePlace). EndsAt frames p (Ok tt)) stood.0 ends in
    rw (here.0, here.1) (is ∙ streams_same r.kept (flows_of q.state.packets) stood.1)

bad_by : (port : ℕ) (met : Option PcapFault) (q : Place FileState PcapFault) (given : List ⊤) (fault : PcapFault) → EndsWith frames met (without_packets q) fault → ended_by met (packet_fields port) found Bad q given ≡ Bad fault
bad_by port None q given fault ends = rw ends.0 (ap Bad (sym ends.1))
bad_by port (Some met) q given fault ends = ap Bad ends

pub finished_bad : (r : PcapReading) (fault : PcapFault) → EndsAt frames r.place (Err fault) → FinishesBy r (Err fault)
unfolding StandsForFile verdict_on
finished_bad r fault ends = λ b stood.
    let q : Place FileState PcapFault = last_of r.port b in
    let bad : packets r.port b ≡ Bad fault = bad_by r.port q.fault q (reading_of (recorded r.port) b).given fault (subst (λ (p : FilePlace). EndsAt frames p (Err fault)) stood.0 ends) in
    rw bad refl
