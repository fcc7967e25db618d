-- What the reader keeps of sessions and flows, and what a packet does to it. No public clause cites this module.
use Rattle.std.specs.Prelude.{◌≡◌, ℕ, ◌+◌, ◌-◌, ◌%◌, ◌^◌, ◌<◌, if◌then◌else◌, ◌==◌, ◌&&◌, not, Bool, false, List, []}
use Rattle.std.specs.Prelude.{◌∷◌, ◌++◌, length, map, slice_get, slice_index_or, slice_set, Option, None, Some}
use Rattle.std.specs.Prelude.{Result, Ok, Err, ⊤}
use Rattle.zy_read.specs.declared.not_taken.NotTaken.{NotTaken}
use Rattle.zy_read.specs.declared.not_taken.NotTaken.TheVariants.{Fault, NoMemory}
use Rattle.zy_pcap.specs.declared.pcap_fault.PcapFault.{PcapFault}
use Rattle.zy_pcap.specs.declared.pcap_fault.PcapFault.TheVariants.{FlowLength}
use Rattle.zy_pcap.specs.declared.judged.Segment.{Segment}
use Rattle.zy_pcap.specs.declared.kept_session.KeptSession.{KeptSession}
use Rattle.zy_pcap.specs.declared.slot.Slot.{Slot}
use Rattle.zy_pcap.specs.declared.slot.Slot.TheVariants.{Known, New, Full}
use Rattle.zy_pcap.specs.declared.kept_flow.KeptFlow.{KeptFlow}
use Rattle.zy_pcap.specs.Packet.{Packet}
use Rattle.zy_pcap.specs.Session.{Session, reaches, byte_at, session_begun_by, with_packet}
use Rattle.zy_pcap.specs.Flow.{Flow, Flows, Keys, put_at, grown_flow, length_fault, flow_fault, flows_with}
use Rattle.zy_pcap.specs.Held.{byte_held, covered, HoldsSame, HoldsBoth}
use Rattle.zy_pcap.specs.Pairs.{BothOrNone, AllPairs}

-- ---- what is kept

-- what is kept of a session: its first packet's number and its bytes
pub record KeepsSession (kept : KeptSession) (session : Session) : Type 0 where
  pub sequence : kept.sequence ≡ session.first.sequence
  pub syn : kept.is_syn ≡ session.first.is_syn
  pub bytes : (at : ℕ) → at < 2 ^ 31 → byte_held kept.bytes at ≡ byte_at session.first session.packets at

-- what is kept of a flow: its key and its sessions
pub record KeepsFlow (kept : KeptFlow) (flow : Flow) : Type 0 where
  pub key : kept.key ≡ flow.key
  pub sessions : AllPairs KeepsSession kept.sessions.items flow.sessions

-- what is kept of all flows: those that were given a number
abbrev pub KeepsFlows : List (Option KeptFlow) → Flows → Type 0
KeepsFlows kept flows = AllPairs (BothOrNone KeepsFlow) kept flows

-- the key of a flow
abbrev pub kept_key : Option KeptFlow → Option (List ℕ)
kept_key None = None
kept_key (Some flow) = Some flow.key

-- the flow to which each number was given
abbrev pub kept_keys : List (Option KeptFlow) → Keys
kept_keys flows = map kept_key flows

-- ---- a packet

-- the offset of a byte with a sequence number, from a base on
abbrev pub apart : ℕ → ℕ → ℕ
apart base number = (number + (2 ^ 32 - base)) % 2 ^ 32

-- a packet begins a new session
abbrev pub is_ended_by : KeptSession → Segment → Bool
is_ended_by kept segment = segment.is_syn && not (kept.is_syn && (kept.sequence == segment.sequence))

-- a packet goes on with this session
abbrev pub continues_by : Option KeptSession → Segment → Bool
continues_by None segment = false
continues_by (Some session) segment = not (is_ended_by session segment)

-- a packet goes on with the current session
abbrev pub continues : List KeptSession → Segment → Bool
continues sessions segment = continues_by (slice_get sessions (length sessions - 1)) segment

-- bytes were added from an offset on, or an allocation failed
abbrev pub Adds : KeptSession → KeptSession → ℕ → List ℕ → Result ⊤ (NotTaken PcapFault) → Type 0
Adds old new from bytes (Ok u) =
    (new.sequence ≡ old.sequence) × (new.is_syn ≡ old.is_syn)
    × HoldsBoth (byte_held old.bytes) (byte_held new.bytes) (covered bytes from)
Adds old new from bytes (Err (Fault fault)) = ⊥
Adds old new from bytes (Err NoMemory) =
    (new.sequence ≡ old.sequence) × (new.is_syn ≡ old.is_syn) × HoldsSame (byte_held old.bytes) (byte_held new.bytes)

-- what was kept of something is, after a packet, kept of its successor; or there is this fault, or
-- an allocation failed
abbrev pub MeetsAs : {K S : Type 0} → (K → S → Type 0) → (S → Option PcapFault) → (S → S) → K → K
    → Result ⊤ (NotTaken PcapFault) → Type 0
MeetsAs {K} {S} keeps fault next old new (Ok u) = (s : S) → keeps old s → (fault s ≡ None) × keeps new (next s)
MeetsAs {K} {S} keeps fault next old new (Err (Fault f)) = (s : S) → keeps old s → (fault s ≡ Some f) × keeps new s
MeetsAs {K} {S} keeps fault next old new (Err NoMemory) = (s : S) → keeps old s → keeps new s

-- the fault of a packet in a session that goes on
abbrev pub session_fault : Packet → ℕ → Session → Option PcapFault
session_fault packet at session = if reaches session.first packet then Some (FlowLength at) else None

-- a session with one more packet
abbrev pub session_next : Packet → Session → Session
session_next packet session = record session { packets = session.packets ++ packet ∷ [] }

-- a packet comes to the session that goes on
abbrev pub MeetsSession : Packet → ℕ → KeptSession → KeptSession → Result ⊤ (NotTaken PcapFault) → Type 0
MeetsSession packet at old new result =
    MeetsAs KeepsSession (session_fault packet at) (session_next packet) old new result

-- a packet began a session, or an allocation failed
abbrev pub BeginsSession : Packet → List KeptSession → List KeptSession → Result ⊤ (NotTaken PcapFault) → Type 0
BeginsSession packet old new (Ok u) =
    (kept : KeptSession) × ((new ≡ old ++ kept ∷ []) × KeepsSession kept (session_begun_by packet))
BeginsSession packet old new (Err (Fault fault)) = ⊥
BeginsSession packet old new (Err NoMemory) = new ≡ old

-- a packet comes to the sessions of its flow
abbrev pub MeetsSessions : Packet → ℕ → List KeptSession → List KeptSession → Result ⊤ (NotTaken PcapFault) → Type 0
MeetsSessions packet at old new result =
    MeetsAs (AllPairs KeepsSession) (λ sessions. length_fault sessions packet at)
    (λ sessions. with_packet sessions packet)
    old new result

-- a packet comes to all flows
abbrev pub MeetsFlows : Packet → ℕ → List (Option KeptFlow) → List (Option KeptFlow) → Result ⊤ (NotTaken PcapFault)
    → Type 0
MeetsFlows packet at old new result =
    MeetsAs KeepsFlows (λ flows. flow_fault flows packet at) (λ flows. flows_with flows packet) old new result

-- ---- connection numbers

-- a number that a flow has or gets is below 4,096
abbrev pub IsNumber : Slot → Type 0
IsNumber (Known number) = number < 4096
IsNumber (New number) = number < 4096
IsNumber Full = ⊤

-- the flow that has a number has this key, and a number that is free was given to none
abbrev pub IsHolder : List (Option KeptFlow) → List ℕ → Slot → Type 0
IsHolder flows key (Known number) = slice_index_or (kept_keys flows) number None ≡ Some key
IsHolder flows key (New number) = slice_index_or (kept_keys flows) number None ≡ None
IsHolder flows key Full = ⊤

-- a packet comes to the flow of a number, and all others are as they were
abbrev pub MeetsFlow : ℕ → Packet → ℕ → List (Option KeptFlow) → List (Option KeptFlow) → Result ⊤ (NotTaken PcapFault)
    → Type 0
MeetsFlow number packet at old new result =
    (flow : KeptFlow) → slice_index_or old number None ≡ Some flow
    → (next : KeptFlow) × ((new ≡ slice_set old number (Some next)) × (next.key ≡ flow.key)
    × MeetsSessions packet at flow.sessions.items next.sessions.items result)

-- a flow that a packet begins has a number, or an allocation failed
abbrev pub BeginsFlow : ℕ → Packet → List (Option KeptFlow) → List (Option KeptFlow) → Result ⊤ (NotTaken PcapFault)
    → Type 0
BeginsFlow number packet old new (Ok u) =
    (flow : KeptFlow) × ((new ≡ put_at old number flow) × KeepsFlow flow (grown_flow [] packet))
BeginsFlow number packet old new (Err (Fault fault)) = ⊥
BeginsFlow number packet old new (Err NoMemory) = new ≡ old
