-- Flows: their connection numbers and their sessions, packet after packet.
use Rattle.std.specs.Prelude.{ℕ, zero, suc, ◌+◌, ◌-◌, ◌%◌, nat_lt, if◌then◌else◌, List, [], ◌∷◌, ◌++◌, length, map}
use Rattle.std.specs.Prelude.{replicate, Option, None, Some, slice_index_or, slice_set}
use Rattle.std.specs.Cmp.Lexicographic.{pointwise}
use Rattle.std.specs.Prelude.{nat_eq, Bool}
use Rattle.zy_rss.specs.Toeplitz.{toeplitz}
use Rattle.zy_pcap.specs.declared.pcap_fault.PcapFault.{PcapFault}
use Rattle.zy_pcap.specs.declared.pcap_fault.PcapFault.TheVariants.{FlowCount, FlowLength}
use Rattle.zy_pcap.specs.declared.slot.Slot.{Slot}
use Rattle.zy_pcap.specs.declared.slot.Slot.TheVariants.{Known, New, Full}
use Rattle.zy_pcap.specs.Packet.{Packet}
use Rattle.zy_pcap.specs.Session.{Session, with_packet, current, first_by, reaches, session_stream}

-- ---- flows

-- a flow and its sessions
pub record Flow : Type 0 where
  -- source address, destination address, source port, destination port
  pub key : List ℕ
  pub sessions : List Session

-- the flow of each connection number, if it was given to one
abbrev pub Flows : Type 0
Flows = List (Option Flow)

-- the flow of a number
abbrev pub flow_at : Flows → ℕ → Option Flow
flow_at flows number = slice_index_or flows number None

-- the sessions of a flow
abbrev pub sessions_in : Option Flow → List Session
sessions_in None = []
sessions_in (Some flow) = flow.sessions

-- ---- connection numbers

-- the number of groups; those of a group differ by it
abbrev pub group_count : ℕ
group_count = 128

-- the most flows of a group
abbrev pub group_limit : ℕ
group_limit = 32

-- the group of a flow
abbrev pub group_of_flow : List ℕ → ℕ
group_of_flow key = toeplitz key % group_count

-- two flows are the same
abbrev pub is_same_flow : List ℕ → List ℕ → Bool
is_same_flow key other = pointwise nat_eq key other

-- the flow to which each number was given
abbrev pub Keys : Type 0
Keys = List (Option (List ℕ))

-- the connection number of a flow, among the `left` numbers of its group from some number on: the
-- one that it has, or else the least that was not given yet
abbrev pub slot_from : Keys → List ℕ → ℕ → ℕ → Slot
slot_from keys key number zero = Full
slot_from keys key number (suc left) =
    elim (slice_index_or keys number None) [
      | None ↦ New number
      | Some other ↦ if is_same_flow other key then Known number else slot_from keys key (number + group_count) left
    ]

-- the connection number of a flow
unfoldable pub slot_of : Keys → List ℕ → Slot
slot_of keys key = slot_from keys key (group_of_flow key) group_limit

-- the key of a flow
abbrev pub key_in : Option Flow → Option (List ℕ)
key_in None = None
key_in (Some flow) = Some flow.key

-- the flow to which each number was given
abbrev pub flow_keys : Flows → Keys
flow_keys flows = map key_in flows

-- ---- one further packet

-- the list with something at a place, which is in the list or after its end
abbrev pub put_at : {X : Type 0} → List (Option X) → ℕ → X → List (Option X)
put_at xs place x =
    if nat_lt place (length xs) then slice_set xs place (Some x)
    else xs ++ (replicate (place - length xs) None ++ Some x ∷ [])

-- the flow of a packet with this further packet
abbrev pub grown_flow : List Session → Packet → Flow
grown_flow sessions packet = record { key = packet.flow; sessions = with_packet sessions packet }

-- the flows with another packet, whose flow has this number
abbrev pub joined_at : Slot → Flows → Packet → Flows
joined_at (Known number) flows packet = put_at flows number (grown_flow (sessions_in (flow_at flows number)) packet)
joined_at (New number) flows packet = put_at flows number (grown_flow [] packet)
joined_at Full flows packet = flows

-- the flows with another packet
abbrev pub flows_with : Flows → Packet → Flows
flows_with flows packet = joined_at (slot_of (flow_keys flows) packet.flow) flows packet

-- the fault of a packet whose record is at a place, after these sessions of its flow
abbrev pub length_fault : List Session → Packet → ℕ → Option PcapFault
length_fault sessions packet at =
    if reaches (first_by (current sessions) packet) packet then Some (FlowLength at) else None

-- the fault of a packet whose record is at a place and whose flow has this number; the first packet of a flow begins at
-- the offset 0
abbrev pub flow_fault_at : Slot → Flows → Packet → ℕ → Option PcapFault
flow_fault_at (Known number) flows packet at = length_fault (sessions_in (flow_at flows number)) packet at
flow_fault_at (New number) flows packet at = None
flow_fault_at Full flows packet at = Some (FlowCount at)

-- the fault of a packet after some others
abbrev pub flow_fault : Flows → Packet → ℕ → Option PcapFault
flow_fault flows packet at = flow_fault_at (slot_of (flow_keys flows) packet.flow) flows packet at

-- the flows after further packets
abbrev pub flows_after : Flows → List Packet → Flows
flows_after flows [] = flows
flows_after flows (packet ∷ packets) = flows_after (flows_with flows packet) packets

-- the flows of some packets; their number is the greatest number given plus one, or 0
unfoldable pub flows_of : List Packet → Flows
flows_of packets = flows_after [] packets

-- ---- streams

-- the streams of a connection's sessions
abbrev pub streams_of_flow : Option Flow → List (List ℕ)
streams_of_flow flow = map session_stream (sessions_in flow)

-- the streams of all connections
abbrev pub streams_of_flows : Flows → List (List (List ℕ))
streams_of_flows flows = map streams_of_flow flows
