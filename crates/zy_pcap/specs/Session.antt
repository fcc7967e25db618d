-- Sessions of a flow: where each begins, the offsets of its bytes, and its stream. RFC 9293, "Sequence Numbers".
use Rattle.std.specs.Prelude.{ℕ, zero, suc, ◌+◌, ◌-◌, ◌%◌, ◌^◌, ◌==◌, nat_lt, nat_le, if◌then◌else◌, Bool, false, not}
use Rattle.std.specs.Prelude.{◌&&◌, ◌||◌, List, [], ◌∷◌, ◌++◌, length, Option, None, Some, slice_get, slice_set}
use Rattle.zy_pcap.specs.Packet.{Packet}

-- ---- sessions

-- a session: its first packet, and all its packets in the order in which they were captured
pub record Session : Type 0 where
  pub first : Packet
  pub packets : List Packet

-- the session that a packet begins
abbrev pub session_begun_by : Packet → Session
session_begun_by packet = record { first = packet; packets = packet ∷ [] }

-- a SYN packet begins a new session if the current one began without SYN, or with another sequence number
abbrev pub begins : Packet → Packet → Bool
begins first packet = packet.is_syn && not (first.is_syn && (first.sequence == packet.sequence))

-- the current session
abbrev pub current : List Session → Option Session
current sessions = slice_get sessions (length sessions - 1)

-- the first packet of the session to which a packet goes, if this is the current one
abbrev pub first_by : Option Session → Packet → Packet
first_by None packet = packet
first_by (Some session) packet = if begins session.first packet then packet else session.first

-- the sessions with one more packet, if this is the current one
abbrev pub sessions_by : Option Session → List Session → Packet → List Session
sessions_by None sessions packet = sessions ++ session_begun_by packet ∷ []
sessions_by (Some session) sessions packet =
    if begins session.first packet then sessions ++ session_begun_by packet ∷ []
    else slice_set sessions (length sessions - 1) (record session { packets = session.packets ++ packet ∷ [] })

-- the sessions of a flow with one more packet
abbrev pub with_packet : List Session → Packet → List Session
with_packet sessions packet = sessions_by (current sessions) sessions packet

-- ---- offsets

-- the sequence number of the byte after a SYN, which counts one, or of the first byte without it
abbrev pub number_after : ℕ → Bool → ℕ
number_after sequence is_syn = (if is_syn then sequence + 1 else sequence) % 2 ^ 32

-- the sequence number of a packet's first payload byte
abbrev pub first_number : Packet → ℕ
first_number packet = number_after packet.sequence packet.is_syn

-- the offset of a payload byte in the session that began with the first of two packets
abbrev pub offset : Packet → Packet → ℕ → ℕ
offset first packet index = (first_number packet + index + (2 ^ 32 - first_number first)) % 2 ^ 32

-- the byte at the offset is a fault; an offset from 2^31 on is before the session
abbrev pub is_far : ℕ → Bool
is_far offset = nat_le (2 ^ 30) offset && nat_lt offset (2 ^ 31)

-- one of the first `count` payload bytes has an offset that is a fault
abbrev pub reaches_with : Packet → Packet → ℕ → Bool
reaches_with first packet zero = false
reaches_with first packet (suc count) = reaches_with first packet count || is_far (offset first packet count)

-- a payload byte has an offset that is a fault
abbrev pub reaches : Packet → Packet → Bool
reaches first packet = reaches_with first packet (length packet.payload)

-- ---- streams

-- the byte at an offset, of payload bytes from an index on
abbrev pub byte_from : Packet → Packet → ℕ → List ℕ → ℕ → Option ℕ
byte_from first packet index [] at = None
byte_from first packet index (byte ∷ bytes) at =
    if offset first packet index == at then Some byte else byte_from first packet (index + 1) bytes at

-- the byte of a packet at an offset
abbrev pub byte_of : Packet → Packet → ℕ → Option ℕ
byte_of first packet at = byte_from first packet 0 packet.payload at

-- the first one if it exists, otherwise the second one
abbrev pub byte_or_other : Option ℕ → Option ℕ → Option ℕ
byte_or_other None other = other
byte_or_other (Some byte) other = Some byte

-- the byte at an offset, of the first one of some packets that has it
abbrev pub byte_at : Packet → List Packet → ℕ → Option ℕ
byte_at first [] at = None
byte_at first (packet ∷ packets) at = byte_or_other (byte_of first packet at) (byte_at first packets at)

-- the bytes from an offset on, up to the first one that is missing, and at most `count`
abbrev pub longest_from : (ℕ → Option ℕ) → ℕ → ℕ → List ℕ
longest_from byte at zero = []
longest_from byte at (suc count) = elim (byte at) [ None ↦ [] | Some b ↦ b ∷ longest_from byte (at + 1) count ]

-- the longest list of bytes, each of which is that of its offset; offsets from 2^31 on are before
-- the session
unfoldable pub longest : (ℕ → Option ℕ) → List ℕ
longest byte = longest_from byte 0 (2 ^ 31)

-- the stream of a session
abbrev pub session_stream : Session → List ℕ
session_stream session = longest (byte_at session.first session.packets)
