-- What the stream of a session does not depend on: copies of bytes, and the order of packets that do not contradict
-- each other.
use Rattle.std.specs.Prelude.{◌≡◌, ℕ, List, Some, IsSome}
use Rattle.zy_pcap.specs.Packet.{Packet}
use Rattle.zy_pcap.specs.Session.{byte_of, byte_at, longest}

-- the stream of these packets, in a session that began with the first one
abbrev pub stream_of_packets : Packet → List Packet → List ℕ
stream_of_packets first packets = longest (byte_at first packets)

-- at each offset at which the packet has a byte, one of the others has one, with any value
abbrev pub IsCovered : Packet → List Packet → Packet → Type 0
IsCovered first packets packet = (at : ℕ) → IsSome (byte_of first packet at) → IsSome (byte_at first packets at)

-- at each offset at which both packets have a byte, it is the same
abbrev pub Agree : Packet → Packet → Packet → Type 0
Agree first one other = (at a b : ℕ) → byte_of first one at ≡ Some a → byte_of first other at ≡ Some b → a ≡ b
