-- What is made of recorded packets.
use Rattle.std.specs.Prelude.{◌≡◌, ℕ, List}
use Rattle.zy_capture.specs.Verdict.{verdict}
use Rattle.zy_pcap.specs.Packet.{Packet}
use Rattle.zy_pcap.specs.Packets.{packets}
use Rattle.zy_pcap.specs.Packets.FoundPackets.{Packets}
use Rattle.zy_pcap.specs.Made.{pcap_capture, pcap_verdict}

-- the bytes are recorded packets to the port, and this holds of their capture
pub record IsOfRecordedPackets (port : ℕ) (bytes : List ℕ) (Holds : List ℕ → Type 0) : Type 0 where
  pub given : List Packet
  pub are : packets port bytes ≡ Packets given
  pub capture : Holds (pcap_capture given)
  -- the capture is good
  pub good : verdict (pcap_capture given) ≡ pcap_verdict given
