-- Runs of bytes within a frame: they are fed as one byte after another.
use Rattle.std.proofs.Common.{◌≡◌, ℕ, ◌+◌, ◌≤◌, List, [], length, ap, arith}
use Rattle.std.specs.Prelude.{None}
use Rattle.zy_read.specs.Fields.{grown_by}
use Rattle.zy_read.proofs.FieldLemmas as Fields
use Rattle.zy_read.proofs.Feeding.{fed_none}
use Rattle.zy_pcap.specs.declared.due.Due.TheVariants as Dues
use Rattle.zy_pcap.specs.Steps.{FilePlace, file_limit}
use Rattle.zy_pcap.specs.Packets.{found, packet_fields, recorded}
use Rattle.zy_pcap.specs.Packets.FoundPackets.{Bad}
use Rattle.zy_pcap.specs.Step.{with_packets, FeedsRecords}

-- a run is fed
pub run_fed : (p q : FilePlace) (bytes : List ℕ) (others : ℕ) → p.state.due ≡ Dues.Frame others → p.fault ≡ None → length p.seen + length bytes ≤ others → p.at + length bytes ≤ file_limit → q ≡ grown_by p bytes → FeedsRecords p q bytes
run_fed p q bytes others is none short room same = λ port packets.
    Fields.run_fed (packet_fields port) found Bad (with_packets p packets) (with_packets q packets) bytes none (rw is (omega (arith, short))) room (ap (λ (r : FilePlace). with_packets r packets) same)

pub none_fed : (p : FilePlace) → FeedsRecords p p []
none_fed p = λ port packets. fed_none (recorded port) (with_packets p packets)
