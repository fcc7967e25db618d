use Rattle.std.proofs.Common.{refl}
use Rattle.zy_rss.specs.Toeplitz.{hash_of_first, window}
use Rattle.zy_capture.specs.Capture.{spelling}
use Rattle.zy_pcap.specs.Session.{longest}
use Rattle.zy_pcap.specs.Flow.{slot_of, flows_of}
use Rattle.zy_pcap.specs.Frame.{judge}
use Rattle.zy_read.specs.Format.{read_on, reading_of, verdict_on}
use Rattle.zy_pcap.specs.Made.{capture_of}
use Rattle.format_laws.specs.WorkedPackets.{worked_file, worked_flow, worked_packets, worked_capture}
use Rattle.format_laws.proofs.packets.the_worked_file_makes_its_capture.Goals as goal

pub returns : goal.returns
unfolding hash_of_first window spelling longest slot_of flows_of judge read_on reading_of verdict_on capture_of worked_file worked_flow worked_packets worked_capture
returns c = record { file = refl; capture = refl }
