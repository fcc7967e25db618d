use Rattle.zy_pcap.proofs.FileLemmas.{capture_within}
use Rattle.zy_pcap.proofs.ByteLemmas.{capture_small}
use Rattle.format_laws.proofs.packets.a_capture_is_no_longer_than_its_file.Goals as goal

pub returns : goal.returns
returns c = record { within = capture_within; bytes = capture_small }
