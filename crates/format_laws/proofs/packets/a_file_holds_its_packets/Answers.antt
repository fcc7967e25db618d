use Rattle.zy_pcap.proofs.FileLemmas.{file_holds, file_short}
use Rattle.format_laws.proofs.packets.a_file_holds_its_packets.Goals as goal

pub returns : goal.returns
returns c = record { limit = file_short; holds = λ port bytes given found. (file_holds port bytes given found).records }
