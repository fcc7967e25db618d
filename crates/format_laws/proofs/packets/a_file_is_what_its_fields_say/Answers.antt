use Rattle.zy_read.proofs.VerdictLemmas.{outcome, whole_good}
use Rattle.format_laws.proofs.VerdictLemmas.{cut_bad, fault_bad}
use Rattle.zy_pcap.specs.Packets.{packet_fields, found}
use Rattle.zy_pcap.specs.Packets.FoundPackets.{Bad}
use Rattle.zy_pcap.proofs.WholeLemmas.{packets_lawful}
use Rattle.format_laws.proofs.packets.a_file_is_what_its_fields_say.Goals as goal

pub returns : goal.returns
returns c = record {
  only = λ port. outcome (packet_fields port) (packets_lawful port) found Bad;
  whole = λ port. whole_good (packet_fields port) (packets_lawful port) found Bad;
  cut = λ port. cut_bad (packet_fields port) (packets_lawful port) found Bad;
  fault = λ port. fault_bad (packet_fields port) (packets_lawful port) found Bad;
}
