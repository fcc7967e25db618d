use Rattle.zy_pcap.proofs.CountLemmas.{stream_few}
use Rattle.format_laws.proofs.packets.a_stream_is_no_longer_than_its_payloads.Goals as goal

pub returns : goal.returns
returns c = record { value = stream_few }
