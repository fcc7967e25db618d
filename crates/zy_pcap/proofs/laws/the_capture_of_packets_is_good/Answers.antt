use Rattle.std.proofs.Common.{length}
use Rattle.zy_pcap.specs.Flow.{flows_of, streams_of_flows}
use Rattle.zy_pcap.specs.Made.{records_from, pcap_capture}
use Rattle.zy_pcap.proofs.GoodLemmas.{capture_spells}
use Rattle.zy_pcap.proofs.laws.the_capture_of_packets_is_good.Goals as goal

pub returns : goal.returns
returns c = record {
  good = λ packets bytes short.
      (c.a_capture_is_good_exactly_where_it_is_a_spelling.ensures.exactly (pcap_capture packets) 2 (length (streams_of_flows (flows_of packets))) (records_from 0 (streams_of_flows (flows_of packets))) bytes).1 (capture_spells packets short);
}
