use Rattle.std.proofs.Common.{le_trans}
use Rattle.zy_pcap.proofs.FileLemmas.{file_short, capture_within}
use Rattle.zy_pcap.proofs.ByteLemmas.{capture_small}
use Rattle.zy_pcap.proofs.laws.the_capture_of_a_file_is_good.Goals as goal

pub returns : goal.returns
returns c = record {
  good = λ port bytes given found small.
      c.the_capture_of_packets_is_good.ensures.good given (capture_small port bytes given found small)
      (le_trans (capture_within port bytes given found) (file_short port bytes given found));
}
